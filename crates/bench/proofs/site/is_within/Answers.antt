use Rattle.std.proofs.Common.{rules}
use Rattle.bench.proofs.Courses.{joined_within}
use Rattle.bench.proofs.site.is_within.Goals as goal

pub returns : goal.returns
returns c = λ yes. joined_within c.args.grid.now c.args.home c.args.cell (c.is_floor.ensures.0 (search rules)) (c.same_part.ensures.0 yes)
