use Rattle.fleet_bound.proofs.BoundLaws.{bound-begins, bound-empty}
use Rattle.fleet_bound.proofs.law.openings_keep_bound.Goals as goal

pub returns : goal.returns
returns g c = record { unwaited = bound-begins; empty = bound-empty }
