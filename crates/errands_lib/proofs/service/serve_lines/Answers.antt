-- The grid that is served on is the map's.
use Rattle.std.proofs.Common.{subst}
use Rattle.fleet_grid.specs.Floor.{Floor}
use Rattle.std.specs.Prelude.{IfOk}
use Rattle.fleet_text.specs.Said.{said}
use Rattle.fleet_script.specs.Shown.{plan}
use Rattle.fleet_text.specs.Kit.{kit_laws}
use Rattle.errands_lib.specs.Outcome.{IsServed}
use Rattle.errands_lib.proofs.service.serve_lines.Goals as goal

pub returns : goal.returns
returns g c = subst (λ (m : Floor). IfOk c.serve_on.result (λ s. IsServed (kit_laws c.args.kit) m (plan c.args.script.now) (said s))) c.in-Ok.ensures.served c.serve_on.ensures
