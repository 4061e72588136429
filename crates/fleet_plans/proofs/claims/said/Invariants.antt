use Rattle.std.proofs.Common.{◌≡◌, length}
use Rattle.fleet_map.specs.Text.{lines_of}
use Rattle.fleet_plans.specs.Claims.{said}
use Rattle.fleet_plans.proofs.claims.said.Given as goal

abbrev pub invariant-loop-line : goal.invariant-loop-line
invariant-loop-line l = said l.key (lines_of l.rest) ≡ said l.key (lines_of l.text)

abbrev pub decreases-loop-line : goal.decreases-loop-line
decreases-loop-line l = length l.rest
