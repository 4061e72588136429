use Rattle.std.proofs.Common.{◌≡◌, ◌+◌, ◌-◌, ◌^◌, drop, min}
use Rattle.std.specs.Prelude.{unwrap_or}
use Rattle.std.specs.List.{fold}
use Rattle.fleet_stats.specs.Figures.{total_by}
use Rattle.fleet_stats.proofs.figures.ways_of.Given as goal

abbrev pub invariant-loop-row : goal.invariant-loop-row
invariant-loop-row l = record {
  steps : fold (λ sum x. min (sum + x.done.leg.steps) (2 ^ 64 - 1)) l.steps (drop l.row-index l.rows) ≡ total_by (λ x. x.done.leg.steps) l.rows;
  distance : fold (λ sum x. min (sum + unwrap_or x.distance 0) (2 ^ 64 - 1)) l.distance (drop l.row-index l.rows) ≡ total_by (λ x. unwrap_or x.distance 0) l.rows;
}
