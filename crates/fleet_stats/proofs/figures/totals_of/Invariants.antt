use Rattle.std.proofs.Common.{◌≡◌, ◌+◌, ◌-◌, ◌^◌, drop, min, max}
use Rattle.std.specs.List.{fold}
use Rattle.fleet_stats.specs.Figures.{total_by, greatest_by}
use Rattle.fleet_stats.proofs.figures.totals_of.Given as goal

abbrev pub invariant-loop-row : goal.invariant-loop-row
invariant-loop-row l = record {
  arrivals : fold (λ sum x. min (sum + x.arrivals) (2 ^ 64 - 1)) l.arrivals (drop l.row-index l.ticks) ≡ total_by (λ x. x.arrivals) l.ticks;
  moves : fold (λ sum x. min (sum + x.moves) (2 ^ 64 - 1)) l.moves (drop l.row-index l.ticks) ≡ total_by (λ x. x.moves) l.ticks;
  idle : fold (λ sum x. min (sum + x.idle) (2 ^ 64 - 1)) l.idle (drop l.row-index l.ticks) ≡ total_by (λ x. x.idle) l.ticks;
  waited : fold (λ most x. max most x.waited) l.waited (drop l.row-index l.ticks) ≡ greatest_by (λ x. x.waited) l.ticks;
}
