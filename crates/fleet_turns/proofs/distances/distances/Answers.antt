use Rattle.std.proofs.Common.{ℕ, List, subst}
use Rattle.fleet_grid.specs.Floor.{IsFloor}
use Rattle.fleet_turns.specs.inside.Checked.{IsAwayAt}
use Rattle.fleet_turns.proofs.CoreDistances.{are_away}
use Rattle.fleet_turns.proofs.distances.distances.Goals as goal

pub returns-then-are_away : goal.returns-then-are_away
returns-then-are_away g c =
    let m = c.args.grid.now in
    let core = c.args.core.now in
    are_away m core c.in_ok-away.away.items
    (subst (λ (away : List ℕ). (cell : ℕ) → IsFloor m cell → IsAwayAt m core away cell) c.deref.ensures.value (c.are_away.ensures c.if-are_away.true))
    c.requires.joined
