-- What the slice of the arrivals was given stands in their list.
use Rattle.std.proofs.Common.{arith, ◌≡◌, ◌∙◌, ◌++◌, List, map, length, take, drop, ap, sym, subst}
use Rattle.std.specs.Prelude.{All}
use Rattle.fleet_history.specs.declared.history.Arrival.{Arrival}
use Rattle.fleet_history.specs.Legal.{due_of}
use Rattle.fleet_state.proofs.Ranges.{front-of}
use Rattle.fleet_core.specs.Hooks.{law_at}
use Rattle.fleet_core.proofs.least_stamps.arrive.Goals as goal

pub stamp_arrivals-requires : goal.stamp_arrivals-requires
stamp_arrivals-requires g c = rw c.as_mut_slice.ensures.value c.requires

pub returns-clause-shows : goal.returns-clause-shows
returns-clause-shows g c =
    let new = c.stamp_arrivals.new.arrived in
    let rest = drop (length new) c.args.arrived.now.items in
    let whole : take c.args.arrived.now.len (new ++ rest) ≡ new = front-of c.args.arrived.now.len new rest (omega (arith, c.args.arrived.now.ok.0, c.stamp_arrivals.auto.arrived, ap length c.as_mut_slice.ensures.value)) in
    ap (λ (xs : List Arrival). map due_of xs) whole ∙ (c.stamp_arrivals.ensures.shows ∙ ap (λ (xs : List Arrival). map due_of xs) c.as_mut_slice.ensures.value)

pub returns-clause-stamps : goal.returns-clause-stamps
returns-clause-stamps g c =
    let new = c.stamp_arrivals.new.arrived in
    let rest = drop (length new) c.args.arrived.now.items in
    let whole : take c.args.arrived.now.len (new ++ rest) ≡ new = front-of c.args.arrived.now.len new rest (omega (arith, c.args.arrived.now.ok.0, c.stamp_arrivals.auto.arrived, ap length c.as_mut_slice.ensures.value)) in
    subst (All (λ (a : Arrival). a.stamp ≡ (law_at (map (λ x. x.arrival_law) c.args.robots.now) a.robot).low)) (sym whole) c.stamp_arrivals.ensures.stamps
