-- The chapter is judged, its end is tested, and the opening that follows is made from the state at its end.
use Rattle.std.proofs.Common.{refl, sym}
use Rattle.fleet_history.specs.History.{history_of, start}
use Rattle.fleet_history.specs.Next.{next_opening}
use Rattle.fleet_state.proofs.NextOpening.{goes-on}
use Rattle.fleet_state.proofs.Parts.{queue-count}
use Rattle.fleet_reopen.proofs.Ends.{room-counts, late-fault, waits-fault, can-reopen}
use Rattle.fleet_reopen.proofs.reopening.opening_after.Goals as goal

pub returns-then-clock-limits-clause-fault : goal.returns-then-clock-limits-clause-fault
returns-then-clock-limits-clause-fault g c =
    let h = history_of c.args.chapter.now in
    late-fault c.args.grid.now c.args.chapter.now.number h c.args.limits c.args.laws.now (c.is_valid.ensures.0 c.if-not-is_valid.false) c.in-Ok.ensures.ok c.in_default.ensures
    c.clock.result (c.clock.ensures.of c.args.grid.now h c.in_ok-state.ensures) c.if-clock-limits.true

pub returns-then-not-branch-clause-fault : goal.returns-then-not-branch-clause-fault
returns-then-not-branch-clause-fault g c =
    let m = c.args.grid.now in
    let h = history_of c.args.chapter.now in
    let valid = c.is_valid.ensures.0 c.if-not-is_valid.false in
    let fit = c.in_default.ensures in
    waits-fault m c.args.chapter.now.number h c.args.limits c.args.laws.now valid c.in-Ok.ensures.ok fit
    c.clock.result (c.clock.ensures.of m h c.in_ok-state.ensures) c.if-clock-limits.false
    (c.in_ok-is_within_bound.ensures.no c.if-not-branch.true (start (next_opening h)) (goes-on c.in_ok-state.ensures (room-counts h c.args.chapter.now.number c.args.limits valid fit.counted)))

pub next_opening-requires : goal.next_opening-requires
next_opening-requires g c = sym (queue-count c.in_ok-state.ensures)

pub returns-clause-next : goal.returns-clause-next
returns-clause-next g c = c.in_ok-next_opening.ensures.next c.args.grid.now (history_of c.args.chapter.now) c.in_ok-state.ensures refl

pub returns-clause-can : goal.returns-clause-can
returns-clause-can g c =
    let m = c.args.grid.now in
    let h = history_of c.args.chapter.now in
    let valid = c.is_valid.ensures.0 c.if-not-is_valid.false in
    let fit = c.in_default.ensures in
    can-reopen m c.args.chapter.now.number h c.args.limits c.args.laws.now valid c.in-Ok.ensures.ok fit
    c.clock.result (c.clock.ensures.of m h c.in_ok-state.ensures) c.if-clock-limits.false
    (λ bridgeless. c.in_ok-is_within_bound.ensures.yes c.if-not-branch.false (start (next_opening h)) (goes-on c.in_ok-state.ensures (room-counts h c.args.chapter.now.number c.args.limits valid fit.counted)) bridgeless)
