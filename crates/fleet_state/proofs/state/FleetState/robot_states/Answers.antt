use Rattle.std.proofs.Common.{arith, ◌≡◌, ◌<◌, ◌∙◌, length, sym, ap, get_or}
use Rattle.std.proofs.lemmas.List.{get_or_read}
use Rattle.fleet_queue.specs.Queue.{Queue}
use Rattle.fleet_history.specs.History.{start}
use Rattle.fleet_history.specs.Legal.{arrival_law, farewell_law, no_law}
use Rattle.fleet_history.proofs.Legal.{unknown_robot}
use Rattle.fleet_state.specs.State.{state_with}
use Rattle.fleet_state.proofs.Laws.{robot-at}
use Rattle.fleet_state.proofs.Parts.{queues-in, robots-few}
use Rattle.fleet_state.proofs.NextOpening.{known-made}
use Rattle.fleet_state.proofs.state.FleetState.robot_states.Goals as goal

pub overflow_cast-r : goal.overflow_cast-r
overflow_cast-r g c = omega (arith, c.loop-r-test.true, ap length c.as_slice-opened.ensures, c.requires, ap length (queues-in c.self.view_is), robots-few c.self.invariant.is)

pub loop-r-preserved : goal.loop-r-preserved
loop-r-preserved g c =
    let o = c.args.opening.now in
    let r = c.loop-r.r in
    let l : r < length o.robots = omega (arith, c.loop-r-test.true, ap length c.as_slice-opened.ensures) in
    let opened = c.as_slice-opened.result.now in
    let x = c.index-opened-r.result in
    let y = c.index-opened-r-in-loop-r.result in
    let arrivals : (get_or opened r x).arrival_law ≡ arrival_law (start o) r =
    ap (λ x. x.arrival_law) (sym c.index-opened-r.is ∙ get_or_read o.robots r x l (rw c.as_slice-opened.ensures at c.index-opened-r.is) unknown_robot) ∙ sym (robot-at (λ x. x.arrival_law) o r no_law l) in
    let farewells : (get_or opened r y).farewell_law ≡ farewell_law (start o) r =
    ap (λ x. x.farewell_law) (sym c.index-opened-r-in-loop-r.is ∙ get_or_read o.robots r y l (rw c.as_slice-opened.ensures at c.index-opened-r-in-loop-r.is) unknown_robot) ∙ sym (robot-at (λ x. x.farewell_law) o r no_law l) in
    rw (c.in_ok-push.ensures.items, c.loop-r.invariant)
    (known-made (state_with c.self.inside.robots c.self.inside.clients c.self.inside.queue c.self.inside.rooms.items c.self.inside.tick) o r c.cell_of.result c.is_shut.result c.wait_of.result c.from_vec.result
    (get_or opened r x).arrival_law (get_or opened r y).farewell_law
    c.cell_of.ensures c.is_shut.ensures c.wait_of.ensures (c.from_vec.ensures ∙ c.in_ok-errands_of.ensures ∙ ap (λ (q : Queue). q.items) c.queue.ensures) arrivals farewells)

pub loop-r-init : goal.loop-r-init
loop-r-init g c = c.new-states.ensures.items

pub cell_of-requires : goal.cell_of-requires
cell_of-requires g c = omega (arith, c.loop-r-test.true, ap length c.as_slice-opened.ensures, c.requires, ap length (queues-in c.self.view_is))

pub wait_of-requires : goal.wait_of-requires
wait_of-requires g c = omega (arith, c.loop-r-test.true, ap length c.as_slice-opened.ensures, c.requires, ap length (queues-in c.self.view_is))

pub queue-requires : goal.queue-requires
queue-requires g c = omega (arith, c.loop-r-test.true, ap length c.as_slice-opened.ensures, c.requires, ap length (queues-in c.self.view_is))

pub offset_bounds-opened-r : goal.offset_bounds-opened-r
offset_bounds-opened-r g c = omega (arith, c.loop-r-test.true)

pub bounds-opened-r : goal.bounds-opened-r
bounds-opened-r g c = c.loop-r-test.true

pub bounds-opened-r-in_ok-errands_of : goal.bounds-opened-r-in_ok-errands_of
bounds-opened-r-in_ok-errands_of g c = c.loop-r-test.true

pub offset_bounds-opened-r-in-loop-r : goal.offset_bounds-opened-r-in-loop-r
offset_bounds-opened-r-in-loop-r g c = omega (arith, c.loop-r-test.true)

pub bounds-opened-r-in_ok-errands_of-2 : goal.bounds-opened-r-in_ok-errands_of-2
bounds-opened-r-in_ok-errands_of-2 g c = c.loop-r-test.true

pub bounds-opened-r-in_ok-errands_of-3 : goal.bounds-opened-r-in_ok-errands_of-3
bounds-opened-r-in_ok-errands_of-3 g c = c.loop-r-test.true
