use Rattle.std.proofs.Common.{◌≡◌, ◌∙◌, sym, ap, length, List, subst, refl}
use Rattle.std.proofs.lemmas.List.{length-map}
use Rattle.fleet_queue.specs.Queue.{Queue}
use Rattle.fleet_state.specs.Opened.{queue_in}
use Rattle.fleet_state.specs.inside.Fronts.{AreFronts}
use Rattle.fleet_state.proofs.Parts.{length-by}
use Rattle.fleet_state.proofs.robots.Robots.open.Goals as goal

pub invariant_of-result : goal.invariant_of-result
invariant_of-result g c =
    let xs = c.args.states.now in
    let many : length c.in_ok-queues.queues.items ≡ length xs = ap length c.in_ok-queues.ensures ∙ length-by (queue_in c.args.rooms.now xs) (length xs) in
    let cells : length c.in_ok-cells.cells.items ≡ length xs = ap length c.in_ok-cells.ensures ∙ length-map xs _ in
    let waits : length c.in_ok-waits.waits.items ≡ length xs = ap length c.in_ok-waits.ensures ∙ length-map xs _ in
    (cells ∙ sym many, waits ∙ sym many, subst (λ (queues : List Queue). AreFronts queues c.in_ok-fronts.fronts.items) c.as_slice.ensures.value c.in_ok-fronts.ensures)

pub queues_of-requires : goal.queues_of-requires
queues_of-requires g c = c.requires

pub returns : goal.returns
returns g c = rw (c.in_ok-cells.ensures, c.in_ok-waits.ensures, c.in_ok-queues.ensures) refl
