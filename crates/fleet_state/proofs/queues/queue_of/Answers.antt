-- The errands that the loop has come to lie in the queue, with one more.
use Rattle.std.proofs.Common.{arith, ◌≡◌, ◌∙◌, ◌<◌, List, ap, sym, length}
use Rattle.std.proofs.lemmas.List.{take_all, take_more, length-take-le}
use Rattle.fleet_queue.specs.declared.errand.Errand.{Errand}
use Rattle.fleet_queue.specs.Queue.{Queue}
use Rattle.fleet_state.proofs.Fronts.{pushed}
use Rattle.fleet_state.proofs.queues.queue_of.Goals as goal

pub loop-errand-preserved : goal.loop-errand-preserved
loop-errand-preserved g c =
    let xs = c.args.errands.now in
    let i = c.loop-errand.errand-index in
    let many : length c.loop-errand.queue.items ≡ i = ap (λ (q : Queue). length q.items) c.loop-errand.invariant ∙ length-take-le i xs c.loop-errand.auto.errand-index-end in
    let room : c.loop-errand.queue.capacity ≡ c.args.room = ap (λ (q : Queue). q.capacity) c.loop-errand.invariant in
    let free : length c.loop-errand.queue.items < c.loop-errand.queue.capacity = omega (arith, many, room, c.loop-errand-test.true, c.requires) in
    pushed c.loop-errand.queue c.try_push.new.self _ c.try_push.result free c.try_push.ensures.room c.try_push.ensures.ok
    ∙ rw c.loop-errand.invariant (ap (λ (u : List Errand). record { items = u; capacity = c.args.room }) (sym (take_more xs i _ c.loop-errand-test.true)))

pub returns : goal.returns
returns g c = c.loop-errand.invariant ∙ ap (λ (u : List Errand). record { items = u; capacity = c.args.room }) (take_all c.loop-errand.errand-index c.args.errands.now c.loop-errand-test.false)
