-- One more robot, if it is not in the queue.
use Rattle.std.proofs.Common.{◌≡◌, ◌<◌, false, ◌∷◌, [], ◌++◌, length, sym, ◌∙◌, ap, arith}
use Rattle.fleet_execution.specs.Queue.{Line}
use Rattle.fleet_execution.proofs.Queues.{has_room, queue_push, push_has, told_ok}
use Rattle.fleet_execution.proofs.queue.Queue.add.Goals as goal

pub invariant_of-self : goal.invariant_of-self
invariant_of-self g c =
    let inside : c.args.robot < length c.self.inside.waits = omega (arith, ap (λ (v : Line). v.robots) c.self.view_is, c.requires) in
    let absent = sym (c.get.ensures false) ∙ c.if-not-get.true in
    let room = has_room c.self.inside.order.items c.self.inside.order.capacity c.self.inside.waits c.args.robot c.self.invariant inside absent in
    let pushed : c.try_push_back.new.self ≡ record { items = c.self.inside.order.items ++ c.args.robot ∷ []; capacity = c.self.inside.order.capacity } =
    told_ok c.try_push_back.result _ _ c.try_push_back.ensures.variant.1 room c.try_push_back.ensures.ok in
    rw (pushed, c.set.ensures) (queue_push c.self.inside.order.items c.self.inside.order.capacity c.self.inside.waits c.args.robot c.self.invariant inside absent)

pub returns-then-not-get-clause-added : goal.returns-then-not-get-clause-added
returns-then-not-get-clause-added g c =
    let inside : c.args.robot < length c.self.inside.waits = omega (arith, ap (λ (v : Line). v.robots) c.self.view_is, c.requires) in
    let absent = sym (c.get.ensures false) ∙ c.if-not-get.true in
    let room = has_room c.self.inside.order.items c.self.inside.order.capacity c.self.inside.waits c.args.robot c.self.invariant inside absent in
    let pushed : c.try_push_back.new.self ≡ record { items = c.self.inside.order.items ++ c.args.robot ∷ []; capacity = c.self.inside.order.capacity } =
    told_ok c.try_push_back.result _ _ c.try_push_back.ensures.variant.1 room c.try_push_back.ensures.ok in
    rw pushed (push_has c.args.robot c.self.inside.order.items)
