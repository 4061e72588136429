-- The queue of the robot, which has no room where it is full.
use Rattle.std.proofs.Common.{◌≡◌, ◌∙◌, ◌<◌, ap, sym, subst, length, not, Bool, true, false, arith, refl}
use Rattle.std.specs.Prelude.{IsTrue, ◌↔◌}
use Rattle.fleet_queue.specs.Queue.{Queue}
use Rattle.fleet_book.specs.declared.verdict.Verdict.TheVariants.{Accepted}
use Rattle.fleet_state.specs.Robots.{HasPlace, queue_at}
use Rattle.fleet_state.proofs.Parts.{queues-in}
use Rattle.fleet_state.proofs.state.FleetState.has_room.Goals as goal

no_room : (full : Bool) (q : Queue) → not full ≡ false → (IsTrue full ↔ (length q.items ≡ q.capacity)) →
    length q.items < q.capacity → ⊥
no_room true q e f l = omega (arith, f.0 refl)
no_room false q e f l = cc

pub returns-then-r-len-clause-full : goal.returns-then-r-len-clause-full
returns-then-r-len-clause-full g c e number k =
    let queue : c.queue.result.now ≡ queue_at c.args.self.now.queues c.in-Go.robot =
    c.queue.ensures ∙ ap (λ queues. queue_at queues c.in-Go.robot) (queues-in c.self.view_is) in
    no_room c.is_full.result c.queue.result.now e c.is_full.ensures.full
    (subst (λ (q : Queue). length q.items < q.capacity) (sym queue)
    (subst (λ o. HasPlace c.args.self.now.queues o (Accepted number)) c.in-Go.is k))
