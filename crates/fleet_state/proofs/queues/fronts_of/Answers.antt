use Rattle.std.proofs.Common.{arith, sym, ◌≡◌, Some, subst}
use Rattle.std.proofs.lemmas.Grind.{common_steps}
use Rattle.std.proofs.lemmas.List.{get_or_read}
use Rattle.std.specs.Prelude.{slice_get}
use Rattle.fleet_queue.specs.Queue.{Queue}
use Rattle.fleet_state.specs.Robots.{queue_at, no_queue}
use Rattle.fleet_state.proofs.Fronts.{fronts-more, has-front}
use Rattle.fleet_state.proofs.queues.fronts_of.Goals as goal

pub loop-r-preserved : goal.loop-r-preserved
loop-r-preserved g c =
    let queues = c.args.queues.now in
    let r = c.loop-r.r in
    let q = c.index-queues-r.result in
    let read : q ≡ queue_at queues r = get_or_read queues r q (omega (arith, c.loop-r-test.true)) c.index-queues-r.is no_queue in
    record {
      count = grind (arith, common_steps);
      cells = λ k f l e.
          rw c.in_ok-push.ensures.items
          (fronts-more queues c.loop-r.fronts.items r c.front_cell.result k f c.loop-r.invariant.count (c.loop-r.invariant.cells k f)
          (λ h. c.front_cell.ensures f (subst (λ (q : Queue). slice_get q.items 0 ≡ Some f) (sym read) h)) l e);
    }

pub returns : goal.returns
returns g c = record {
  count = omega (arith, c.loop-r.invariant.count, c.loop-r-test.false, c.loop-r.auto.r-end);
  cells = λ k f e. c.loop-r.invariant.cells k f (omega (arith, has-front c.args.queues.now k f e, c.loop-r-test.false)) e;
}
