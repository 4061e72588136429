use Rattle.std.proofs.Common.{ℕ, ◌≡◌, ◌<◌, List, length, sym, ap, ◌∙◌, subst, arith}
use Rattle.std.proofs.lemmas.List.{length-set, get_or_read}
use Rattle.fleet_queue.specs.Queue.{Queue}
use Rattle.fleet_state.specs.Robots.{Robots, queue_at, no_queue, without_errand}
use Rattle.fleet_state.specs.inside.Fronts.{AreFronts}
use Rattle.fleet_state.proofs.Fronts.{fronts-withdrawn}
use Rattle.fleet_state.proofs.Steps.{set-before, set-behind}
use Rattle.fleet_state.proofs.robots.Robots.withdraw.Goals as goal

pub invariant_of-self : goal.invariant_of-self
invariant_of-self g c =
    let before = c.self.inside.queues.items in
    let queues = c.loop-r.self-inside.queues.items in
    let i = c.loop-r.invariant in (
      ap length i.cells ∙ c.self.invariant.0 ∙ sym i.count,
      ap length i.waits ∙ c.self.invariant.1 ∙ sym i.count,
      subst (λ (u : List ℕ). AreFronts queues u) (sym i.fronts) (fronts-withdrawn before queues c.self.inside.fronts.items c.args.client c.args.number c.loop-r.r c.self.invariant.2 i.count i.before i.behind),
    )

pub loop-r-preserved : goal.loop-r-preserved
loop-r-preserved g c =
    let queues = c.loop-r.self-inside.queues.items in
    let q = c.withdraw.new.self in
    let r = c.loop-r.r in
    let i = c.loop-r.invariant in
    let l : r < length queues = omega (arith, c.loop-r-test.true, c.len-r-end.ensures, i.count) in
    let without : Queue → Queue = without_errand c.args.client c.args.number in
    let here : q ≡ without (queue_at c.self.inside.queues.items r) =
    c.withdraw.ensures.rest ∙ ap without (get_or_read queues r c.index_mut-queue.result.now l c.index_mut-queue.ensures.value no_queue ∙ i.behind r (omega arith)) in
    record {
      cells = i.cells;
      count = length-set queues r q ∙ i.count;
      before = λ k b. set-before no_queue queues r k q (λ k. without (queue_at c.self.inside.queues.items k)) l here (i.before k) b;
      behind = λ k b. set-behind no_queue queues r k q b ∙ i.behind k (omega arith);
      fronts = i.fronts;
      waits = i.waits;
    }

pub returns : goal.returns
returns g c =
    let i = c.loop-r.invariant in
    record {
      cells = i.cells ∙ ap (λ (x : Robots). x.cells) c.self.view_is;
      count = i.count ∙ ap (λ (x : Robots). length x.queues) c.self.view_is;
      queues = λ r l. i.before r (omega (arith, l, c.loop-r-test.false, c.len-r-end.ensures, ap (λ (x : Robots). length x.queues) c.self.view_is))
          ∙ ap (λ (x : Robots). without_errand c.args.client c.args.number (queue_at x.queues r)) c.self.view_is;
      waits = i.waits ∙ ap (λ (x : Robots). x.waits) c.self.view_is;
    }
