use Rattle.std.proofs.Common.{arith, ap, sym, length, None, ◌≡◌, ◌∙◌, ◌<◌}
use Rattle.std.specs.Prelude.{slice_index_or}
use Rattle.std.proofs.lemmas.List.{length-set, get_or_read}
use Rattle.fleet_queue.specs.Queue.{Queue}
use Rattle.fleet_state.specs.Landed.{landing}
use Rattle.fleet_state.specs.Robots.{Robots, queue_at, no_queue}
use Rattle.fleet_state.proofs.Fronts.{fronts-set, stepped-inside}
use Rattle.fleet_state.proofs.robots.Robots.step_on_front.Goals as goal

pub invariant_of-self : goal.invariant_of-self
invariant_of-self g c =
    let queues = c.self.inside.queues.items in
    let r = c.args.robot in
    let l : r < length queues = omega (arith, c.requires.known, ap (λ (x : Robots). length x.queues) c.self.view_is) in
    let count = sym (length-set queues r c.take_landed-landed.new.queue) in (
      length-set c.self.inside.cells.items r c.args.cell ∙ c.self.invariant.0 ∙ count,
      length-set c.self.inside.waits.items r c.wait_after.result ∙ c.self.invariant.1 ∙ count,
      fronts-set queues c.self.inside.fronts.items r c.take_landed-landed.new.queue c.front_cell.result c.self.invariant.2 l c.front_cell.ensures,
    )

pub wait_after-requires : goal.wait_after-requires
wait_after-requires g c = record {
  small = λ w e. c.requires.small w
      (sym (get_or_read c.self.inside.waits.items c.args.robot c.index.result.now (omega (arith, c.requires.known, ap (λ (x : Robots). length x.queues) c.self.view_is, c.self.invariant.1)) c.index.ensures None
      ∙ ap (λ (x : Robots). slice_index_or x.waits c.args.robot None) c.self.view_is) ∙ e);
}

pub returns : goal.returns
returns g c =
    let queues = c.self.inside.queues.items in
    let waits = c.self.inside.waits.items in
    let r = c.args.robot in
    let l : r < length queues = omega (arith, c.requires.known, ap (λ (x : Robots). length x.queues) c.self.view_is) in
    let q : Queue = c.index_mut-errands.result.now in
    let read : q ≡ queue_at queues r = get_or_read queues r q l c.index_mut-errands.ensures.value no_queue in
    record {
      landing = c.take_landed-landed.ensures.landed ∙ ap (λ (q : Queue). landing c.args.cell q.items) read ∙ ap (λ (x : Robots). landing c.args.cell (queue_at x.queues r).items) c.self.view_is;
      stepped = stepped-inside (record { cells = c.self.inside.cells.items; queues = queues; waits = waits }) c.args.self.now r c.args.cell q c.take_landed-landed.new.queue c.index.result.now c.wait_after.result
          c.self.view_is read c.take_landed-landed.ensures.rest (get_or_read waits r c.index.result.now (omega (arith, l, c.self.invariant.1)) c.index.ensures None) (c.wait_after.ensures c.args.cell q.items c.take_landed-landed.ensures.landed (ap (λ (x : Queue). x.items) c.take_landed-landed.ensures.rest));
    }

pub index_mut-requires : goal.index_mut-requires
index_mut-requires g c = omega (arith, c.requires.known, ap (λ (x : Robots). length x.queues) c.self.view_is, c.self.invariant.0, c.self.inside.cells.ok.0)

pub index_mut-errands-requires : goal.index_mut-errands-requires
index_mut-errands-requires g c = omega (arith, c.requires.known, ap (λ (x : Robots). length x.queues) c.self.view_is, c.self.inside.queues.ok.0)

pub index-requires : goal.index-requires
index-requires g c = omega (arith, c.requires.known, ap (λ (x : Robots). length x.queues) c.self.view_is, c.self.invariant.1, c.self.inside.waits.ok.0)

pub index_mut-requires-2 : goal.index_mut-requires-2
index_mut-requires-2 g c = omega (arith, c.requires.known, ap (λ (x : Robots). length x.queues) c.self.view_is, c.self.invariant.1, c.self.inside.waits.ok.0)

pub index_mut-requires-3 : goal.index_mut-requires-3
index_mut-requires-3 g c = omega (arith, c.requires.known, ap (λ (x : Robots). length x.queues) c.self.view_is, c.self.invariant.2.count, c.self.inside.fronts.ok.0)
