use Rattle.std.proofs.Common.{arith, ap, sym, length, None, ◌∙◌, ◌<◌}
use Rattle.std.proofs.lemmas.List.{length-set, get_or_read}
use Rattle.fleet_state.specs.Robots.{Robots, no_queue}
use Rattle.fleet_state.proofs.Fronts.{fronts-set, has-room, joined-inside}
use Rattle.fleet_state.proofs.robots.Robots.join.Goals as goal

pub index_mut-queue-requires : goal.index_mut-queue-requires
index_mut-queue-requires g c = omega (arith, has-room c.args.self.now.queues c.args.robot c.requires, ap (λ (x : Robots). length x.queues) c.self.view_is)

pub invariant_of-self : goal.invariant_of-self
invariant_of-self g c =
    let queues = c.self.inside.queues.items in
    let r = c.args.robot in
    let l : r < length queues = omega (arith, has-room c.args.self.now.queues r c.requires, ap (λ (x : Robots). length x.queues) c.self.view_is) in
    let count = sym (length-set queues r c.try_push.new.self) in
    (c.self.invariant.0 ∙ count, length-set c.self.inside.waits.items r _ ∙ c.self.invariant.1 ∙ count, fronts-set queues c.self.inside.fronts.items r c.try_push.new.self c.front_cell.result c.self.invariant.2 l c.front_cell.ensures)

pub returns : goal.returns
returns g c =
    let queues = c.self.inside.queues.items in
    let waits = c.self.inside.waits.items in
    let r = c.args.robot in
    let l : r < length queues = omega (arith, has-room c.args.self.now.queues r c.requires, ap (λ (x : Robots). length x.queues) c.self.view_is) in
    joined-inside (record { cells = c.self.inside.cells.items; queues = queues; waits = waits }) c.args.self.now r c.args.errand c.index_mut-queue.result.now c.try_push.new.self c.try_push.result c.index.result.now c.unwrap_or.result
    c.self.view_is
    (get_or_read queues r c.index_mut-queue.result.now l c.index_mut-queue.ensures.value no_queue)
    c.requires c.try_push.ensures.room c.try_push.ensures.ok
    (get_or_read waits r c.index.result.now (omega (arith, l, c.self.invariant.1)) c.index.ensures None)
    c.unwrap_or.ensures

pub index_mut-requires : goal.index_mut-requires
index_mut-requires g c = omega (arith, has-room c.args.self.now.queues c.args.robot c.requires, ap (λ (x : Robots). length x.queues) c.self.view_is, c.self.invariant.2.count, c.self.inside.fronts.ok.0)

pub index-requires : goal.index-requires
index-requires g c = omega (arith, has-room c.args.self.now.queues c.args.robot c.requires, ap (λ (x : Robots). length x.queues) c.self.view_is, c.self.invariant.1, c.self.inside.waits.ok.0)

pub index_mut-requires-2 : goal.index_mut-requires-2
index_mut-requires-2 g c = omega (arith, has-room c.args.self.now.queues c.args.robot c.requires, ap (λ (x : Robots). length x.queues) c.self.view_is, c.self.invariant.1, c.self.inside.waits.ok.0)
