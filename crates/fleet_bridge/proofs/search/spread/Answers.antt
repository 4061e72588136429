-- All that a walk reaches, cell by cell.
use Rattle.std.proofs.Common.{◌≡◌, ◌<◌, length, arith, subst, sym, ℕ, get_or, refl, ◌∙◌}
use Rattle.std.proofs.lemmas.List.{get_or_read_under}
use Rattle.fleet_bridge.specs.inside.Search.{NearWithout, IsMarked}
use Rattle.fleet_bridge.proofs.Fronts.{queue_le, reach, done_more}
use Rattle.fleet_bridge.proofs.Joins.{joined_same}
use Rattle.fleet_bridge.proofs.search.spread.Goals as goal

pub overflow_add-head : goal.overflow_add-head
overflow_add-head g c =
    omega (arith, queue_le (NearWithout c.args.grid.now c.args.from c.args.to) c.args.from (length c.args.grid.now.letters) c.loop-head.seen.items c.loop-head.queue.items c.loop-head.invariant.front)

pub returns-clause-reach : goal.returns-clause-reach
returns-clause-reach g c =
    reach (NearWithout c.args.grid.now c.args.from c.args.to) c.args.from (length c.args.grid.now.letters) c.loop-head.seen.items c.loop-head.queue.items c.loop-head.head
    c.loop-head.invariant.start c.loop-head.invariant.front (omega arith) c.loop-head.invariant.done

pub loop-head-preserved : goal.loop-head-preserved
loop-head-preserved g c =
    let inside : c.loop-head.head < length c.loop-head.queue.items = omega arith in
    let read : c.index-cell.result.now ≡ get_or c.loop-head.queue.items c.loop-head.head 0 = get_or_read_under _ _ _ _ 0 c.index-cell.ensures inside refl in
    record {
      size = c.visit_around.ensures.front.size;
      start = c.visit_around.ensures.later.keeps c.args.from c.loop-head.invariant.start;
      front = c.visit_around.ensures.front;
      room = omega (arith, c.visit_around.ensures.room, c.loop-head.invariant.room);
      done = done_more (NearWithout c.args.grid.now c.args.from c.args.to) c.loop-head.seen.items c.loop-head.queue.items c.visit_around.new.seen.items c.visit_around.new.queue.items c.loop-head.head inside c.visit_around.ensures.later c.loop-head.invariant.done
          (subst (λ (x : ℕ). (d : ℕ) → NearWithout c.args.grid.now c.args.from c.args.to x d → IsMarked c.visit_around.new.seen.items d) read c.visit_around.ensures.marked);
    }

pub visit-requires-clause-inside : goal.visit-requires-clause-inside
visit-requires-clause-inside g c = c.requires.inside

pub visit-requires-clause-joined : goal.visit-requires-clause-joined
visit-requires-clause-joined g c = joined_same (NearWithout c.args.grid.now c.args.from c.args.to) c.args.from c.args.from refl

pub visit-requires-clause-front : goal.visit-requires-clause-front
visit-requires-clause-front g c = c.requires.front

pub loop-head-init : goal.loop-head-init
loop-head-init g c = record {
  size = c.visit.ensures.front.size;
  start = c.visit.ensures.marked;
  front = c.visit.ensures.front;
  room = omega (arith, c.visit.ensures.room, c.requires.room);
  done = λ i d less near. absurd (omega (arith, less));
}

pub visit_around-requires-clause-reached : goal.visit_around-requires-clause-reached
visit_around-requires-clause-reached g c =
    let inside : c.loop-head.head < length c.loop-head.queue.items = omega arith in
    let read : c.index-cell.result.now ≡ get_or c.loop-head.queue.items c.loop-head.head 0 = get_or_read_under _ _ _ _ 0 c.index-cell.ensures inside refl in
    subst (IsMarked c.loop-head.seen.items) (sym read) (c.loop-head.invariant.front.marked c.loop-head.head inside)

pub visit_around-requires-clause-front : goal.visit_around-requires-clause-front
visit_around-requires-clause-front g c = c.loop-head.invariant.front

pub index-cell-requires : goal.index-cell-requires
index-cell-requires g c = omega (arith, c.loop-head-test.true, c.len.ensures)

pub returns-clause-size : goal.returns-clause-size
returns-clause-size g c = c.loop-head.seen.ok.0 ∙ c.loop-head.invariant.size

pub loop-head-smaller : goal.loop-head-smaller
loop-head-smaller g c =
    omega (arith, queue_le (NearWithout c.args.grid.now c.args.from c.args.to) c.args.from (length c.args.grid.now.letters) c.loop-head.seen.items c.loop-head.queue.items c.loop-head.invariant.front, c.loop-head.queue.ok.0, c.loop-head-test.true, c.len.ensures)

pub visit-requires-clause-room : goal.visit-requires-clause-room
visit-requires-clause-room g c = c.requires.room

pub visit_around-requires-clause-room : goal.visit_around-requires-clause-room
visit_around-requires-clause-room g c = c.loop-head.invariant.room
