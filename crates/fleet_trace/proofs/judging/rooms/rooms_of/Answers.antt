-- Room for the errands of each robot, entry by entry.
use Rattle.std.proofs.Common.{◌≡◌, ◌≤◌, ◌∙◌, sym, subst, arith, length, map, take, slice_index, List}
use Rattle.std.specs.Prelude.{All}
use Rattle.std.proofs.lemmas.List.{length-map, take_all}
use Rattle.fleet_history.specs.declared.history.Entry.{Entry}
use Rattle.fleet_history.specs.declared.history.RobotState.{RobotState}
use Rattle.fleet_trace.specs.inside.Rooms.{room_for}
use Rattle.fleet_trace.proofs.Rooms.{rooms-opened, room-within, room-joined, room-kept}
use Rattle.fleet_trace.proofs.judging.rooms.rooms_of.Goals as goal
use Rattle.fleet_trace.proofs.judging.rooms.rooms_of.Goals.{in-Some, in_default}

pub opened_rooms-requires : goal.opened_rooms-requires
opened_rooms-requires g c = subst (λ (robots : List (RobotState _)). All (λ x. length x.errands ≤ c.args.opening.now.queue) robots) (sym c.as_slice.ensures) c.requires

pub loop-entry-init : goal.loop-entry-init
loop-entry-init g c =
    let robots = c.args.opening.now.robots in
    let is : c.in_ok-rooms.rooms.items ≡ map (λ x. length x.errands) robots = rw c.as_slice.ensures at c.in_ok-rooms.ensures in
    record {
      count = rw is (length-map robots (λ x. length x.errands));
      each = λ r l. rw is (rooms-opened c.args.opening.now r c.requires l);
    }

pub widen-requires : goal.widen-requires
widen-requires g c = λ r l.
    rw (c.loop-entry.invariant.each r (omega (arith, l, c.loop-entry.invariant.count))) (room-within c.args.opening.now (take c.loop-entry.entry-index c.args.entries.now) r)

pub loop-entry-preserved : goal.loop-entry-preserved
loop-entry-preserved g c =
    let o = c.args.opening.now in
    let entries = c.args.entries.now in
    let i = c.loop-entry.entry-index in
    let e = c.entry-item.result in
    elim c.match-robot_joined.branch [
      | in-Some w ↦
          (let joined = sym c.robot_joined.ensures ∙ w.in-Some.is in
          let count = c.loop-entry.invariant.count in
          record {
            count = rw w.rooms-is (w.widen.ensures.count ∙ count);
            each = λ r l. rw w.rooms-is
                (w.widen.ensures.each r (omega (arith, l, count))
                ∙ room-joined o entries i e w.in-Some.robot r (slice_index c.loop-entry.rooms.items r) c.loop-entry-test.true c.entry-item.is joined (c.loop-entry.invariant.each r l));
          })
      | in_default w ↦ record {
        count = rw w.rooms-is c.loop-entry.invariant.count;
        each = λ r l. rw w.rooms-is (c.loop-entry.invariant.each r l ∙ room-kept o entries i e r c.loop-entry-test.true c.entry-item.is (sym c.robot_joined.ensures ∙ w.in_default.is));
      }
    ]

pub returns-clause-count : goal.returns-clause-count
returns-clause-count g c = c.loop-entry.invariant.count

pub returns-clause-each : goal.returns-clause-each
returns-clause-each g c = λ r l.
    subst (λ (es : List (Entry _)). slice_index c.loop-entry.rooms.items r ≡ room_for c.args.opening.now es r) (take_all c.loop-entry.entry-index c.args.entries.now c.loop-entry-test.false) (c.loop-entry.invariant.each r l)
