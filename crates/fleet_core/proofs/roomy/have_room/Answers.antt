-- Each errand before this place has room, and so has this one, or it is the one that has none.
use Rattle.std.proofs.Common.{arith, ◌≡◌, ◌∙◌, Some, None, sym, get_or}
use Rattle.std.proofs.lemmas.Option.{slice_get-get_or}
use Rattle.fleet_queue.specs.declared.errand.Errand.{Errand}
use Rattle.fleet_core.specs.inside.Roomy.{has_room}
use Rattle.fleet_core.proofs.RoomFacts.{room-more, room-fails}
use Rattle.fleet_core.proofs.roomy.have_room.Goals as goal
use Rattle.fleet_core.proofs.roomy.have_room.Goals.{in-Some+else-not-has_room, in_default}

pub returns-then-not-has_room : goal.returns-then-not-has_room
returns-then-not-has_room g c =
    room-fails (has_room c.args.roominess.now c.args.robots) c.args.queue.now.items c.loop-place.place c.in-Some.errand (sym c.in-Some.ensures) (sym c.has_room.ensures ∙ c.if-not-has_room.true)

pub loop-place-preserved : goal.loop-place-preserved
loop-place-preserved g c =
    elim c.match-get.branch [
      | in-Some+else-not-has_room w ↦
          room-more (has_room c.args.roominess.now c.args.robots) c.args.queue.now.items c.loop-place.place w.in-Some.errand (sym w.in-Some.ensures) (sym w.has_room.ensures ∙ w.if-not-has_room.false) c.loop-place.invariant
      | in_default w ↦
          (let none : Errand = record { client = 0; number = 0; cell = 0 } in
          let q : None ≡ Some (get_or c.args.queue.now.items c.loop-place.place none) = w.in_default.ensures ∙ slice_get-get_or c.args.queue.now.items c.loop-place.place none (omega (arith, c.loop-place-test.true, c.len-place-end.ensures.len)) in cc)
    ]
