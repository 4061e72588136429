use Rattle.std.proofs.Common.{◌≡◌, Some, sym, ap, ◌∙◌, subst, arith}
use Rattle.std.specs.Prelude.{slice_get}
use Rattle.std.proofs.lemmas.Option.{slice_get_within}
use Rattle.fleet_history.specs.History.{history_of, clock}
use Rattle.fleet_office.specs.Views.{AreDistinct, AreSettled, core, cores}
use Rattle.fleet_office.specs.inside.Leftovers.{AreRooms, LeftoversAre}
use Rattle.fleet_office.proofs.Places.{map_at}
use Rattle.fleet_office.proofs.Ended.{planned-ended, advancing-ended, bounded-ended, served-ended, told-ended}
use Rattle.fleet_office.proofs.hall_state.HallState.finish.Goals as goal

pub fill-requires-clause-inside : goal.fill-requires-clause-inside
fill-requires-clause-inside g c = λ k x at.
    let e = c.as_mut_slice.ensures.value in
    let there : slice_get c.args.clients.items k ≡ Some x = sym (ap (λ xs. slice_get xs k) e) ∙ at in
    let ring = c.requires.on k (core x) (map_at core c.args.clients.items k x there) in
    let i = c.self.invariant in
    omega (arith, slice_get_within g.N.OfficeName.rings x.number x.lane ring, i.ring_count, i.end_count, i.box_count)

pub fill-requires-clause-distinct : goal.fill-requires-clause-distinct
fill-requires-clause-distinct g c =
    let e = c.as_mut_slice.ensures.value in
    subst (λ xs. AreDistinct (cores xs)) (sym e) c.requires.distinct

pub fill-requires-clause-rooms : goal.fill-requires-clause-rooms
fill-requires-clause-rooms g c =
    let e = c.as_mut_slice.ensures.value in
    let rooms : AreRooms c.args.rooms.items c.self.inside.core c.args.clients.items = subst (λ v. AreRooms c.args.rooms.items v.world c.args.clients.items) (sym c.self.view_is) c.requires.rooms in
    subst (AreRooms c.args.rooms.items c.self.inside.core) (sym e) rooms

pub returns-clause-planned : goal.returns-clause-planned
returns-clause-planned g c =
    let f = c.finish-grid in
    rw (← c.self.view_is) (planned-ended c.self.inside.core c.fill.new.core f.result.0 (history_of f.result.1) f.ensures.floor f.ensures.history c.fill.ensures.core f.ensures.planned)

pub returns-clause-advancing : goal.returns-clause-advancing
returns-clause-advancing g c =
    let f = c.finish-grid in
    rw (← c.self.view_is) (advancing-ended c.self.inside.core c.fill.new.core f.result.0 (history_of f.result.1) f.ensures.floor f.ensures.history c.fill.ensures.core f.ensures.advancing)

pub returns-clause-bounded : goal.returns-clause-bounded
returns-clause-bounded g c =
    let f = c.finish-grid in
    rw (← c.self.view_is) (bounded-ended c.self.inside.core c.fill.new.core f.result.0 (history_of f.result.1) f.ensures.floor f.ensures.history c.fill.ensures.core f.ensures.bounded)

pub returns-clause-served : goal.returns-clause-served
returns-clause-served g c =
    let f = c.finish-grid in
    rw (← c.self.view_is) (served-ended c.self.inside.core c.fill.new.core f.result.0 (history_of f.result.1) f.ensures.floor f.ensures.history c.fill.ensures.core f.ensures.served)

pub returns-clause-told : goal.returns-clause-told
returns-clause-told g c =
    let f = c.finish-grid in
    let s = c.self.inside in
    let cs = c.args.clients.items in
    let e = c.as_mut_slice.ensures.value in
    let settled : AreSettled s.ends.items cs = subst (λ v. AreSettled v.ends cs) (sym c.self.view_is) c.requires.settled in
    let rests : LeftoversAre c.fill.new.rooms.items s.core cs = subst (LeftoversAre c.fill.new.rooms.items s.core) e c.fill.ensures.rests in
    told-ended g.N.OfficeName.rings g.N.OfficeName.start s.core s.ends.items s.book.total c.self.invariant f.result.1.number (history_of f.result.1) cs c.fill.new.rooms.items
    (f.ensures.number ∙ c.fill.ensures.core.number) (f.ensures.history ∙ c.fill.ensures.core.history) c.requires.on settled rests

pub fill-requires-clause-known : goal.fill-requires-clause-known
fill-requires-clause-known g c = c.self.invariant.box_count

pub returns-clause-floor : goal.returns-clause-floor
returns-clause-floor g c = rw (← c.self.view_is) (c.finish-grid.ensures.floor ∙ c.fill.ensures.core.floor)

pub returns-clause-history : goal.returns-clause-history
returns-clause-history g c = rw (← c.self.view_is) (c.finish-grid.ensures.history ∙ c.fill.ensures.core.history)

pub returns-clause-number : goal.returns-clause-number
returns-clause-number g c = rw (← c.self.view_is) (c.finish-grid.ensures.number ∙ c.fill.ensures.core.number)

pub returns-clause-tick : goal.returns-clause-tick
returns-clause-tick g c = rw (← c.self.view_is) (c.clock-tick.ensures ∙ ap clock c.fill.ensures.core.history)
