-- The errand that was found is in a queue, and goes to one of the cells.
use Rattle.std.proofs.Common.{◌∙◌, List, sym, ap}
use Rattle.std.specs.List.{position}
use Rattle.fleet_core.specs.declared.open_errands.OpenErrand.{OpenErrand}
use Rattle.fleet_roomy.specs.Unroomy.{has}
use Rattle.fleet_talk.proofs.Doors.{found-at}
use Rattle.fleet_talk.proofs.door.unroomy_errand.Goals as goal

pub returns-in-Some-clause-found : goal.returns-in-Some-clause-found
returns-in-Some-clause-found g c =
    found-at c.args.world.now.core c.args.cells.now.marks.items c.loop-client.client c.in_ok-errands.errands.items c.in-Some.place c.index.result.now c.in_ok-errands.ensures
    (sym (c.first_among.ensures ∙ ap (λ (es : List OpenErrand). position (λ e. has c.args.cells.now.marks.items e.cell) es) c.deref.ensures.value) ∙ c.in-Some.is) c.index.ensures
