use Rattle.std.proofs.Common.{length}
use Rattle.std.proofs.lemmas.Result.{IfOk-weaker}
use Rattle.fleet_survey.proofs.Opens.{marked_back, none_has, opened_is}
use Rattle.fleet_survey.proofs.opened.opened.Goals as goal

pub returns : goal.returns
returns c =
    let m = c.args.grid.now in
    let walls = c.args.walls.now in
    let none = c.none.result.marks.items in
    let marks = c.in_ok-marks.marks in
    let marked = marked_back walls (length walls) marks.len marks.items c.deref_mut.result.now c.mark_all.new.marks c.deref.result.now c.deref_mut.ensures.value marks.ok.0 c.deref.ensures.value c.mark_all.ensures in
    IfOk-weaker c.map_of.result _ _ (λ p is. opened_is m p none marks.items c.deref.result.now walls (none_has none c.none.ensures) c.in_ok-marks.ensures marked is) c.map_of.ensures
