use Rattle.std.proofs.lemmas.Result.{IfOk-weaker}
use Rattle.fleet_survey.proofs.Prunes.{keeps_without, peeled_back}
use Rattle.fleet_survey.proofs.prune.without.Goals as goal

pub returns : goal.returns
returns c =
    let n = c.args.robots in
    let m = c.args.grid.now in
    let marks = c.in_ok-marks.marks in
    let peeled = peeled_back n m marks.len marks.items c.deref_mut.result.now c.peel_for.new.marks c.deref.result.now c.deref_mut.ensures.value marks.ok.0 c.deref.ensures.value c.peel_for.ensures in
    IfOk-weaker c.map_of.result _ _ (λ p is. keeps_without n m p c.args.others.now.marks.items marks.items c.deref.result.now c.requires c.in_ok-marks.ensures peeled is) c.map_of.ensures
