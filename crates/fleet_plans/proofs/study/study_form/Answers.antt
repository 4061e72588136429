-- What is said on a map, and where there is none.
use Rattle.std.proofs.Common.{◌≡◌, refl, subst}
use Rattle.fleet_map.specs.Grammar.{view, map_of}
use Rattle.fleet_plans.specs.declared.form.TextForm.{TextForm}
use Rattle.fleet_plans.specs.Goals.{Nothing}
use Rattle.fleet_plans.specs.Study.{IsFormStudy, IsStudyBy, without_map, with_map}
use Rattle.fleet_plans.proofs.Answered.{map_fails}
use Rattle.fleet_plans.proofs.Givings.{if_ok_both}
use Rattle.fleet_plans.proofs.study.study_form.Goals as goal

pub returns-in-Ok : goal.returns-in-Ok
returns-in-Ok c =
    let m = view c.in-Ok.map in
    let text = c.args.text.now in
    if_ok_both c.study_on.result (λ s. s.width ≡ m.width) (λ s. IsFormStudy Nothing m c.args.form text s.answer s.places) (IsStudyBy c.args.form c.args.map.now text)
    (λ s width is. with_map m c.in-Ok.ensures.exact width is)
    c.study_on.ensures.width c.study_on.ensures.study

pub returns-in_ok-fault-in-Err : goal.returns-in_ok-fault-in-Err
returns-in_ok-fault-in-Err c =
    let named = c.in_ok-fault-in-Err.fault in
    let e = c.in_ok-fault-in-Err.ensures in
    without_map named (map_fails c.in-Err.fault named (map_of c.args.map.now) c.in-Err.ensures.exact e.same e.named) refl
