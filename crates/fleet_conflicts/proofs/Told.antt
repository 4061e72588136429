-- What there is to say of the texts.
use Rattle.std.proofs.Common.{◌≡◌, ℕ, true, false, List, [], length, Result, Ok, Err, sym, subst, ◌∙◌}
use Rattle.fleet_map.specs.Grammar.{Map, map_of}
use Rattle.fleet_map.specs.declared.fault.MapFault.{MapFault}
use Rattle.fleet_grid.specs.Floor.{floor_of_map}
use Rattle.fleet_plans.specs.declared.answer.PlanAnswer.{PlanAnswer}
use Rattle.fleet_plans.specs.declared.form.TextForm.{TextForm}
use Rattle.fleet_plans.specs.declared.study.Study.{Study}
use Rattle.fleet_plans.specs.Answer.{IsTextAnswer, IsAnswerTo, no_plan, judged, no_map, on_map, is_invalid}
use Rattle.fleet_plans.specs.Goals.{Nothing}
use Rattle.fleet_plans.specs.Study.{IsFormStudy, IsStudyBy, unread, read, without_map, with_map}
use Rattle.fleet_conflicts.specs.declared.conflicts.Conflict.{Conflict}
use Rattle.fleet_conflicts.specs.Conflicts.{AreConflictsOf, UpTo, not_invalid, invalid}

one_map : (n m : Map) (o : Result Map MapFault) → o ≡ Ok n → o ≡ Ok m → m ≡ n
one_map n m o first second = let same : Ok n ≡ Ok m = sym first ∙ second in cc

answered : {m : Map} {form : TextForm} {text : List ℕ} {a : PlanAnswer} {places : List (List ℕ)} → IsFormStudy Nothing m form text a places → IsTextAnswer Nothing m form text a
answered (unread fault fails named) = no_plan fault fails named
answered {places = places} (read goals plan is) = judged goals places plan is

told : {form : TextForm} {bytes text : List ℕ} {s : Study} → IsStudyBy form bytes text s → IsAnswerTo Nothing bytes form text s.answer
told (without_map f fails is) = no_map f fails is
told (with_map m here width study) = on_map m here (answered study)

module _ (form : TextForm) (bytes text : List ℕ) (s : Study) (study : IsStudyBy form bytes text s) where
  pub nothing : (conflicts : List Conflict) → is_invalid s.answer ≡ false → conflicts ≡ [] → AreConflictsOf form bytes text conflicts
  nothing conflicts fine none = not_invalid s.answer (told study) fine none

pub listed : (form : TextForm) (bytes text : List ℕ) (s : Study) (m : Map) → IsStudyBy form bytes text s → map_of bytes ≡ Ok m → is_invalid s.answer ≡ true → (conflicts : List Conflict)
    → UpTo (floor_of_map m) s.places (length s.places) conflicts → AreConflictsOf form bytes text conflicts
listed form bytes text s m (without_map f fails is) here wrong conflicts all = let bad : Ok m ≡ Err f = sym here ∙ fails in absurd cc
listed form bytes text s m (with_map n there width study) here wrong conflicts all =
    invalid n there s.answer s.places study wrong (subst (λ (x : Map). UpTo (floor_of_map x) s.places (length s.places) conflicts) (one_map n m (map_of bytes) there here) all)
