-- What is said of a text that is no plan, and of one that is no map.
use Rattle.std.proofs.Common.{◌≡◌, ◌≢◌, ℕ, List, ◌++◌, Option, Result, Err, refl, subst, sym, ◌∙◌}
use Rattle.std.proofs.lemmas.List.{append_assoc}
use Rattle.fleet_map.specs.declared.fault.MapFault.{MapFault}
use Rattle.fleet_map.specs.declared.fault.MapFault.TheVariants as map_fault
use Rattle.fleet_map.specs.Grammar.{Map, Fails}
use Rattle.fleet_map.specs.Text.{lines_of}
use Rattle.fleet_grid.specs.Floor.{Floor}
use Rattle.fleet_plans.specs.Goals.{Asked}
use Rattle.fleet_plans.specs.Answer.{IsNamed, IsJudged, IsTextAnswer, no_plan, judged}
use Rattle.fleet_plans.specs.Reading.{IsPlanBy, IsFaultBy, head_by}
use Rattle.fleet_plans.specs.Study as study
use Rattle.fleet_plans.specs.Study.{IsFormStudy}
use Rattle.fleet_plans.specs.declared.answer.PlanAnswer.{PlanAnswer}
use Rattle.fleet_plans.specs.declared.form.TextForm.{TextForm}
use Rattle.fleet_plans.specs.declared.text.TextFault.{TextFault}
use Rattle.fleet_plans.specs.declared.fault.PlanTextFault.{PlanTextFault}
use Rattle.fleet_plans.specs.declared.fault.PlanTextFault.TheVariants.{Line}
use Rattle.fleet_plans.specs.Shown.{FailsAt}
use Rattle.fleet_plans.specs.inside.Answered.{IsOf}

pub line_fails : {Y : Type 0} (fault : PlanTextFault) (line : ℕ) (read : Result Y ℕ) → fault ≡ Line line → FailsAt fault read → read ≡ Err line
line_fails {Y} fault line read is fails = let P : PlanTextFault → Type 0 = λ f. FailsAt {Y = Y} f read in subst P is fails

module _ (m : Map) (w h : ℕ) (floor : Floor) (of : IsOf m w h floor) (asked : Asked) (form : TextForm) (text : List ℕ) (a : PlanAnswer) where
  pub text_is_none : (fault : TextFault) → IsFaultBy form w h text fault → IsNamed (lines_of text) fault a → IsTextAnswer asked m form text a
  text_is_none fault fails named =
      let P : ℕ → ℕ → Type 0 = λ x y. IsFaultBy form x y text fault in
      no_plan fault (subst (λ (x : ℕ). P x m.height) of.wide (subst (λ (y : ℕ). P w y) of.tall fails)) named

  pub text_is_judged : (goals : Option (List ℕ)) (places : List (List ℕ)) → IsPlanBy form w h text goals places → IsJudged floor asked (head_by form text) goals places a → IsTextAnswer asked m form text a
  text_is_judged goals places read is =
      let P : ℕ → ℕ → Type 0 = λ x y. IsPlanBy form x y text goals places in
      judged goals places (subst (λ (x : ℕ). P x m.height) of.wide (subst (λ (y : ℕ). P w y) of.tall read))
      (subst (λ (f : Floor). IsJudged f asked (head_by form text) goals places a) of.on is)

module _ (m : Map) (w h : ℕ) (floor : Floor) (of : IsOf m w h floor) (asked : Asked) (form : TextForm) (text : List ℕ) (a : PlanAnswer) where
  pub text_is_unread : (kept : List (List ℕ)) (fault : TextFault) → IsFaultBy form w h text fault → IsNamed (lines_of text) fault a → IsFormStudy asked m form text a kept
  text_is_unread kept fault fails named =
      let P : ℕ → ℕ → Type 0 = λ x y. IsFaultBy form x y text fault in
      study.unread fault (subst (λ (x : ℕ). P x m.height) of.wide (subst (λ (y : ℕ). P w y) of.tall fails)) named

  pub text_is_read : (goals : Option (List ℕ)) (places kept : List (List ℕ)) → IsPlanBy form w h text goals places → IsJudged floor asked (head_by form text) goals places a → kept ≡ places → IsFormStudy asked m form text a kept
  text_is_read goals places kept plan is same =
      let P : ℕ → ℕ → Type 0 = λ x y. IsPlanBy form x y text goals places in
      subst (λ (ps : List (List ℕ)). IsFormStudy asked m form text a ps) (sym same)
      (study.read goals (subst (λ (x : ℕ). P x m.height) of.wide (subst (λ (y : ℕ). P w y) of.tall plan))
      (subst (λ (f : Floor). IsJudged f asked (head_by form text) goals places a) of.on is))

pub map_fails : {X : Type 0} (fault named : MapFault) (read : Result X MapFault) → Fails fault read → named ≡ fault → named ≢ map_fault.NoMemory → read ≡ Err named
map_fails {X} fault named read fails same ne =
    let P : MapFault → Type 0 = λ f. Fails {Y = X} f read in
    go named (subst P (sym same) fails) ne
  where
    go : (f : MapFault) → Fails f read → f ≢ map_fault.NoMemory → read ≡ Err f
    go map_fault.NoMemory fails ne = absurd (ne refl)
    go (map_fault.Header line) fails ne = fails
    go map_fault.Size fails ne = fails
    go (map_fault.Row row) fails ne = fails
    go (map_fault.Cell row column) fails ne = fails
    go (map_fault.Trailing line) fails ne = fails

append_twice : (a b c d : List ℕ) → a ++ (b ++ (c ++ d)) ≡ a ++ b ++ c ++ d
append_twice a b c d = sym (append_assoc a b (c ++ d)) ∙ sym (append_assoc (a ++ b) c d)

pub ten : (a b c d e f g h i j : List ℕ) → a ++ (b ++ (c ++ (d ++ (e ++ (f ++ (g ++ (h ++ (i ++ j)))))))) ≡ a ++ b ++ c ++ d ++ e ++ f ++ g ++ h ++ i ++ j
ten a b c d e f g h i j =
    append_twice a b c _ ∙ (append_twice (a ++ b ++ c) d e _ ∙ (append_twice (a ++ b ++ c ++ d ++ e) f g _ ∙ append_twice (a ++ b ++ c ++ d ++ e ++ f ++ g) h i j))
