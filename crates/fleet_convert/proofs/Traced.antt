-- The placements of a plan's trace, and what is made of a plan that was studied.
use Rattle.std.proofs.Common.{◌≡◌, ℕ, true, false, List, [], ◌∷◌, map, Result, Ok, Err, refl, sym, ap, subst, ◌∙◌}
use Rattle.fleet_map.specs.Grammar.{Map, map_of}
use Rattle.fleet_map.specs.declared.fault.MapFault.{MapFault}
use Rattle.fleet_plans.specs.declared.study.Study.{Study}
use Rattle.fleet_plans.specs.declared.answer.PlanAnswer.{PlanAnswer}
use Rattle.fleet_plans.specs.Answer.{IsTextAnswer, no_plan, judged, on_map}
use Rattle.fleet_plans.specs.Form.{form_of}
use Rattle.fleet_plans.specs.Goals.{Nothing}
use Rattle.fleet_plans.specs.Study.{IsTextStudy, unread, read, IsStudy, without_map, with_map}
use Rattle.fleet_convert.specs.declared.tracing.TracingFault.{TracingFault}
use Rattle.fleet_convert.specs.declared.tracing.TracingFault.TheVariants as fault
use Rattle.fleet_convert.specs.History.{ticks_in, places_in}
use Rattle.fleet_convert.specs.PlanTrace.{is_valid, standing, tick_to, plan_trace, IsTraceText, IsNoTraceOn, IsTraced, IsUntraceable, IsRefused, IsUntraced}

cells_are : (cells : List ℕ) → map (λ x. x.cell) (map standing cells) ≡ cells
cells_are [] = refl
cells_are (c ∷ cs) = ap (λ (xs : List ℕ). c ∷ xs) (cells_are cs)

ticks_are : (places : List (List ℕ)) → ticks_in (map tick_to places) ≡ places
ticks_are [] = refl
ticks_are (p ∷ ps) = ap (λ (xs : List (List ℕ)). p ∷ xs) (ticks_are ps)

pub places_are : (place : List ℕ) (places : List (List ℕ)) → places_in (plan_trace (place ∷ places)).history ≡ place ∷ places
places_are place places = ap (λ (xs : List ℕ). xs ∷ ticks_in (map tick_to places)) (cells_are place) ∙ ap (λ (ps : List (List ℕ)). place ∷ ps) (ticks_are places)

-- ---- a plan that was studied

pub one_map : (n m : Map) (o : Result Map MapFault) → o ≡ Ok n → o ≡ Ok m → m ≡ n
one_map n m o first second = let same : Ok n ≡ Ok m = sym first ∙ second in cc

-- what a study answers is the answer
answered : {m : Map} {text : List ℕ} {a : PlanAnswer} {places : List (List ℕ)} → IsTextStudy Nothing m text a places → IsTextAnswer Nothing m (form_of text) text a
answered (unread fault fails named) = no_plan fault fails named
answered {places = places} (read goals plan is) = judged goals places plan is

module _ (bytes plan : List ℕ) (m : Map) (s : Study) (here : map_of bytes ≡ Ok m) where
  pub refused : is_valid s.answer ≡ false → IsStudy bytes plan s → IsRefused bytes plan s.answer
  refused wrong (without_map f fails is) = let bad : Ok m ≡ Err f = sym here ∙ fails in absurd cc
  refused wrong (with_map n there width study) = record { told = on_map n there (answered study); not_valid = wrong }

  pub traced : is_valid s.answer ≡ true → (text : List ℕ) → IsStudy bytes plan s → IsTraceText m s.places text → IsTraced bytes plan text
  traced valid text (without_map f fails is) trace = let bad : Ok m ≡ Err f = sym here ∙ fails in absurd cc
  traced valid text (with_map n there width study) trace = record {
    floor = n;
    read = there;
    said = s.answer;
    places = s.places;
    told = study;
    valid = valid;
    trace = subst (λ (x : Map). IsTraceText x s.places text) (one_map n m (map_of bytes) there here) trace;
  }

  untraceable : is_valid s.answer ≡ true → (at rule : ℕ) → IsStudy bytes plan s → IsNoTraceOn m s.places (fault.Illegal at rule) → IsUntraceable bytes plan at rule
  untraceable valid at rule (without_map f fails is) why = let bad : Ok m ≡ Err f = sym here ∙ fails in absurd cc
  untraceable valid at rule (with_map n there width study) why = record {
    floor = n;
    read = there;
    said = s.answer;
    places = s.places;
    told = study;
    valid = valid;
    illegal = subst (λ (x : Map). IsNoTraceOn x s.places (fault.Illegal at rule)) (one_map n m (map_of bytes) there here) why;
  }

  pub untraced : is_valid s.answer ≡ true → (f : TracingFault) → IsStudy bytes plan s → IsNoTraceOn m s.places f → IsUntraced bytes plan f
  untraced valid (fault.NoPlan a) study why = absurd why
  untraced valid fault.TooManyRobots study why = absurd why
  untraced valid (fault.Illegal at rule) study why = untraceable valid at rule study why
  untraced valid fault.NoMemory study why = tt
