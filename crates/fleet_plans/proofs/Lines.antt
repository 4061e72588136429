-- What a judge was given by the lines of a text.
use Rattle.std.proofs.Common.{◌≡◌, ℕ, ◌+◌, ◌≤◌, true, false, List, [], ◌∷◌, ◌++◌, length, Option, Some, Result, Ok, Err, ◌==◌, true≢false, refl, sym, subst, ◌∙◌, ap, arith}
use Rattle.std.specs.Option.{option_and_then}
use Rattle.fleet_grid.specs.Floor.{Floor}
use Rattle.fleet_plans.specs.declared.fault.PlanTextFault.{PlanTextFault}
use Rattle.fleet_plans.specs.declared.fault.PlanTextFault.TheVariants.{Line, NoMemory}
use Rattle.fleet_plans.specs.Head.{Head, split_once, or_line, and_then}
use Rattle.fleet_plans.specs.Places.{place_in, with_place, with_step, places_of}
use Rattle.fleet_plans.specs.Shown.{FailsAt}
use Rattle.fleet_plans.specs.Judge.{Judged, HasJudged}
use Rattle.fleet_plans.specs.inside.Fits.{fits}
use Rattle.fleet_plans.specs.inside.Given.{IsGiven, IsGivenAs, IsReadTo}

-- where the head lets it stand, a placement is added
added : (head : Head) (places : List (List ℕ)) (place : List ℕ) → fits head (length places) place ≡ true → with_place head places place ≡ Some (places ++ place ∷ [])
added head [] place fit = rw fit refl
added head (first ∷ places) place fit = refl

module _ (w h : ℕ) (head : Head) (places : List (List ℕ)) where
  step_added : (line place : List ℕ) → false ≡ (length line == 0) → place_in w h (length places) (split_once 58 line) ≡ Some place → true ≡ fits head (length places) place
      → with_step w h head places line ≡ Some (places ++ place ∷ [])
  step_added [] place some is fit = absurd (true≢false (sym some))
  step_added (b ∷ bs) place some is fit = ap (option_and_then (with_place head places)) is ∙ added head places place (sym fit)

-- the first line of those that are left
goes_on_by : (w h : ℕ) (head : Head) (places : List (List ℕ)) (number : ℕ) (line : List ℕ) (lines : List (List ℕ))
    → places_of w h head places number (line ∷ lines) ≡ and_then (or_line number (with_step w h head places line)) (λ more. places_of w h head more (number + 1) lines)
unfolding places_of
goes_on_by w h head [] number line lines = refl
goes_on_by w h head (p ∷ ps) number line lines = refl

-- the judge took what a line says
pub line_taken : (w h : ℕ) (head : Head) (m : Floor) (places : List (List ℕ)) (old new : Judged) (time : ℕ) (line place : List ℕ) → HasJudged m places old → time ≡ old.count → false ≡ (length line == 0)
    → place_in w h time (split_once 58 line) ≡ Some place → true ≡ fits head time place → HasJudged m (places ++ place ∷ []) new → IsGivenAs m (with_step w h head places line) new
line_taken w h head m places old new time line place was at some is fit given =
    let now : time ≡ length places = at ∙ was.count_is in
    record {
      places = places ++ place ∷ [];
      are = step_added w h head places line place some (subst (λ (t : ℕ). place_in w h t (split_once 58 line) ≡ Some place) now is) (subst (λ (t : ℕ). true ≡ fits head t place) now fit);
      given = given;
    }

module _ (w h : ℕ) (head : Head) (m : Floor) (number : ℕ) (lines : List (List ℕ)) (read : Result (List (List ℕ)) ℕ) (judge : Judged) (is : IsReadTo w h head m number lines read judge) where
  module _ (line : List ℕ) (rest : List (List ℕ)) (first : lines ≡ line ∷ rest) where
    by_line : places_of w h head is.places number (line ∷ rest) ≡ read
    by_line = subst (λ (ls : List (List ℕ)). places_of w h head is.places number ls ≡ read) first is.goes_on

    -- one more line is read, and the judge has what it says
    pub line_more : (new : Judged) → ((m : Floor) (places : List (List ℕ)) → HasJudged m places judge → IsGivenAs m (with_step w h head places line) new) → IsReadTo w h head m (number + 1) rest read new
    line_more new step =
        let next = step m is.places is.given in
        let one = goes_on_by w h head is.places number line rest in
        let so : places_of w h head is.places number (line ∷ rest) ≡ places_of w h head next.places (number + 1) rest =
        one ∙ ap (λ (o : Option (List (List ℕ))). and_then (or_line number o) (λ more. places_of w h head more (number + 1) rest)) next.are in
        record { places = next.places; given = next.given; goes_on = sym so ∙ by_line }

    -- the line at fault is that of the whole text
    pub line_fails : (fault : PlanTextFault) → ((m : Floor) (places : List (List ℕ)) → HasJudged m places judge → FailsAt fault (or_line number (with_step w h head places line))) → FailsAt fault read
    line_fails fault fails = go fault (fails m is.places is.given)
      where
        go : (f : PlanTextFault) → FailsAt f (or_line number (with_step w h head is.places line)) → FailsAt f read
        go NoMemory fails = tt
        go (Line at) fails =
            sym by_line
            ∙ (goes_on_by w h head is.places number line rest
            ∙ ap (λ (r : Result (List (List ℕ)) ℕ). and_then r (λ more. places_of w h head more (number + 1) rest)) fails)

  module _ (end : lines ≡ []) where
    by_none : places_of w h head is.places number [] ≡ read
    by_none = subst (λ (ls : List (List ℕ)). places_of w h head is.places number ls ≡ read) end is.goes_on

    ended_none : (places : List (List ℕ)) → length places ≡ 0 → places_of w h head places number [] ≡ Err number
    unfolding places_of
    ended_none [] none = refl
    ended_none (p ∷ ps) none = absurd (omega (arith, none))

    ended_some : (places : List (List ℕ)) → 1 ≤ length places → places_of w h head places number [] ≡ Ok places
    unfolding places_of
    ended_some [] some = absurd (omega (arith, some))
    ended_some (p ∷ ps) some = refl

    pub none_read : judge.count ≡ 0 → read ≡ Err number
    none_read none = sym by_none ∙ ended_none is.places (sym is.given.count_is ∙ none)

    pub all_read : 1 ≤ judge.count → IsGiven m (λ places. read ≡ Ok places) judge
    all_read some =
        let many : 1 ≤ length is.places = subst (λ (n : ℕ). 1 ≤ n) is.given.count_is some in
        record { places = is.places; some = many; holds = sym by_none ∙ ended_some is.places many; given = is.given }
