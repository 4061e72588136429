-- Robots that move one after the other, and the longest of tracks.
use Rattle.std.proofs.Common.{◌≡◌, ◌≢◌, ℕ, zero, suc, ◌+◌, ◌-◌, ◌<◌, ◌≤◌, ◌⊎◌, inl, inr, List, [], ◌∷◌, ◌++◌, length, Option, None, get_or, set, slice_index_or, refl, sym, ap, ◌∙◌, subst, arith}
use Rattle.std.proofs.lemmas.Bool.{cases_eq}
use Rattle.std.proofs.lemmas.List.{append_assoc, append-nil, get_or-set_same, get_or-set_other, get_or_append_left, get_or_push, length-append}
use Rattle.fleet_grid.specs.Floor.{Floor}
use Rattle.fleet_plans.specs.Valid.{place_at}
use Rattle.fleet_plans.specs.declared.judging.PlanFault.{PlanFault}
use Rattle.fleet_plans.specs.Judge.{Judged, HasPassed, IsSoFar, HasJudged}
use Rattle.fleet_plans.specs.Tracks.{moved, letter_at, IsMoved, AreWalked}
use Rattle.fleet_plans.specs.inside.Given.{IsGiven}
use Rattle.fleet_plans.specs.inside.Walk.{IsLongest, AreSteps, IsGone, IsWalkedTo, IsStopped}

-- one more item is written
pub set_more : (f : ℕ → ℕ) (list : List ℕ) (k v : ℕ) → k < length list → ((r : ℕ) → r < k → get_or list r 0 ≡ f r) → v ≡ f k → (r : ℕ) → r < k + 1 → get_or (set list k v) r 0 ≡ f r
set_more f list k v inside done here = λ r less. elim (cases_eq r k) [
  | inl same ↦ subst (λ (x : ℕ). get_or (set list k v) x 0 ≡ f x) (sym same) (get_or-set_same list k v 0 inside ∙ here)
  | inr other ↦ get_or-set_other list k r v 0 other ∙ done r (omega (arith, less, other))
]

pub set_rest : (list init : List ℕ) (k v : ℕ) → ((r : ℕ) → k ≤ r → get_or list r 0 ≡ get_or init r 0) → (r : ℕ) → k + 1 ≤ r → get_or (set list k v) r 0 ≡ get_or init r 0
set_rest list init k v rest = λ r past.
    let other : r ≢ k = λ same. omega (arith, past, same) in
    get_or-set_other list k r v 0 other ∙ rest r (omega (arith, past))

module _ (tracks : List (List ℕ)) (n old : ℕ) (inside : n < length tracks) (is : IsLongest tracks n old) where
  pub longer : (new : ℕ) → new ≡ length (slice_index_or tracks n []) → old < length (slice_index_or tracks n []) → IsLongest tracks (n + 1) new
  longer new here more = record {
    most = λ r less. elim (cases_eq r n) [
      | inl same ↦ let P : ℕ → Type 0 = λ x. length (slice_index_or tracks x []) ≤ new in subst P (sym same) (omega (arith, here))
      | inr other ↦ let before = is.most r (omega (arith, less, other)) in omega (arith, before, here, more)
    ];
    one = inr (n, inside, sym here);
  }

  pub no_longer : (new : ℕ) → new ≡ old → length (slice_index_or tracks n []) ≤ old → IsLongest tracks (n + 1) new
  no_longer new same_as less_here = record {
    most = λ r less. elim (cases_eq r n) [
      | inl same ↦ let P : ℕ → Type 0 = λ x. length (slice_index_or tracks x []) ≤ new in subst P (sym same) (omega (arith, same_as, less_here))
      | inr other ↦ let before = is.most r (omega (arith, less, other)) in omega (arith, before, same_as)
    ];
    one = let P : ℕ → Type 0 = λ x. (x ≡ 0) ⊎ ((r : ℕ) × (r < length tracks) × (length (slice_index_or tracks r []) ≡ x)) in subst P (sym same_as) is.one;
  }

pub begun : (w h : ℕ) (starts : List ℕ) (tracks places : List (List ℕ)) → places ≡ starts ∷ [] → AreSteps w h starts tracks places 0
begun w h starts tracks places is = record {
  count = ap (λ (ps : List (List ℕ)). length ps) is ∙ omega arith;
  begin = ap (λ (ps : List (List ℕ)). place_at ps 0) is;
  step = λ t less. absurd (omega (arith, less));
}

module _ (w h : ℕ) (starts : List ℕ) (tracks places more : List (List ℕ)) (place : List ℕ) (n : ℕ) (is : AreSteps w h starts tracks places n) (added : more ≡ places ++ place ∷ []) where
  old_at : (t : ℕ) → t < n + 1 → place_at more t ≡ place_at places t
  old_at t less = ap (λ (ps : List (List ℕ)). place_at ps t) added ∙ get_or_append_left places (place ∷ []) [] t (omega (arith, less, is.count))

  pub new_at : place_at more (n + 1) ≡ place
  new_at = ap (λ (ps : List (List ℕ)). place_at ps (n + 1)) added ∙ get_or_push places place [] (n + 1) is.count

  pub step_more : IsMoved w h tracks n (place_at places n) place → AreSteps w h starts tracks more (n + 1)
  step_more moves = record {
    count = ap (λ (ps : List (List ℕ)). length ps) added ∙ (length-append places (place ∷ []) ∙ omega (arith, is.count));
    begin = old_at 0 (omega arith) ∙ is.begin;
    step = λ t less. elim (cases_eq t n) [
      | inl same ↦
          let P : ℕ → Type 0 = λ x. IsMoved w h tracks x (place_at more x) (place_at more (x + 1)) in
          subst P (sym same)
          (subst (λ (q : List ℕ). IsMoved w h tracks n q (place_at more (n + 1))) (sym (old_at n (omega arith)))
          (subst (λ (q : List ℕ). IsMoved w h tracks n (place_at places n) q) (sym new_at) moves))
      | inr other ↦
          subst (λ (q : List ℕ). IsMoved w h tracks t q (place_at more (t + 1))) (sym (old_at t (omega (arith, less, other))))
          (subst (λ (q : List ℕ). IsMoved w h tracks t (place_at places t) q) (sym (old_at (t + 1) (omega (arith, less, other)))) (is.step t (omega (arith, less, other))))
    ];
  }

-- the judge has the placement after one more step
pub gone_on : (w h : ℕ) (starts : List ℕ) (tracks : List (List ℕ)) (m : Floor) (n : ℕ) (from to : List ℕ) (old new : Judged) → (was : IsGiven m (λ places. AreSteps w h starts tracks places n × (place_at places n ≡ from)) old)
    → IsMoved w h tracks n from to → ((m : Floor) (places : List (List ℕ)) → HasJudged m places old → HasJudged m (places ++ to ∷ []) new)
    → IsGiven m (λ places. AreSteps w h starts tracks places (n + 1) × (place_at places (n + 1) ≡ to)) new
gone_on w h starts tracks m n from to old new was moves taken =
    let places = was.places in
    let there : IsMoved w h tracks n (place_at places n) to = subst (λ (q : List ℕ). IsMoved w h tracks n q to) (sym was.holds.1) moves in
    record {
      places = places ++ to ∷ [];
      some = omega (arith, length-append places (to ∷ []));
      holds = (
        step_more w h starts tracks places (places ++ to ∷ []) to n was.holds.0 refl there,
        new_at w h starts tracks places (places ++ to ∷ []) to n was.holds.0 refl,
      );
      given = taken m places was.given;
    }

-- a step is the same by sides that are the map's
pub moved_on : (m : Floor) (w h : ℕ) (tracks : List (List ℕ)) (t : ℕ) (last from to : List ℕ) → m.width ≡ w → m.height ≡ h → last ≡ from → IsMoved m.width m.height tracks t last to → IsMoved w h tracks t from to
moved_on m w h tracks t last from to wide tall is moves =
    subst (λ (x : ℕ). IsMoved x h tracks t from to) wide (subst (λ (x : ℕ). IsMoved m.width x tracks t from to) tall (subst (λ (q : List ℕ). IsMoved m.width m.height tracks t q to) is moves))

pub taken_first : (m : Floor) (starts place : List ℕ) (judge : Judged) → place ≡ starts → HasJudged m (starts ∷ []) judge → HasJudged judge.floor (place ∷ []) judge
taken_first m starts place judge is was =
    subst (λ (p : List ℕ). HasJudged judge.floor (p ∷ []) judge) (sym is) (subst (λ (f : Floor). HasJudged f (starts ∷ []) judge) (sym was.on) was)

-- the robots are where the judge has them
pub gone_none : (w h : ℕ) (tracks : List (List ℕ)) (m : Floor) (place : List ℕ) (judge : Judged) → HasJudged m (place ∷ []) judge → IsGone m w h place tracks 0 place judge
gone_none w h tracks m place judge was = record { places = place ∷ []; some = omega arith; holds = (begun w h place tracks (place ∷ []) refl, refl); given = was }

pub last_is : (m : Floor) (place : List ℕ) (judge : Judged) → HasJudged m (place ∷ []) judge → judge.fault ≡ None → judge.last ≡ place
last_is m place judge was none =
    let far : HasPassed m (place ∷ []) judge.first judge.last judge.costs = subst (λ (o : Option PlanFault). IsSoFar m (place ∷ []) judge.first judge.last judge.costs o) none was.so_far in
    far.last_one

pub gone_count : (w h : ℕ) (starts : List ℕ) (tracks : List (List ℕ)) (m : Floor) (n : ℕ) (place : List ℕ) (judge : Judged) → IsGone m w h starts tracks n place judge → judge.count ≡ n + 1
gone_count w h starts tracks m n place judge is = is.given.count_is ∙ is.holds.0.count

pub stopped_count : (m : Floor) (w h : ℕ) (starts : List ℕ) (tracks : List (List ℕ)) (steps : ℕ) (place : List ℕ) (judge : Judged) (is : IsStopped m w h starts tracks steps place judge) → judge.count ≡ is.time + 1
stopped_count m w h starts tracks steps place judge is = gone_count w h starts tracks m is.time place judge is.gone

pub stopped_gone : (m : Floor) (w h : ℕ) (begin starts : List ℕ) (tracks : List (List ℕ)) (steps : ℕ) (place : List ℕ) (judge : Judged) → begin ≡ starts → IsStopped m w h begin tracks steps place judge
    → IsGone judge.floor w h starts tracks (judge.count - 1) place judge
stopped_gone m w h begin starts tracks steps place judge is was =
    let count = stopped_count m w h begin tracks steps place judge was in
    let when : was.time ≡ judge.count - 1 = omega (arith, count) in
    subst (λ (f : Floor). IsGone f w h starts tracks (judge.count - 1) place judge) (sym was.gone.given.on)
    (subst (λ (n : ℕ). IsGone m w h starts tracks n place judge) when (subst (λ (s : List ℕ). IsGone m w h s tracks was.time place judge) is was.gone))

-- any step can be made, wherever the robots are
unfoldable pub step_from : (w h : ℕ) (tracks : List (List ℕ)) (t k : ℕ) → List ℕ → List ℕ
step_from w h tracks t k [] = []
step_from w h tracks t k (x ∷ xs) = moved w h x (letter_at tracks k t) ∷ step_from w h tracks t (k + 1) xs

step_from_length : (w h : ℕ) (tracks : List (List ℕ)) (t k : ℕ) (xs : List ℕ) → length (step_from w h tracks t k xs) ≡ length xs
unfolding step_from
step_from_length w h tracks t k [] = refl
step_from_length w h tracks t k (x ∷ xs) = ap suc (step_from_length w h tracks t (k + 1) xs)

step_from_at : (w h : ℕ) (tracks : List (List ℕ)) (t k : ℕ) (xs : List ℕ) (r : ℕ) → r < length xs → get_or (step_from w h tracks t k xs) r 0 ≡ moved w h (get_or xs r 0) (letter_at tracks (k + r) t)
unfolding step_from
step_from_at w h tracks t k [] r less = absurd (omega (arith, less))
step_from_at w h tracks t k (x ∷ xs) zero less = ap (λ (n : ℕ). moved w h x (letter_at tracks n t)) (omega arith)
step_from_at w h tracks t k (x ∷ xs) (suc r) less =
    step_from_at w h tracks t (k + 1) xs r (omega (arith, less)) ∙ ap (λ (n : ℕ). moved w h (get_or xs r 0) (letter_at tracks n t)) (omega arith)

zero_and : (w h : ℕ) (tracks : List (List ℕ)) (t : ℕ) (from : List ℕ) (r : ℕ) → moved w h (get_or from r 0) (letter_at tracks (0 + r) t) ≡ moved w h (get_or from r 0) (letter_at tracks r t)
zero_and w h tracks t from r =
    let is : 0 + r ≡ r = omega arith in
    ap (λ (n : ℕ). moved w h (get_or from r 0) (letter_at tracks n t)) is

pub goes_on : (w h : ℕ) (tracks : List (List ℕ)) (t : ℕ) (from : List ℕ) → IsMoved w h tracks t from (step_from w h tracks t 0 from)
goes_on w h tracks t from = record { same_length = step_from_length w h tracks t 0 from; each = λ r less. step_from_at w h tracks t 0 from r less ∙ zero_and w h tracks t from r }

-- and so any number of steps
record AreMore (w h : ℕ) (starts : List ℕ) (tracks places : List (List ℕ)) (n k : ℕ) : Type 0 where
  more : List (List ℕ)
  count : length more ≡ k
  steps : AreSteps w h starts tracks (places ++ more) (n + k)

steps_over : (w h : ℕ) (starts : List ℕ) (tracks places : List (List ℕ)) (n k : ℕ) → AreSteps w h starts tracks places n → AreMore w h starts tracks places n k
steps_over w h starts tracks places n zero is = record {
  more = [];
  count = refl;
  steps =
      let same : n ≡ n + 0 = omega arith in
      subst (λ (ps : List (List ℕ)). AreSteps w h starts tracks ps (n + 0)) (sym (append-nil places)) (subst (λ (x : ℕ). AreSteps w h starts tracks places x) same is);
}
steps_over w h starts tracks places n (suc k) is =
    let was = steps_over w h starts tracks places n k is in
    let before = places ++ was.more in
    let to = step_from w h tracks (n + k) 0 (place_at before (n + k)) in
    let next : n + k + 1 ≡ n + suc k = omega arith in
    record {
      more = was.more ++ to ∷ [];
      count = length-append was.more (to ∷ []) ∙ omega (arith, was.count);
      steps =
          subst (λ (x : ℕ). AreSteps w h starts tracks (places ++ (was.more ++ to ∷ [])) x) next
          (step_more w h starts tracks before (places ++ (was.more ++ to ∷ [])) to (n + k) was.steps (sym (append_assoc places was.more (to ∷ []))) (goes_on w h tracks (n + k) (place_at before (n + k))));
    }

-- a judge that passes over the rest was given it
pub gone_over : (w h : ℕ) (starts : List ℕ) (tracks : List (List ℕ)) (m : Floor) (n k steps : ℕ) (place : List ℕ) (old new : Judged) → IsGone m w h starts tracks n place old → n + k ≡ steps
    → ((m : Floor) (places more : List (List ℕ)) → length more ≡ k → HasJudged m places old → HasJudged m (places ++ more) new) → IsWalkedTo m w h starts tracks steps new
gone_over w h starts tracks m n k steps place old new was all over =
    let rest = steps_over w h starts tracks was.places n k was.holds.0 in
    record {
      places = was.places ++ rest.more;
      some = omega (arith, length-append was.places rest.more, was.some);
      holds = subst (λ (x : ℕ). AreSteps w h starts tracks (was.places ++ rest.more) x) all rest.steps;
      given = over m was.places rest.more rest.count was.given;
    }

-- all steps of the longest track are made
pub walked : (w h : ℕ) (starts : List ℕ) (tracks places : List (List ℕ)) (n : ℕ) → AreSteps w h starts tracks places n → IsLongest tracks (length tracks) n → AreWalked w h starts tracks places
walked w h starts tracks places n is longest = record {
  begin = is.begin;
  step = λ t less. is.step t (omega (arith, less, is.count));
  whole = λ r less. let below = longest.most r less in omega (arith, below, is.count);
  no_more = elim longest.one [ inl none ↦ inl (omega (arith, none, is.count)) | inr p ↦ inr (p.0, p.1, omega (arith, p.2, is.count)) ];
}
