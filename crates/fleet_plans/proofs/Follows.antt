-- Robots that follow their paths, placement by placement.
use Rattle.std.proofs.Common.{◌≡◌, ℕ, zero, suc, ◌+◌, ◌<◌, inl, inr, List, [], ◌∷◌, ◌++◌, length, map, max, refl, sym, ap, subst, ◌∙◌, arith}
use Rattle.std.proofs.lemmas.Bool.{cases_eq}
use Rattle.std.proofs.lemmas.List.{append_assoc, append-nil, get_or-map, get_or_append_left, get_or_push, length-append, length-map}
use Rattle.fleet_grid.specs.Floor.{Floor}
use Rattle.fleet_plans.specs.Valid.{place_at}
use Rattle.fleet_plans.specs.Judge.{Judged, HasJudged}
use Rattle.fleet_plans.specs.Paths.{path_at, ArePlaced, AreFollowed}
use Rattle.fleet_plans.specs.inside.Walk.{IsLongest}
use Rattle.fleet_plans.specs.inside.Follow.{AreTaken}
use Rattle.fleet_plans.specs.inside.Given.{IsGiven}

-- the judge has the placement of one more time
pub taken_more : (m : Floor) (paths : List (List ℕ)) (n : ℕ) (place : List ℕ) (old new : Judged) → AreTaken m paths n old → ArePlaced paths n place
    → ((m : Floor) (places : List (List ℕ)) → HasJudged m places old → HasJudged m (places ++ place ∷ []) new) → AreTaken m paths (n + 1) new
taken_more m paths n place old new was placed take =
    let places = was.places in
    record {
      places = places ++ place ∷ [];
      count = length-append places (place ∷ []) ∙ omega (arith, was.count);
      placed = λ t less. elim (cases_eq t n) [
        | inl same ↦
            let P : ℕ → Type 0 = λ x. ArePlaced paths x (place_at (places ++ place ∷ []) x) in
            subst P (sym same) (subst (λ (q : List ℕ). ArePlaced paths n q) (sym (get_or_push places place [] n was.count)) placed)
        | inr other ↦
            subst (λ (q : List ℕ). ArePlaced paths t q) (sym (get_or_append_left places (place ∷ []) [] t (omega (arith, less, other, was.count))))
            (was.placed t (omega (arith, less, other)))
      ];
      given = take m places was.given;
    }

-- robots can be placed at any time
placed_by : List (List ℕ) → ℕ → List ℕ
placed_by paths t = map (λ (path : List ℕ). path_at path t) paths

are_placed : (paths : List (List ℕ)) (t : ℕ) → ArePlaced paths t (placed_by paths t)
unfolding placed_by
are_placed paths t =
    let at = λ (path : List ℕ). path_at path t in
    record { each_one = length-map paths at; cell = λ r less. get_or-map at paths r [] 0 less }

-- and so at any number of times
record AreMoreTimes (paths places : List (List ℕ)) (n k : ℕ) : Type 0 where
  more : List (List ℕ)
  many : length more ≡ k
  count : length (places ++ more) ≡ n + k
  placed : (t : ℕ) → t < n + k → ArePlaced paths t (place_at (places ++ more) t)

times_over : (paths places : List (List ℕ)) (n k : ℕ) → length places ≡ n → ((t : ℕ) → t < n → ArePlaced paths t (place_at places t)) → AreMoreTimes paths places n k
times_over paths places n zero count placed = record {
  more = [];
  many = refl;
  count = ap (λ (ps : List (List ℕ)). length ps) (append-nil places) ∙ omega (arith, count);
  placed = λ t less. subst (λ (ps : List (List ℕ)). ArePlaced paths t (place_at ps t)) (sym (append-nil places)) (placed t (omega (arith, less)));
}
times_over paths places n (suc k) count placed =
    let was = times_over paths places n k count placed in
    let before = places ++ was.more in
    let to = placed_by paths (n + k) in
    let after = before ++ to ∷ [] in
    let same : after ≡ places ++ (was.more ++ to ∷ []) = append_assoc places was.more (to ∷ []) in
    let there : (t : ℕ) → t < n + suc k → ArePlaced paths t (place_at after t) =
    λ t less.
    elim (cases_eq t (n + k)) [
      | inl last ↦
          let P : ℕ → Type 0 = λ x. ArePlaced paths x (place_at after x) in
          subst P (sym last) (subst (λ (q : List ℕ). ArePlaced paths (n + k) q) (sym (get_or_push before to [] (n + k) was.count)) (are_placed paths (n + k)))
      | inr other ↦
          subst (λ (q : List ℕ). ArePlaced paths t q) (sym (get_or_append_left before (to ∷ []) [] t (omega (arith, less, other, was.count)))) (was.placed t (omega (arith, less, other)))
    ] in
    record {
      more = was.more ++ to ∷ [];
      many = length-append was.more (to ∷ []) ∙ omega (arith, was.many);
      count = ap (λ (ps : List (List ℕ)). length ps) (sym same) ∙ (length-append before (to ∷ []) ∙ omega (arith, was.count));
      placed = λ t less. subst (λ (ps : List (List ℕ)). ArePlaced paths t (place_at ps t)) same (there t less);
    }

-- a judge that passes over the rest was given it
pub taken_over : (m : Floor) (paths : List (List ℕ)) (n k times : ℕ) (old new : Judged) → AreTaken m paths n old → n + k ≡ times
    → ((m : Floor) (places more : List (List ℕ)) → length more ≡ k → HasJudged m places old → HasJudged m (places ++ more) new) → AreTaken m paths times new
taken_over m paths n k times old new was all over =
    let rest = times_over paths was.places n k was.count was.placed in
    record {
      places = was.places ++ rest.more;
      count = rest.count ∙ all;
      placed = λ t less. rest.placed t (omega (arith, less, all));
      given = over m was.places rest.more rest.many was.given;
    }

-- all times of the longest path are taken
pub followed : (m : Floor) (paths : List (List ℕ)) (n most : ℕ) (judge : Judged) → AreTaken m paths n judge → IsLongest paths (length paths) most → n ≡ max most 1 → IsGiven m (AreFollowed paths) judge
followed m paths n most judge was longest is = record {
  places = was.places;
  some = omega (arith, was.count, is);
  holds = record {
    placed = λ t less. was.placed t (omega (arith, less, was.count));
    whole = λ r less. let below = longest.most r less in omega (arith, below, was.count, is);
    no_more = elim (cases_eq most 0) [
      | inl none ↦ inl (omega (arith, none, was.count, is))
      | inr some ↦ elim longest.one [ inl none ↦ absurd (some none) | inr p ↦ inr (p.0, p.1, omega (arith, p.2, some, was.count, is)) ]
    ];
  };
  given = was.given;
}
