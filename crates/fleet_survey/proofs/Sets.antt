-- Cells of a set, found one after another.
use Rattle.std.proofs.Common.{◌≡◌, ℕ, ◌+◌, ◌<◌, ◌≤◌, ◌⊎◌, inl, inr, List, [], ◌∷◌, ◌++◌, length, get_or, refl, sym, subst, Bool, true, false, arith}
use Rattle.std.specs.Prelude.{◌↔◌, slice_index}
use Rattle.std.specs.List.{All, Contains}
use Rattle.std.proofs.lemmas.Bool.{cases_Bool, cases_lt}
use Rattle.std.proofs.lemmas.List.{append-nil}
use Rattle.std.proofs.lemmas.List.Elements.{All-from_get_or, All-get_or, Contains-append_left, Contains-get_or, Contains-push, Contains-push_cases}
use Rattle.std.proofs.lemmas.List.Quantifiers.{all_pairs_push}
use Rattle.fleet_grid.specs.Floor.{Floor, IsFloor, IsNeighbour}
use Rattle.fleet_grid.specs.Walk.{IsRoomy}
use Rattle.fleet_bridge.specs.Roominess.{AreRoomyFor}
use Rattle.fleet_roomy.specs.Unroomy.{AreUnroomy, IsRoomyCell, IsUnroomyCell, has}
use Rattle.fleet_survey.specs.Survey.{AreCells, AreCellsBelow, IsGreatestFor, cell_if}

pub none_below : (In : ℕ → Type 0) → AreCellsBelow In 0 []
none_below In = record {
  each = λ c. (λ is. absurd (omega (arith, is.1)), λ it. absurd (omega (arith, it.0)));
  order = λ i j d less inside. absurd (omega (arith, inside));
}

-- the next cell is one of them, or is not
pub next_below : (In : ℕ → Type 0) (k : ℕ) (cells : List ℕ) (wanted : Bool) → AreCellsBelow In k cells → (wanted ≡ true → In k) → (In k → wanted ≡ true) → AreCellsBelow In (k + 1) (cells ++ cell_if wanted k)
next_below In k cells true known said known_in = record {
  each = λ c. (
    λ is. elim (Contains-push_cases cells k c is) [
      | inl there ↦ (let it = (known.each c).0 there in (omega (arith, it.0), it.1))
      | inr same ↦ (omega (arith, same), subst In same (said refl))
    ],
    λ it. elim (cases_lt c k) [
      | inl below ↦ Contains-append_left cells (k ∷ []) c ((known.each c).1 (below, it.1))
      | inr from ↦ (let e : k ≡ c = omega (arith, from, it.0) in subst (Contains (cells ++ k ∷ [])) e (Contains-push cells k))
    ],
  );
  order = all_pairs_push (λ a b. a < b) cells k known.order (λ i d inside. ((known.each (get_or cells i d)).0 (Contains-get_or cells i d inside)).0);
}
next_below In k cells false known said known_in = subst (AreCellsBelow In (k + 1)) (sym (append-nil cells)) (record {
  each = λ c. (
    λ is. (let it = (known.each c).0 is in (omega (arith, it.0), it.1)),
    λ it. elim (cases_lt c k) [
      | inl below ↦ (known.each c).1 (below, it.1)
      | inr from ↦ absurd (let e : c ≡ k = omega (arith, from, it.0) in let never : false ≡ true = known_in (subst In e it.1) in cc never)
    ],
  );
  order = known.order;
})

pub all_below : (In : ℕ → Type 0) (k : ℕ) (cells : List ℕ) → ((c : ℕ) → In c → c < k) → AreCellsBelow In k cells → AreCells In cells
all_below In k cells bound known = record {
  each = λ c. (λ is. ((known.each c).0 is).1, λ it. (known.each c).1 (bound c it, it));
  order = known.order;
}

-- the floor cells that are marked, and those that are not
pub unroomy_are : (m : Floor) (n : ℕ) (marks : List Bool) (cells : List ℕ) → AreUnroomy m n marks → AreCells (λ c. IsFloor m c × (has marks c ≡ true)) cells → AreCells (IsUnroomyCell m n) cells
unroomy_are m n marks cells known are = record {
  each = λ c. (λ is. (known.exact c).0 ((are.each c).0 is).1, λ it. (are.each c).1 (it.0, (known.exact c).1 it));
  order = are.order;
}

pub roomy_are : (m : Floor) (n : ℕ) (marks : List Bool) (cells : List ℕ) → AreUnroomy m n marks → AreCells (λ c. IsFloor m c × (has marks c ≡ false)) cells → AreCells (IsRoomyCell m n) cells
roomy_are m n marks cells known are = record {
  each = λ c. (
    λ is. (let it = (are.each c).0 is in (it.0, known.others c it.0 it.1)),
    λ it. elim (cases_Bool (has marks c)) [
      | inl marked ↦ absurd (((known.exact c).0 marked).1 it.1)
      | inr free ↦ (are.each c).1 (it.0, free)
    ],
  );
  order = are.order;
}

-- the least of the numbers of some cells

pub AreWithin : Floor → List ℕ → ℕ → ℕ → Type 0
AreWithin m cells i least = (n : ℕ) → n < 4294967296 → (n ≤ least) ↔ ((k : ℕ) → k < i → IsRoomy (IsNeighbour m) n (slice_index cells k))

pub within_none : (m : Floor) (cells : List ℕ) → AreWithin m cells 0 4294967295
unfolding AreWithin
within_none m cells n small = (λ le k less. absurd (omega (arith, less)), λ all. omega (arith, small))

pub within_more : (m : Floor) (most cells : List ℕ) (i least number next : ℕ) → AreRoomyFor m most → All (IsFloor m) cells → i < length cells → AreWithin m cells i least → number ≡ slice_index most (slice_index cells i)
    → next ≤ least → next ≤ number → (next ≡ least) ⊎ (next ≡ number) → AreWithin m cells (i + 1) next
unfolding AreWithin
within_more m most cells i least number next known floor inside before is one two either n small = (
  λ le k less. elim (cases_lt k i) [
    | inl early ↦ (before n small).0 (omega (arith, le, one)) k early
    | inr from ↦ (let e : i ≡ k = omega (arith, from, less) in subst (λ (x : ℕ). IsRoomy (IsNeighbour m) n (slice_index cells x)) e ((each n small).0 (omega (arith, le, two, is))))
  ],
  λ all. (
      let a = (before n small).1 (λ k less. all k (omega (arith, less))) in
      let b = (each n small).1 (all i (omega arith)) in
      elim either [ inl e ↦ omega (arith, a, e) | inr e ↦ omega (arith, b, e, is) ]),
)
  where
    each : (n : ℕ) → n < 4294967296 → (n ≤ slice_index most (slice_index cells i)) ↔ IsRoomy (IsNeighbour m) n (slice_index cells i)
    each n small = known.each (slice_index cells i) n (All-get_or (IsFloor m) cells i 0 inside floor) small

pub within_all : (m : Floor) (cells : List ℕ) (least : ℕ) → AreWithin m cells (length cells) least → IsGreatestFor m cells least
unfolding AreWithin
within_all m cells least known n small = (
  λ le. All-from_get_or (IsRoomy (IsNeighbour m) n) cells 0 (λ k less. (known n small).0 le k less),
  λ all. (known n small).1 (λ k less. All-get_or (IsRoomy (IsNeighbour m) n) cells k 0 less all),
)
