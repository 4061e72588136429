-- Cells of subtrees, and steps of the check.
use Rattle.std.proofs.Common.{◌≡◌, ℕ, ◌+◌, ◌<◌, inl, inr, List, [], ◌∷◌, ◌++◌, length, get_or, set, sym, ap, subst, ◌∙◌, arith}
use Rattle.std.specs.Prelude.{slice_index, Some, None, Option, MatchOption}
use Rattle.std.proofs.Common.{rules, refl, ◌==◌, true}
use Rattle.fleet_grid.proofs.Edges.{beside_once}
use Rattle.std.proofs.lemmas.List.{get_or_push, length-set, get_or-set_same, get_or-set_other}
use Rattle.std.proofs.Math.ListN.{get_or-append}
use Rattle.std.proofs.lemmas.Bool.{cases_eq, eqb-true}
use Rattle.fleet_grid.specs.Floor.{Floor}
use Rattle.fleet_grid.specs.declared.dir.Dir.{Dir}
use Rattle.fleet_grid.specs.declared.dir.Dir.TheVariants.{North, East, South, West}
use Rattle.fleet_grid.specs.Floor.{IsNeighbourIn}
use Rattle.fleet_grid.specs.Floor.{IsNeighbour}
use Rattle.fleet_grid.specs.Walk.{IsBridge}
use Rattle.fleet_bridge.specs.inside.First.{HasNoneBeside}
use Rattle.fleet_bridge.specs.inside.Tree.{IsUnder, AreUnder}
use Rattle.fleet_bridge.proofs.Certificate.{under_same, under_parent}

pub under_own : (up : List ℕ) (n : ℕ) (inner : List ℕ) → length inner ≡ n → ((k : ℕ) → k < n → slice_index inner k ≡ k) → AreUnder up n inner
under_own up n inner size own = record { size = size; each = λ v h. under_same (slice_index up) v (slice_index inner v) (own v h) }

-- each place's own number, with one more
pub own_more : (own more : List ℕ) (n : ℕ) → length own ≡ n → more ≡ own ++ n ∷ [] → ((k : ℕ) → k < n → slice_index own k ≡ k) → (k : ℕ) → k < n + 1 → slice_index more k ≡ k
own_more own more n size e each k below = ap (λ (xs : List ℕ). slice_index xs k) e ∙ elim (cases_eq k n) [
  | inl is ↦ get_or_push own n 0 k (size ∙ sym is) ∙ sym is
  | inr ne ↦ (let less : k < n = omega (arith, below, ne) in get_or-append own (n ∷ []) 0 k (omega (arith, less, size)) ∙ each k less)
]

-- a cell that is under the child is under the parent
pub under_set : (up : List ℕ) (n : ℕ) (inner : List ℕ) (c : ℕ) → c < n → AreUnder up n inner → AreUnder up n (set inner (slice_index up c) (slice_index inner c))
under_set up n inner c small under = record {
  size = length-set inner (slice_index up c) (slice_index inner c) ∙ under.size;
  each = λ v h. elim (cases_eq v (slice_index up c)) [
    | inl e ↦ (
        let inside : v < length inner = omega (arith, under.size) in
        let at : get_or (set inner (slice_index up c) (slice_index inner c)) v 0 ≡ slice_index inner c =
        ap (λ (i : ℕ). get_or (set inner i (slice_index inner c)) v 0) (sym e) ∙ get_or-set_same inner v (slice_index inner c) 0 inside in
        let below = under_parent (slice_index up) c (slice_index inner c) (under.each c small) in
        subst (λ (p : ℕ). IsUnder (slice_index up) p (get_or (set inner (slice_index up c) (slice_index inner c)) v 0)) (sym e)
        (subst (IsUnder (slice_index up) (slice_index up c)) (sym at) below))
    | inr ne ↦ subst (IsUnder (slice_index up) v) (sym (get_or-set_other inner (slice_index up c) v (slice_index inner c) 0 ne)) (under.each v h)
  ];
}

pub near_by : (m : Floor) (a b : ℕ) (dir : Dir) → IsNeighbourIn m dir a b → IsNeighbour m a b
near_by m a b dir e = (dir, e)

pub same_around : (m : Floor) (top : ℕ → ℕ) (cell : ℕ)
    → ((d : ℕ) → IsNeighbourIn m North cell d → top cell ≡ top d) → ((d : ℕ) → IsNeighbourIn m East cell d → top cell ≡ top d)
    → ((d : ℕ) → IsNeighbourIn m South cell d → top cell ≡ top d) → ((d : ℕ) → IsNeighbourIn m West cell d → top cell ≡ top d)
    → (d : ℕ) → IsNeighbour m cell d → top cell ≡ top d
same_around m top cell north east south west d edge =
    at edge.0 edge.1
  where
    at : (dir : Dir) → IsNeighbourIn m dir cell d → top cell ≡ top d
    at North e = north d e
    at East e = east d e
    at South e = south d e
    at West e = west d e

-- what lies there is the one cell that was found
pub next_found : (m : Floor) (dir : Dir) (a : ℕ) (r : Option ℕ) → MatchOption r ((b : ℕ) → IsNeighbourIn m dir a b → ⊥) (λ b. IsNeighbourIn m dir a b) → (b : ℕ) → IsNeighbourIn m dir a b → r ≡ Some b
next_found m dir a None none b n = absurd (none b n)
next_found m dir a (Some c) at b n = ap Some (beside_once m.width dir a c b at.beside n.beside)

pub next_only : (m : Floor) (dir : Dir) (a : ℕ) (r : Option ℕ) → MatchOption r ((b : ℕ) → IsNeighbourIn m dir a b → ⊥) (λ b. IsNeighbourIn m dir a b) → (b : ℕ) → r ≡ Some b → IsNeighbourIn m dir a b
next_only m dir a None none b e = absurd (apart b None refl e)
  where
    apart : (b : ℕ) (o : Option ℕ) → o ≡ None → o ≡ Some b → ⊥
    apart b None e f = search (rules, f)
    apart b (Some c) e f = search (rules, e)
next_only m dir a (Some c) at b e = subst (IsNeighbourIn m dir a) (one c b e) at
  where
    one : (c b : ℕ) → Some c ≡ Some b → c ≡ b
    one c b e = search (rules, e)

-- the cell that was found is the one that was asked for
pub found_beside : (m : Floor) (a b next : ℕ) (dir : Dir) → IsNeighbourIn m dir a next → next == b ≡ true → IsNeighbour m a b
found_beside m a b next dir n t = (dir, subst (IsNeighbourIn m dir a) (eqb-true next b t) n)

-- nor is there another cell in that direction
pub no_bridge : (m : Floor) (a next : ℕ) (dir : Dir) → IsNeighbourIn m dir a next → (IsBridge (IsNeighbour m) a next → ⊥) → HasNoneBeside m a dir
no_bridge m a next dir n none b at bridge = none (subst (IsBridge (IsNeighbour m) a) (beside_once m.width dir a b next at.beside n.beside) bridge)

-- and so the two ends have one top
pub one_top : (m : Floor) (top : ℕ → ℕ) (cell next : ℕ) (dir : Dir) (x y : ℕ) → x ≡ top cell → y ≡ top next → IsNeighbourIn m dir cell next → x == y ≡ true → (d : ℕ) → IsNeighbourIn m dir cell d → top cell ≡ top d
one_top m top cell next dir x y ex ey n same d at = sym ex ∙ (eqb-true x y same ∙ (ey ∙ ap top (beside_once m.width dir cell next d n.beside at.beside)))

-- each place's number by a function, with one more
pub more_by : (f : ℕ → ℕ) (old more : List ℕ) (n : ℕ) → length old ≡ n → more ≡ old ++ f n ∷ [] → ((k : ℕ) → k < n → slice_index old k ≡ f k) → (k : ℕ) → k < n + 1 → slice_index more k ≡ f k
more_by f old more n size e each k below = ap (λ (xs : List ℕ). slice_index xs k) e ∙ elim (cases_eq k n) [
  | inl is ↦ get_or_push old (f n) 0 k (size ∙ sym is) ∙ ap f (sym is)
  | inr ne ↦ (let less : k < n = omega (arith, below, ne) in get_or-append old (f n ∷ []) 0 k (omega (arith, less, size)) ∙ each k less)
]
