-- What a field shows of the reach of its map.
use Rattle.std.proofs.Common.{◌≡◌, ℕ, zero, ◌+◌, ◌<◌, ◌≤◌, length, Option, Some, None, ◌∙◌, ap, sym, subst, arith, inl, inr, refl, ◌⊎◌}
use Rattle.std.specs.Prelude.{IfSome, MatchOption, slice_index_or}
use Rattle.std.proofs.lemmas.List.{get_or_past}
use Rattle.std.proofs.lemmas.Bool.{cases_lt}
use Rattle.fleet_grid.specs.Floor.{Floor, IsNeighbour}
use Rattle.fleet_grid.specs.Walk.{AreApart, IsDistance}
use Rattle.fleet_grid.proofs.Walks.{distance_once}
use Rattle.fleet_field.specs.Field.{Aim, IsField}
use Rattle.fleet_bound.specs.Reach.{reach}
use Rattle.fleet_bound.proofs.Reach.{reach-within, reach-positive}

shown : (m : Floor) (cell from : ℕ) (o : Option ℕ) → MatchOption o (AreApart (IsNeighbour m) cell from) (λ d. IsDistance (IsNeighbour m) cell from d) → IfSome o (λ d. d ≤ reach m)
shown m cell from None apart = tt
shown m cell from (Some d) far = reach-within m cell from d far

pub field-within : (m : Floor) (from cell : ℕ) (field : Aim) (o : Option ℕ) → IsField m from field → o ≡ slice_index_or field.away cell None → IfSome o (λ d. d ≤ reach m)
field-within m from cell field o is at =
    subst (λ (x : Option ℕ). IfSome x (λ d. d ≤ reach m)) (sym at) (shown m cell from (slice_index_or field.away cell None) (is.each cell))

same : (m : Floor) (cell to d : ℕ) (o : Option ℕ) → MatchOption o (AreApart (IsNeighbour m) cell to) (λ d. IsDistance (IsNeighbour m) cell to d) → IsDistance (IsNeighbour m) cell to d → Some d ≡ o
same m cell to d None apart far = absurd (apart far.walk.0 far.walk.1)
same m cell to d (Some e) there far = ap Some (distance_once (IsNeighbour m) cell to d e far there)

-- a distance is the one that the field shows
pub field-shows : (m : Floor) (to cell d : ℕ) (field : Aim) (o : Option ℕ) → IsField m to field → o ≡ slice_index_or field.away cell None → IsDistance (IsNeighbour m) cell to d → Some d ≡ o
field-shows m to cell d field o is at far = same m cell to d (slice_index_or field.away cell None) (is.each cell) far ∙ sym at

-- no cell below n is farther from this one, and two cells are so far apart
pub record IsFarthest (m : Floor) (from n edges : ℕ) : Type 0 where
  pub within : edges ≤ reach m
  pub wide : (cell d : ℕ) → cell < n → IsDistance (IsNeighbour m) cell from d → d ≤ edges

pub farthest-begins : (m : Floor) (from : ℕ) → IsFarthest m from 0 1
farthest-begins m from = record { within = reach-positive m; wide = λ cell d below far. absurd (omega (arith, below)) }

-- one cell more
pub farthest-goes : (m : Floor) (from n edges more : ℕ) (field : Aim) (o : Option ℕ) → IsField m from field → o ≡ slice_index_or field.away n None → IsFarthest m from n edges →
    more ≤ reach m → edges ≤ more → IfSome o (λ e. e ≤ more) → IsFarthest m from (n + 1) more
farthest-goes m from n edges more field o is at before within grows covers = record {
  within = within;
  wide = λ cell d below far. elim (cases_lt cell n) [
    | inl less ↦ (let old = before.wide cell d less far in omega (arith, old, grows))
    | inr past ↦ (
        let here : cell ≡ n = omega (arith, below, past) in
        let there = subst (λ (c : ℕ). IsDistance (IsNeighbour m) c from d) here far in
        shows d o (field-shows m from n d field o is at there) covers)
  ];
}
  where
    shows : (d : ℕ) (o : Option ℕ) → Some d ≡ o → IfSome o (λ e. e ≤ more) → d ≤ more
    shows d o e le = subst (λ (x : Option ℕ). IfSome x (λ e. e ≤ more)) (sym e) le

-- all cells
pub farthest-all : (m : Floor) (from n edges : ℕ) (field : Aim) → IsField m from field → IsFarthest m from n edges → length m.letters ≤ n →
    (cell d : ℕ) → IsDistance (IsNeighbour m) cell from d → d ≤ edges
farthest-all m from n edges field is found all cell d far =
    found.wide cell d (known (cases_lt cell n)) far
  where
    some_none : (d : ℕ) → Some d ≡ None → ⊥
    some_none d e = cc

    known : (cell < n) ⊎ (n ≤ cell) → cell < n
    known (inl less) = less
    known (inr past) =
        absurd (some_none d (field-shows m from cell d field (slice_index_or field.away cell None) is refl far ∙ get_or_past field.away cell None (omega (arith, is.covers, all, past))))
