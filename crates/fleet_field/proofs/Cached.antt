-- What of a list is left in a cache, and what is true of that.
use Rattle.std.proofs.Common.{◌≡◌, ℕ, suc, List, [], ◌∷◌, take, drop, Option, Some, None, refl, sym, ap, subst, arith}
use Rattle.std.specs.Prelude.{OnSome, IfNone}
use Rattle.std.specs.List.{All, Contains, remove}
use Rattle.fleet_grid.specs.Floor.{Floor}
use Rattle.fleet_field.specs.Field.{Aim, IsField}
use Rattle.fleet_field.specs.FieldCache.{FieldCache}
use Rattle.std.proofs.lemmas.List.Elements.{All-nil, All-take, All-drop, All-append, All-cons, All-tail, All-weaker, All-contains, All-contains_itself}

module _ {X : Type 0} where
  pub among_taken : (n : ℕ) (xs : List X) → All (Contains xs) (take n xs)
  among_taken n xs = All-take (Contains xs) n xs (All-contains_itself xs)

  pub among_removed : (at : ℕ) (xs : List X) → All (Contains xs) (remove xs at)
  among_removed at xs =
      All-append (Contains xs) (take at xs) (drop (suc at) xs) (All-take (Contains xs) at xs (All-contains_itself xs)) (All-drop (Contains xs) (suc at) xs (All-contains_itself xs))

  -- by the clauses of `remove` on a queue of these items
  pub among_left : {Q : Type 0} (items : Q → List X) (at : ℕ) (old new : Q) (taken : Option X) → OnSome taken (items new ≡ remove (items old) at) → IfNone taken (new ≡ old) → All (Contains (items old)) (items new)
  among_left items at old new (Some x) less same = subst (λ (xs : List X). All (Contains (items old)) xs) (sym less) (among_removed at (items old))
  among_left items at old new None less same = subst (λ (xs : List X). All (Contains (items old)) xs) (sym (ap items same)) (All-contains_itself (items old))

  pub among_put : (x : X) (n : ℕ) (xs : List X) → All (Contains (x ∷ xs)) (x ∷ take n xs)
  among_put x n xs =
      All-cons (Contains (x ∷ xs)) x (take n xs) (0, omega arith, refl) (All-take (Contains (x ∷ xs)) n xs (All-tail (Contains (x ∷ xs)) x xs (All-contains_itself (x ∷ xs))))

  pub all_among : (P : X → Type 0) (old new : List X) → All (Contains old) new → All P old → All P new
  all_among P old new among all = All-weaker (Contains old) P (λ x there. All-contains P old x all there) new among

-- a field of the map is put next to those of the map
pub keeps_put : (m : Floor) (field : Aim) (old new : List Aim) → All (Contains (field ∷ old)) new → IsField m field.goal field → All (λ (f : Aim). IsField m f.goal f) old → All (λ (f : Aim). IsField m f.goal f) new
keeps_put m field old new among right keeps =
    all_among (λ (f : Aim). IsField m f.goal f) (field ∷ old) new among (All-cons (λ (f : Aim). IsField m f.goal f) field old right keeps)

-- fields that are among none are of any map
pub keeps_none : (m : Floor) (old new : List Aim) → All (Contains old) new → old ≡ [] → All (λ (f : Aim). IsField m f.goal f) new
keeps_none m old new among empty =
    all_among (λ (f : Aim). IsField m f.goal f) old new among (subst (All (λ (f : Aim). IsField m f.goal f)) (sym empty) (All-nil (λ (f : Aim). IsField m f.goal f)))

-- a cache of these fields
abbrev pub cache_of : List Aim → ℕ → FieldCache
cache_of kept bytes = record { kept = kept; bytes = bytes }
