-- The first entry that breaks a rule.
use Rattle.std.proofs.Common.{◌≡◌, ◌≢◌, ℕ, ◌+◌, ◌-◌, ◌≤◌, inl, inr, List, [], ◌∷◌, ◌++◌, length, take, Option, Some, refl, sym, subst, ◌∙◌, arith}
use Rattle.std.specs.Prelude.{slice_get}
use Rattle.std.proofs.lemmas.List.{take_all, take-append-le, length-append}
use Rattle.fleet_grid.specs.Floor.{Floor}
use Rattle.fleet_history.specs.declared.history.Entry.{Entry}
use Rattle.fleet_history.specs.History.{History, with_entries}
use Rattle.fleet_history.specs.Legal.{IsLegal}
use Rattle.fleet_trace.specs.Judged.{before, Breaks, IsFirstIllegal}

pub take_front : {X : Type 0} (xs ys all : List X) (n : ℕ) → all ≡ xs ++ ys → n ≡ length xs → take n all ≡ xs
take_front xs ys all n is e = rw is (take-append-le n xs ys (omega (arith, e)) ∙ take_all n xs (omega (arith, e)))

get_front : {X : Type 0} (xs : List X) (x : X) (ys : List X) → slice_get (xs ++ x ∷ ys) (length xs) ≡ Some x
get_front [] x ys = refl
get_front (z ∷ xs) x ys = get_front xs x ys

pub get_at : {X : Type 0} (xs : List X) (x : X) (ys all : List X) (n : ℕ) → all ≡ xs ++ x ∷ ys → n ≡ length xs → slice_get all n ≡ Some x
get_at xs x ys all n is e = rw (is, e) (get_front xs x ys)

pub the_same : {X : Type 0} (o : Option X) (x y : X) → o ≡ Some x → o ≡ Some y → x ≡ y
the_same o x y a b = cc

-- it stands in its place, and breaks the rule after the legal entries before it
pub record IsEntryAt {A : Type 0} (m : Floor) (h : History A) (at rule : ℕ) : Type 0 where
  pub low : 1 ≤ at
  pub high : at ≤ length h.entries
  pub entry : Entry A
  pub there : slice_get h.entries (at - 1) ≡ Some entry
  pub legal : IsLegal m (before h (at - 1))
  pub breaks : Breaks m (before h (at - 1)) entry rule

pub entry_at : {A : Type 0} (m : Floor) (h : History A) (at rule : ℕ) → rule ≢ 1 → IsFirstIllegal m h at rule → IsEntryAt m h at rule
entry_at {A} m h at rule other (inl first) = absurd (other first.1)
entry_at {A} m h at rule other (inr k) =
    let last : at - 1 ≡ length k.before = omega (arith, k.place) in
    let same : take (at - 1) h.entries ≡ k.before = take_front k.before (k.entry ∷ k.behind) h.entries (at - 1) k.splits last in
    let long : length h.entries ≡ length k.before + length (k.entry ∷ k.behind) = rw k.splits (length-append k.before (k.entry ∷ k.behind)) in
    record {
      low = omega (arith, k.place);
      high = omega (arith, k.place, long);
      entry = k.entry;
      there = get_at k.before k.entry k.behind h.entries (at - 1) k.splits last;
      legal = subst (λ (es : List (Entry A)). IsLegal m (with_entries h es)) (sym same) k.legal;
      breaks = subst (λ (es : List (Entry A)). Breaks m (with_entries h es) k.entry rule) (sym same) k.breaks;
    }
