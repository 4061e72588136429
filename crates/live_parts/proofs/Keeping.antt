-- Chapters, each of which is sound, kept one after another.
use Rattle.std.proofs.Common.{◌≡◌, ◌∙◌, ◌<◌, List, [], ◌∷◌, ◌++◌, length, map, drop, Option, ap, subst, sym, append_assoc, arith}
use Rattle.std.specs.Prelude.{slice_index_or}
use Rattle.std.specs.List.{AllByRecursion}
use Rattle.std.proofs.lemmas.List.{append-nil}
use Rattle.fleet_talk.specs.Chapters.{Adds, ChapterView}
use Rattle.fleet_talk.proofs.Keeping.{adds-then}
use Rattle.live_parts.specs.Kept.{KeepsFirst}

pub first-is : {X : Type 0} (xs : List X) (x : X) → 0 < length xs → x ≡ slice_index_or xs 0 x → xs ≡ x ∷ drop 1 xs
first-is [] x some is = absurd (omega (arith, some))
first-is (y ∷ ys) x some is = ap (λ (z : _). z ∷ ys) (sym is)

pub all-left : {X Y : Type 0} (P : Y → Type 0) (f : X → Y) (xs ys : List X) (x : X) → xs ≡ x ∷ ys → AllByRecursion P (map f xs) → AllByRecursion P (map f ys)
all-left P f xs ys x is all = (subst (λ l. AllByRecursion P (map f l)) is all).1

-- the first of those that were left was kept
pub keeps-next : {X Y : Type 0} (f : X → Y) (all : List Y) (xs ys : List X) (x : X) (a b c : Option (List Y)) → xs ≡ x ∷ ys → KeepsFirst all (map f xs) a b → Adds b c (f x ∷ []) → KeepsFirst all (map f ys) a c
keeps-next f all xs ys x a b c is m added = record {
  kept = m.kept ++ f x ∷ [];
  parts = m.parts ∙ (ap (λ l. m.kept ++ map f l) is ∙ sym (append_assoc m.kept (f x ∷ []) (map f ys)));
  added = adds-then a b c m.kept (f x ∷ []) m.added added;
}

-- ---- chapters of a fleet

module _ {A : Type 0} where
  -- all that waited were kept, and then the last
  pub then-last : (waits : List (ChapterView A)) (a b c : Option (List (ChapterView A))) (x : ChapterView A) → KeepsFirst waits [] a b → Adds b c (x ∷ []) → Adds a c (waits ++ x ∷ [])
  then-last waits a b c x kept added =
      subst (λ l. Adds a c (l ++ x ∷ [])) (sym (kept.parts ∙ append-nil kept.kept)) (adds-then a b c kept.kept (x ∷ []) kept.added added)
