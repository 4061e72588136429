-- What is written at one place of a list.
use Rattle.std.proofs.Common.{◌≡◌, ◌≢◌, ℕ, zero, suc, ◌+◌, ◌<◌, ◌≤◌, List, [], ◌∷◌, ◌++◌, length, map, take, drop, get_or, set, eqb, true, sym, refl, ap, ◌∙◌, arith, inl, inr, append_assoc, get_or-set_other}
use Rattle.std.proofs.lemmas.Bool.{cases_Bool, cases_eq, eq-eqb, ne_eqb}
use Rattle.std.proofs.lemmas.Grind.{get_or-set_at}
use Rattle.std.proofs.lemmas.List.{same_lists, get_or_default}
use Rattle.std.proofs.Math.Numerals.{add-one}
use Rattle.fleet_c.specs.declared.chore.Chore.{Chore}
use Rattle.fleet_c.specs.declared.standing.Standing.{Standing}
use Rattle.fleet_c.specs.inside.Runs.{put_at, with_chore, noted, shut_if}

-- ---- lists that grow

map-more : {X Y : Type 0} (f : X → Y) (xs : List X) (i : ℕ) (d : X) → i < length xs → map f (take i xs) ++ f (get_or xs i d) ∷ [] ≡ map f (take (suc i) xs)
map-more f [] i d l = absurd (omega arith)
map-more f (x ∷ xs) zero d l = refl
map-more f (x ∷ xs) (suc i) d l = ap (λ t. f x ∷ t) (map-more f xs i d (omega arith))

-- one more item after those that were there
pub push-more : {X Y : Type 0} (f : X → Y) (was : List Y) (xs : List X) (now : List Y) (i : ℕ) (d : X) → i < length xs → now ≡ was ++ map f (take i xs)
    → now ++ f (get_or xs i d) ∷ [] ≡ was ++ map f (take (i + 1) xs)
push-more f was xs now i d l is =
    rw (is, add-one i) (append_assoc was (map f (take i xs)) (f (get_or xs i d) ∷ []) ∙ ap (λ t. was ++ t) (map-more f xs i d l))

-- a list whose first places were written
pub filled : {X : Type 0} (all before after : List X) → length after ≡ length before → length all ≤ length before
    → ((k : ℕ) (d : X) → k < length all → get_or after k d ≡ get_or all k d) → ((k : ℕ) (d : X) → length all ≤ k → k < length before → get_or after k d ≡ get_or before k d)
    → after ≡ all ++ drop (length all) before
filled [] before after same fits told rest = same_lists after before same (λ k d l. rest k d (omega arith) (omega (arith, same, l)))
filled (x ∷ xs) [] after same fits told rest = absurd (omega arith)
filled (x ∷ xs) (b ∷ bs) [] same fits told rest = absurd (omega arith)
filled (x ∷ xs) (b ∷ bs) (a ∷ rest-after) same fits told rest =
    ap (λ y. y ∷ rest-after) (told zero x (omega arith))
    ∙ ap (λ t. x ∷ t) (filled xs bs rest-after (omega arith) (omega arith) (λ k d l. told (suc k) d (omega (arith, l))) (λ k d l m. rest (suc k) d (omega (arith, l)) (omega (arith, m))))

-- ---- a queue's errand at its place

pub put-other : (robot k : ℕ) (c was : Chore) → c.robot ≢ robot → put_at robot k c was ≡ was
put-other robot k c was ne = rw (ne_eqb c.robot robot ne) refl

pub put-zero : (robot k : ℕ) (c was : Chore) → c.place ≡ 0 → put_at robot k c was ≡ was
put-zero robot k c was none =
    elim (cases_Bool (eqb c.robot robot)) [
      | inl e ↦ rw (e, ne_eqb c.place (k + 1) (λ x. omega (arith, none, x))) refl
      | inr e ↦ rw e refl
    ]

pub put-set : (robot : ℕ) (c : Chore) (now : List Chore) (at : ℕ) → c.robot ≡ robot → c.place ≡ at + 1 → at < length now
    → (k : ℕ) (d : Chore) → k < length now → get_or (set now at c) k d ≡ put_at robot k c (get_or now k d)
put-set robot c now at own place l k d m =
    elim (cases_eq k at) [
      | inl same ↦ rw (eq-eqb c.robot robot own, eq-eqb c.place (k + 1) (omega (arith, place, same))) (get_or-set_at now at k c d same l)
      | inr other ↦ rw (eq-eqb c.robot robot own, ne_eqb c.place (k + 1) (λ x. other (omega (arith, place, x)))) (get_or-set_other now at k c d other)
    ]

pub put-past : (robot : ℕ) (c : Chore) (now : List Chore) (at : ℕ) → c.place ≡ at + 1 → length now ≤ at
    → (k : ℕ) (d : Chore) → k < length now → get_or now k d ≡ put_at robot k c (get_or now k d)
put-past robot c now at place l k d m =
    elim (cases_Bool (eqb c.robot robot)) [
      | inl e ↦ rw (e, ne_eqb c.place (k + 1) (λ x. omega (arith, place, l, m, x))) refl
      | inr e ↦ rw e refl
    ]

-- ---- what is noted of a robot

at-same : (xs : List Standing) (i j : ℕ) (x d : Standing) → i < length xs → i ≡ j → get_or xs i x ≡ get_or xs j d
at-same xs i j x d l e = get_or_default xs i x d l ∙ ap (λ k. get_or xs k d) e

pub note-set : (c : Chore) (now : List Standing) (x : Standing) → c.robot < length now
    → (r : ℕ) (d : Standing) → r < length now → get_or (set now c.robot (with_chore c (get_or now c.robot x))) r d ≡ noted r c (get_or now r d)
note-set c now x l r d m =
    elim (cases_eq r c.robot) [
      | inl same ↦ rw (eq-eqb c.robot r (sym same)) (get_or-set_at now c.robot r (with_chore c (get_or now c.robot x)) d same l ∙ ap (with_chore c) (at-same now c.robot r x d l (sym same)))
      | inr other ↦ rw (ne_eqb c.robot r (λ q. other (sym q))) (get_or-set_other now c.robot r (with_chore c (get_or now c.robot x)) d other)
    ]

pub note-past : (c : Chore) (now : List Standing) → length now ≤ c.robot → (r : ℕ) (d : Standing) → r < length now → get_or now r d ≡ noted r c (get_or now r d)
note-past c now l r d m = rw (ne_eqb c.robot r (λ x. omega (arith, l, m, x))) refl

-- ---- that a robot is shut

pub shut-set : (robot : ℕ) (now : List Standing) (x : Standing) → robot < length now
    → (r : ℕ) (d : Standing) → r < length now → get_or (set now robot (shut_if true (get_or now robot x))) r d ≡ shut_if (eqb robot r) (get_or now r d)
shut-set robot now x l r d m =
    elim (cases_eq r robot) [
      | inl same ↦ rw (eq-eqb robot r (sym same)) (get_or-set_at now robot r (shut_if true (get_or now robot x)) d same l ∙ ap (shut_if true) (at-same now robot r x d l (sym same)))
      | inr other ↦ rw (ne_eqb robot r (λ q. other (sym q))) (get_or-set_other now robot r (shut_if true (get_or now robot x)) d other)
    ]

pub shut-past : (robot : ℕ) (now : List Standing) → length now ≤ robot → (r : ℕ) (d : Standing) → r < length now → get_or now r d ≡ shut_if (eqb robot r) (get_or now r d)
shut-past robot now l r d m = rw (ne_eqb robot r (λ x. omega (arith, l, m, x))) refl
