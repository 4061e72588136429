-- Parts one after another.
use Rattle.std.proofs.Common.{◌≡◌, ◌∙◌, ℕ, ◌+◌, ◌-◌, ◌≤◌, ◌<◌, zero, suc, List, [], ◌∷◌, ◌++◌, length, refl, sym, ap, subst, arith, append_assoc, append-nil}
use Rattle.std.specs.List.{AllByRecursion, range_with_len}
use Rattle.live_fleet.specs.Act.{Act}
use Rattle.live_fleet.specs.Went.{At, Both, Each, Went}
use Rattle.live_fleet.proofs.Going.{went-none, went-then}

pub all-then : (P : Act → Type 0) (xs ys : List Act) → AllByRecursion P xs → AllByRecursion P ys → AllByRecursion P (xs ++ ys)
all-then P [] ys none all = all
all-then P (x ∷ xs) ys (first, rest) all = (first, all-then P xs ys rest all)

pub nothing-in : {X : Type 0} (xs : List X) → length xs ≡ 0 → xs ≡ []
nothing-in [] none = refl
nothing-in (x ∷ xs) none = absurd (omega (arith, none))

-- the numbers from x on, where one is left or none
pub range-next : (x b : ℕ) → x < b → range_with_len x (b - x) ≡ x ∷ range_with_len (x + 1) (b - (x + 1))
range-next x b less = let e : b - x ≡ suc (b - (x + 1)) = omega (arith, less) in ap (range_with_len x) e

pub range-done : (x b : ℕ) → b ≤ x → range_with_len x (b - x) ≡ []
range-done x b past = let e : b - x ≡ 0 = omega (arith, past) in ap (range_with_len x) e

module _ {S : Type 0} where
  -- what follows from the parts that are left, after these acts
  abbrev pub Leaves : (ℕ → S → List Act → S → Type 0) → List ℕ → List ℕ → S → List Act → S → Type 0
  Leaves P all left a acts m = (ys : List Act) (z : S) → Each P left m ys z → Each P all a (acts ++ ys) z

  pub leaves-all : (P : ℕ → S → List Act → S → Type 0) (all : List ℕ) (a : S) → Leaves P all all a [] a
  leaves-all P all a = λ ys z each. each

  pub leaves-next : (P : ℕ → S → List Act → S → Type 0) (all : List ℕ) (x b : ℕ) (a m n : S) (acts more : List Act) → x < b → Leaves P all (range_with_len x (b - x)) a acts m → P x m more n
      → Leaves P all (range_with_len (x + 1) (b - (x + 1))) a (acts ++ more) n
  leaves-next P all x b a m n acts more less leaves part = λ ys z each.
      subst (λ (l : List Act). Each P all a l z) (sym (append_assoc acts more ys))
      (leaves (more ++ ys) z (subst (λ (l : List ℕ). Each P l m (more ++ ys) z) (sym (range-next x b less)) (record { first = more; rest = ys; parts = refl; mid = n; before = part; after = each })))

  pub leaves-done : (P : ℕ → S → List Act → S → Type 0) (all : List ℕ) (x b : ℕ) (a m : S) (acts : List Act) → b ≤ x → Leaves P all (range_with_len x (b - x)) a acts m → Each P all a acts m
  leaves-done P all x b a m acts past leaves =
      subst (λ (l : List Act). Each P all a l m) (append-nil acts) (leaves [] m (subst (λ (l : List ℕ). Each P l m [] m) (sym (range-done x b past)) (refl, refl)))

  -- one part and then another
  pub both : (P Q : S → List Act → S → Type 0) (a m b : S) → ((xs : List Act) × P a xs m) → ((ys : List Act) × Q m ys b) → (acts : List Act) × Both P Q a acts b
  both P Q a m b (xs, first) (ys, rest) = (xs ++ ys, record { first = xs; rest = ys; parts = refl; mid = m; before = first; after = rest })

  -- the same of a loop over numbers
  pub loop-next : (P : ℕ → S → List Act → S → Type 0) (all : List ℕ) (x b : ℕ) (a m n : S) → x < b → ((acts : List Act) × Leaves P all (range_with_len x (b - x)) a acts m) → ((more : List Act) × P x m more n)
      → (acts : List Act) × Leaves P all (range_with_len (x + 1) (b - (x + 1))) a acts n
  loop-next P all x b a m n less (acts, leaves) (more, part) = (acts ++ more, leaves-next P all x b a m n acts more less leaves part)

  pub loop-done : (P : ℕ → S → List Act → S → Type 0) (all : List ℕ) (x b : ℕ) (a m : S) → b ≤ x → ((acts : List Act) × Leaves P all (range_with_len x (b - x)) a acts m) → (acts : List Act) × Each P all a acts m
  loop-done P all x b a m past (acts, leaves) = (acts, leaves-done P all x b a m acts past leaves)

  -- from the first of n numbers on
  pub leaves-zero : (P : ℕ → S → List Act → S → Type 0) (n : ℕ) (a : S) → Leaves P (range_with_len 0 n) (range_with_len 0 (n - 0)) a [] a
  leaves-zero P n a = let same : n ≡ n - 0 = omega arith in subst (λ k. Leaves P (range_with_len 0 n) (range_with_len 0 k) a [] a) same (leaves-all P (range_with_len 0 n) a)

pub each-went : (P : ℕ → At → List Act → At → Type 0) → ((n : ℕ) (a : At) (acts : List Act) (b : At) → P n a acts b → Went a acts b) → (numbers : List ℕ) (a : At) (acts : List Act) (b : At) → Each P numbers a acts b → Went a acts b
each-went P one [] a acts b (none, same) = subst (λ (l : List Act). Went a l b) (sym none) (subst (λ (x : At). Went a [] x) (sym same) (went-none a))
each-went P one (n ∷ numbers) a acts b both =
    subst (λ (l : List Act). Went a l b) (sym both.parts)
    (went-then a both.mid b both.first both.rest (one n a both.first both.mid both.before) (each-went P one numbers both.mid both.rest b both.after))

pub both-went : (P Q : At → List Act → At → Type 0) → ((a : At) (acts : List Act) (b : At) → P a acts b → Went a acts b) → ((a : At) (acts : List Act) (b : At) → Q a acts b → Went a acts b) → (a : At) (acts : List Act) (b : At) → Both P Q a acts b → Went a acts b
both-went P Q one two a acts b both =
    subst (λ (l : List Act). Went a l b) (sym both.parts) (went-then a both.mid b both.first both.rest (one a both.first both.mid both.before) (two both.mid both.rest b both.after))
