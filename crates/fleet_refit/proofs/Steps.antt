-- Robots that become others one by one, and the errands that they drop.
use Rattle.std.proofs.Common.{◌≡◌, ◌+◌, ℕ, zero, suc, List, [], ◌∷◌, ◌++◌, Some, arith, refl, subst, sym, length}
use Rattle.std.specs.Prelude.{slice_get, slice_set}
use Rattle.std.proofs.lemmas.List.{append-nil, append_assoc}
use Rattle.fleet_grid.specs.Floor.{Floor}
use Rattle.fleet_refit.specs.declared.change.Dropped.{Dropped}
use Rattle.fleet_refit.specs.declared.seat.Seat.{Seat}
use Rattle.fleet_refit.specs.Settled.{AreSettled, IsSettled, none, more}

-- each robot, from that number on, becomes another and drops errands
pub data Steps {A : Type 0} (Becomes : ℕ → Seat A → Seat A → List Dropped → Type 0) : ℕ → List (Seat A) → List (Seat A) → List Dropped → Type 0 where
  done : {n : ℕ} → Steps Becomes n [] [] []
  step : {n : ℕ} {xs ys : List (Seat A)} {rest : List Dropped} (x y : Seat A) (dropped : List Dropped) → Becomes n x y dropped → Steps Becomes (n + 1) xs ys rest →
      Steps Becomes n (x ∷ xs) (y ∷ ys) (dropped ++ rest)

pub steps-weaker : {A : Type 0} {P Q : ℕ → Seat A → Seat A → List Dropped → Type 0} → ((n : ℕ) (x y : Seat A) (out : List Dropped) → P n x y out → Q n x y out) →
    (n : ℕ) (xs ys : List (Seat A)) (out : List Dropped) → Steps P n xs ys out → Steps Q n xs ys out
steps-weaker so n _ _ _ done = done
steps-weaker so n _ _ _ (step {xs = xs} {ys = ys} {rest = rest} x y dropped is others) = step x y dropped (so n x y dropped is) (steps-weaker so (n + 1) xs ys rest others)

pub steps-length : {A : Type 0} {P : ℕ → Seat A → Seat A → List Dropped → Type 0} (n : ℕ) (xs ys : List (Seat A)) (out : List Dropped) → Steps P n xs ys out → length ys ≡ length xs
steps-length n _ _ _ done = refl
steps-length n _ _ _ (step {xs = xs} {ys = ys} {rest = rest} x y dropped is others) = let same = steps-length (n + 1) xs ys rest others in omega (arith, same)

-- what the robot of a number was
pub steps-at : {A : Type 0} {P : ℕ → Seat A → Seat A → List Dropped → Type 0} (n : ℕ) (xs ys : List (Seat A)) (out : List Dropped) → Steps P n xs ys out → (r : ℕ) (y : Seat A) → slice_get ys r ≡ Some y →
    (x : Seat A) × (slice_get xs r ≡ Some x) × (dropped : List Dropped) × P (n + r) x y dropped
steps-at n _ _ _ done r y at = cc
steps-at {A} {P} n _ _ _ (step {xs = xs} {ys = ys} {rest = rest} x z dropped is others) zero y at =
    let same : z ≡ y = cc in
    (x, refl, dropped, subst (λ k. P k x y dropped) (omega arith) (subst (λ (w : Seat A). P n x w dropped) same is))
steps-at {A} {P} n _ _ _ (step {xs = xs} {ys = ys} {rest = rest} x z dropped is others) (suc r) y at =
    let (w, there, out, so) = steps-at (n + 1) xs ys rest others r y at in
    (w, there, out, subst (λ k. P k w y out) (omega arith) so)

-- ---- one robot alone

-- nothing happens to a robot
abbrev pub Rests : {A : Type 0} → (ℕ → Seat A → Seat A → List Dropped → Type 0) → Type 0
Rests {A} P = (n : ℕ) (x : Seat A) → P n x x []

pub steps-none : {A : Type 0} {P : ℕ → Seat A → Seat A → List Dropped → Type 0} → Rests P → (n : ℕ) (xs : List (Seat A)) → Steps P n xs xs []
steps-none rests n [] = done
steps-none rests n (x ∷ xs) = step x x [] (rests n x) (steps-none rests (n + 1) xs)

pub steps-set : {A : Type 0} {P : ℕ → Seat A → Seat A → List Dropped → Type 0} → Rests P → (n : ℕ) (xs : List (Seat A)) (k : ℕ) (old new : Seat A) (out : List Dropped) → slice_get xs k ≡ Some old →
    P (n + k) old new out → Steps P n xs (slice_set xs k new) out
steps-set rests n [] k old new out at is = cc
steps-set {A} {P} rests n (x ∷ xs) zero old new out at is =
    let same : x ≡ old = cc in
    let here : P n x new out = subst (λ (w : Seat A). P n w new out) (sym same) (subst (λ m. P m old new out) (omega arith) is) in
    subst (λ l. Steps P n (x ∷ xs) (new ∷ xs) l) (append-nil out) (step x new out here (steps-none rests (n + 1) xs))
steps-set {A} {P} rests n (x ∷ xs) (suc k) old new out at is =
    step x x [] (rests n x) (steps-set rests (n + 1) xs k old new out at (subst (λ m. P m old new out) (omega arith) is))

-- ---- robots that settle

steps-more : {A : Type 0} {P : ℕ → Seat A → Seat A → List Dropped → Type 0} (n : ℕ) (xs ys : List (Seat A)) (out last : List Dropped) (x y : Seat A) → Steps P n xs ys out → P (n + length xs) x y last →
    Steps P n (xs ++ x ∷ []) (ys ++ y ∷ []) (out ++ last)
steps-more {A} {P} n _ _ _ last x y done is =
    subst (λ l. Steps P n (x ∷ []) (y ∷ []) l) (append-nil last) (step x y last (subst (λ k. P k x y last) (omega arith) is) done)
steps-more {A} {P} n _ _ _ last x y (step {xs = xs} {ys = ys} {rest = rest} v w dropped was others) is =
    subst (λ l. Steps P n (v ∷ (xs ++ x ∷ [])) (w ∷ (ys ++ y ∷ [])) l) (sym (append_assoc dropped rest last))
    (step v w dropped was (steps-more (n + 1) xs ys rest last x y others (subst (λ k. P k x y last) (omega arith) is)))

pub steps-settled : {A : Type 0} (m : Floor) (xs ys : List (Seat A)) (out : List Dropped) → AreSettled m xs ys out → Steps (λ n. IsSettled m n) 0 xs ys out
steps-settled m _ _ _ none = done
steps-settled {A} m _ _ _ (more {xs} {ys} {before} x y dropped are is) =
    steps-more 0 xs ys before dropped x y (steps-settled m xs ys before are) (subst (λ k. IsSettled m k x y dropped) (omega arith) is)
