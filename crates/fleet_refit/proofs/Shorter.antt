-- Some of a list's errands, in their order.
use Rattle.std.proofs.Common.{◌≡◌, ◌+◌, ◌<◌, ◌≤◌, ℕ, zero, suc, List, [], ◌∷◌, Some, Bool, arith, refl, length}
use Rattle.std.specs.Prelude.{All, count_by, slice_get}
use Rattle.std.proofs.lemmas.List.Elements.{All-nil, All-cons, All-head, All-tail}
use Rattle.fleet_queue.specs.declared.errand.Errand.{Errand}
use Rattle.fleet_history.proofs.Sums.{count_cons}
use Rattle.fleet_refit.specs.Account.{AreSome, empty, stays, goes}
use Rattle.fleet_refit.specs.Sifting.{Sifts, none, kept, dropped}

pub some-all : (xs : List Errand) → AreSome xs xs
some-all [] = empty
some-all (e ∷ xs) = stays e (some-all xs)

pub some-none : (xs : List Errand) → AreSome [] xs
some-none [] = empty
some-none (e ∷ xs) = goes e (some-none xs)

pub some-some : {xs ys zs : List Errand} → AreSome xs ys → AreSome ys zs → AreSome xs zs
some-some a empty = a
some-some (stays e a) (stays f b) = stays e (some-some a b)
some-some (goes e a) (stays f b) = goes e (some-some a b)
some-some a (goes e b) = goes e (some-some a b)

pub some-length : {xs ys : List Errand} → AreSome xs ys → length xs ≤ length ys
some-length empty = omega arith
some-length (stays e a) = let rest = some-length a in omega arith
some-length (goes e a) = let rest = some-length a in omega arith

pub All-some : (P : Errand → Type 0) {xs ys : List Errand} → AreSome xs ys → All P ys → All P xs
All-some P empty all = all
All-some P (stays {some = some} {all = every} e a) all = All-cons P e some (All-head P e every all) (All-some P a (All-tail P e every all))
All-some P (goes {some = some} {all = every} e a) all = All-some P a (All-tail P e every all)

-- where an errand of some stands among all
pub some-at : {xs ys : List Errand} → AreSome xs ys → (i : ℕ) (e : Errand) → slice_get xs i ≡ Some e → (k : ℕ) × (slice_get ys k ≡ Some e)
some-at empty i e at = (i, at)
some-at (stays x a) zero e at = (zero, at)
some-at (stays x a) (suc i) e at = let (k, there) = some-at a i e at in (suc k, there)
some-at (goes x a) i e at = let (k, there) = some-at a i e at in (suc k, there)

-- two of them stand there in the same order
pub some-two : {xs ys : List Errand} → AreSome xs ys → (i j : ℕ) (e f : Errand) → i < j → slice_get xs i ≡ Some e → slice_get xs j ≡ Some f →
    (k : ℕ) × (l : ℕ) × (k < l) × (slice_get ys k ≡ Some e) × (slice_get ys l ≡ Some f)
some-two empty i j e f less at there = (i, j, less, at, there)
some-two (stays x a) i zero e f less at there = absurd (omega (arith, less))
some-two (stays x a) zero (suc j) e f less at there = let (l, found) = some-at a j f there in (zero, suc l, omega arith, at, found)
some-two (stays x a) (suc i) (suc j) e f less at there = let (k, l, order, one, two) = some-two a i j e f (omega (arith, less)) at there in (suc k, suc l, omega (arith, order), one, two)
some-two (goes x a) i j e f less at there = let (k, l, order, one, two) = some-two a i j e f less at there in (suc k, suc l, omega (arith, order), one, two)

-- ---- what is sifted

pub sifted-some : {S : Errand → Type 0} {all stay gone : List Errand} → Sifts S all stay gone → AreSome stay all
sifted-some none = empty
sifted-some (kept e s rest) = stays e (sifted-some rest)
sifted-some (dropped e s rest) = goes e (sifted-some rest)

pub sifted-count : {S : Errand → Type 0} {all stay gone : List Errand} (test : Errand → Bool) → Sifts S all stay gone → count_by test all ≡ count_by test stay + count_by test gone
sifted-count test none = refl
sifted-count test (kept {all} {stay} {gone} e s rest) = omega (arith, count_cons test e all, count_cons test e stay, sifted-count test rest)
sifted-count test (dropped {all} {stay} {gone} e s rest) = omega (arith, count_cons test e all, count_cons test e gone, sifted-count test rest)

pub sifted-all : {S : Errand → Type 0} {all stay gone : List Errand} → Sifts S all stay gone → All S stay
sifted-all {S} none = All-nil S
sifted-all {S} (kept {all} {stay} {gone} e s rest) = All-cons S e stay s (sifted-all rest)
sifted-all {S} (dropped e s rest) = sifted-all rest
