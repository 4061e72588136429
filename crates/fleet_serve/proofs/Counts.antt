-- How many posts of all clients met a full lane.
use Rattle.std.proofs.Common.{◌≡◌, ◌∙◌, ℕ, zero, suc, ◌+◌, ◌≤◌, List, [], ◌∷◌, ◌++◌, length, Some, refl, sym, ap, subst, arith, ⊎_elim}
use Rattle.std.specs.Prelude.{min, ◌-◌, ◌^◌}
use Rattle.std.specs.List.{slice_get, sum_by}
use Rattle.std.proofs.lemmas.List.{length-append}
use Rattle.std.proofs.lemmas.List.Sums.{sum_by-cons, sum_by_push}
use Rattle.fleet_book.specs.declared.event.Event.{Event}
use Rattle.fleet_lanes.specs.Ends.{ClientView}
use Rattle.fleet_office.proofs.Places.{at_push, within}
use Rattle.fleet_serve.specs.Posted.{FullPosts, IsSum, HasRun, HasCounted, AllHaveRun}

-- none yet
pub run-nobody : {A : Type 0} (events : List Event) (most : ℕ) → AllHaveRun {A = A} events most [] 0
run-nobody events most = record { counts = []; count = refl; each = λ k x y at there. cc; sum = omega arith }

summed : (counts : List FullPosts) (one : FullPosts) (full own all : ℕ) → IsSum full counts → own ≡ min one.count (2 ^ 32 - 1) → all ≡ min (full + own) (2 ^ 32 - 1) → IsSum all (counts ++ one ∷ [])
summed counts one full own all old new sum = omega (arith, old, new, sum, sum_by_push (λ (x : FullPosts). x.count) counts one)

-- one more that has run its lines
pub run-push : {A : Type 0} (events : List Event) (most : ℕ) (xs : List (ClientView A)) (x : ClientView A) (full own all : ℕ) → all ≡ min (full + own) (2 ^ 32 - 1) →
    AllHaveRun events most xs full → HasCounted events most x own → AllHaveRun events most (xs ++ x ∷ []) all
run-push events most xs x full own all sum old new =
    let one : FullPosts = record { client = x.number; count = new.full } in
    record {
      counts = old.counts ++ one ∷ [];
      count = length-append old.counts (one ∷ []) ∙ ap (λ n. n + 1) old.count ∙ sym (length-append xs (x ∷ []));
      each = λ k y c at there.
          ⊎_elim
          (λ (before : slice_get xs k ≡ Some y).
          ⊎_elim
          (λ (same : slice_get old.counts k ≡ Some c). old.each k y c before same)
          (λ (last : (k ≡ length old.counts) × (one ≡ c)). absurd (omega (arith, within xs k y before, last.0, old.count)))
          (at_push old.counts one c k there))
          (λ (last : (k ≡ length xs) × (x ≡ y)).
          ⊎_elim
          (λ (before : slice_get old.counts k ≡ Some c). absurd (omega (arith, within old.counts k c before, last.0, old.count)))
          (λ (same : (k ≡ length old.counts) × (one ≡ c)).
          subst (λ (d : FullPosts). (d.client ≡ y.number) × HasRun events most y d.count) same.1
          (subst (λ z. (x.number ≡ z.number) × HasRun events most z new.full) last.1 (refl, new.run)))
          (at_push old.counts one c k there))
          (at_push xs x y k at);
      sum = summed old.counts one full own all old.sum new.counted sum;
    }

at_most : (counts : List FullPosts) (k : ℕ) (x : FullPosts) → slice_get counts k ≡ Some x → x.count ≤ sum_by (λ y. y.count) counts
at_most [] k x at = cc
at_most (y ∷ ys) zero x at = let same : y ≡ x = cc in omega (arith, ap (λ (z : FullPosts). z.count) same, sum_by-cons (λ (z : FullPosts). z.count) y ys)
at_most (y ∷ ys) (suc k) x at = omega (arith, at_most ys k x at, sum_by-cons (λ (z : FullPosts). z.count) y ys)

-- where none met a full lane, none of one client did
pub none-met : (counts : List FullPosts) (full k : ℕ) (x : FullPosts) → IsSum full counts → full ≡ 0 → slice_get counts k ≡ Some x → x.count ≡ 0
none-met counts full k x sum none at = omega (arith, sum, none, at_most counts k x at)
