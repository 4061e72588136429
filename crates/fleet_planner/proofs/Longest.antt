-- From the eldest of the first robots to that of all.
use Rattle.std.proofs.Common.{◌≡◌, ℕ, ◌+◌, ◌<◌, List, Option, Some, None, length, arith, inl, inr, sym, subst}
use Rattle.std.specs.Prelude.{MatchOption}
use Rattle.std.proofs.lemmas.List.{get_or_past}
use Rattle.std.proofs.lemmas.Bool.{cases_lt}
use Rattle.fleet_pibt.specs.Order.{wait_of, ComesBefore}
use Rattle.fleet_pibt.specs.Eldest.{IsEldest, IsEldestOf}
use Rattle.fleet_pibt.proofs.Precedences.{eldest_stays}

pub eldest_of : (ws : List (Option ℕ)) (n : ℕ) → length ws ≡ n → (o : Option ℕ) →
    MatchOption o ((r : ℕ) → r < n → wait_of ws r ≡ None) (λ e. IsEldestOf (wait_of ws) n e) →
    MatchOption o ((r : ℕ) → wait_of ws r ≡ None) (λ e. IsEldest ws e)
eldest_of ws n all None none =
    λ r. elim (cases_lt r n) [
      | inl l ↦ none r l
      | inr past ↦ get_or_past ws r None (omega (arith, all, past))
    ]
eldest_of ws n all (Some e) x = subst (λ (k : ℕ). IsEldestOf (wait_of ws) k e) (sym all) x

-- one robot more, which does not wait
pub still_eldest : (f : ℕ → Option ℕ) (n : ℕ) → f n ≡ None → (o : Option ℕ) →
    MatchOption o ((r : ℕ) → r < n → f r ≡ None) (λ e. IsEldestOf f n e) →
    MatchOption o ((r : ℕ) → r < n + 1 → f r ≡ None) (λ e. IsEldestOf f (n + 1) e)
still_eldest f n is None none =
    λ r l. elim (cases_lt r n) [
      | inl before ↦ none r before
      | inr past ↦ (let here : n ≡ r = omega (arith, l, past) in subst (λ (k : ℕ). f k ≡ None) here is)
    ]
still_eldest f n is (Some e) x =
    eldest_stays f n (n + 1) e (omega arith) x (subst (λ (o : Option ℕ). ComesBefore (f e) o e n) (sym is) (subst (λ (o : Option ℕ). ComesBefore o None e n) (sym x.waits) tt))
