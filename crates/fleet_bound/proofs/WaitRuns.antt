-- How many advancing ticks a robot's errands can last.
use Rattle.std.proofs.Common.{◌≡◌, ℕ, ◌+◌, ◌-◌, ◌*◌, ◌<◌, ◌≤◌, inl, inr, Bool, true, false, sym, subst, arith}
use Rattle.std.proofs.Math.Nat.{mul-le-mul_right, mul_assoc}
use Rattle.std.proofs.lemmas.Bool.{cases_Bool}
use Rattle.fleet_bound.specs.Waiting.{Moment, IsAdvance, IsPause}
use Rattle.fleet_bound.specs.Errands.{IsQueued, Follows, begins, ticked, paused}
use Rattle.fleet_bound.proofs.WaitSteps.{IsOnTime, none_or_more, one_walk, on_time-fresh, on_time-tick, on_time-pause, on_time-bound}

-- ---- plain arithmetic, one errand's share being `turn` ticks

starts : (count turn : ℕ) → 0 + count * turn ≤ count * turn + 0
starts count turn = omega arith

waits_on : (ticks left few count part turn : ℕ) → few ≤ left → ticks + left * turn ≤ count * turn + part → ticks + 1 + few * turn ≤ count * turn + (part + 1)
waits_on ticks left few count part turn l h = omega (arith, h, mul-le-mul_right {m = few} {n = left} turn l)

arrives_one : (ticks left few count part turn : ℕ) → few < left → part < turn → ticks + left * turn ≤ count * turn + part → ticks + 1 + few * turn ≤ count * turn + 0
arrives_one ticks left few count part turn l p h = omega (arith, h, one_walk few left turn l)

fewer : (ticks left few count part turn : ℕ) → few ≤ left → ticks + left * turn ≤ count * turn + part → ticks + few * turn ≤ count * turn + part
fewer ticks left few count part turn l h = omega (arith, h, mul-le-mul_right {m = few} {n = left} turn l)

too_late : (ticks left count part turn : ℕ) → 0 < left → part < turn → ticks + left * turn ≤ count * turn + part → count * turn ≤ ticks → ⊥
too_late ticks left count part turn l p h t = let one : 0 * turn + turn ≤ left * turn = one_walk 0 left turn l in omega (arith, h, one)

-- ---- runs

-- nothing is left, or the robot is on time with a part of its wait, and each errand that is left has its share of ticks
pub data IsServed (n reach r count : ℕ) (m : Moment) (left ticks : ℕ) : Type 0 where
  done : left ≡ 0 → IsServed n reach r count m left ticks
  going : (part : ℕ) → IsOnTime n reach m r part → ticks + left * (n * reach) ≤ count * (n * reach) + part → IsServed n reach r count m left ticks

module _ (n reach r count : ℕ) where
  pub served-begins : (m : Moment) → IsQueued n reach r m count → IsServed n reach r count m count 0
  served-begins m queued = elim (none_or_more count) [
    | inl none ↦ done none
    | inr some ↦ (let front = queued.fronted some in going 0 (on_time-fresh n reach m front.0 r queued.known front.1 queued.within) (starts count (n * reach)))
  ]

  pub served-tick : (m now : Moment) (left few ticks : ℕ) (arrives : ℕ → Bool) → IsAdvance n m now arrives →
      (arrives r ≡ true → few ≤ left - 1) → (arrives r ≡ false → few ≤ left) → IsQueued n reach r now few →
      IsServed n reach r count m left ticks → IsServed n reach r count now few (ticks + 1)
  served-tick m now left few ticks arrives tick one same queued (done none) =
      done (elim (cases_Bool (arrives r)) [ inl here ↦ omega (arith, one here) | inr away ↦ omega (arith, same away) ])
  served-tick m now left few ticks arrives tick one same queued (going part on h) = elim (none_or_more few) [
    | inl none ↦ done none
    | inr some ↦ elim (cases_Bool (arrives r)) [
      | inl here ↦ (
          let front = queued.fronted some in
          let l : few < left = omega (arith, one here) in
          going 0 (on_time-fresh n reach now front.0 r queued.known front.1 queued.within)
          (arrives_one ticks left few count part (n * reach) l (on_time-bound n reach m r part queued.known on) h))
      | inr away ↦ going (part + 1) (on_time-tick n reach m now arrives r part queued.known tick queued.within away on)
          (waits_on ticks left few count part (n * reach) (same away) h)
    ]
  ]

  pub served-pause : (m now : Moment) (left few ticks : ℕ) → IsPause n m now → few ≤ left → IsQueued n reach r now few →
      IsServed n reach r count m left ticks → IsServed n reach r count now few ticks
  served-pause m now left few ticks pause l queued (done none) = done (omega arith)
  served-pause m now left few ticks pause l queued (going part on h) =
      going part (on_time-pause n reach m now r part queued.known pause queued.within on) (fewer ticks left few count part (n * reach) l h)

  pub served-end : (m : Moment) (left ticks : ℕ) → r < n → IsServed n reach r count m left ticks → count * (n * reach) ≤ ticks → left ≡ 0
  served-end m left ticks known (done none) t = none
  served-end m left ticks known (going part on h) t = elim (none_or_more left) [
    | inl none ↦ none
    | inr some ↦ absurd (too_late ticks left count part (n * reach) some (on_time-bound n reach m r part known on) h t)
  ]

  pub follows-known : {from m : Moment} {left ticks : ℕ} → Follows n reach r from count m left ticks → r < n
  follows-known (begins queued) = queued.known
  follows-known (ticked now few more arrives run tick one same queued e) = queued.known
  follows-known (paused now few run pause l queued) = queued.known

  pub follows-served : {from m : Moment} {left ticks : ℕ} → Follows n reach r from count m left ticks → IsServed n reach r count m left ticks
  follows-served {from} (begins queued) = served-begins from queued
  follows-served (ticked {m} {left} {ticks} now few more arrives run tick one same queued e) =
      subst (λ (t : ℕ). IsServed n reach r count now few t) (sym e) (served-tick m now left few ticks arrives tick one same queued (follows-served run))
  follows-served (paused {m} {left} {ticks} now few run pause l queued) =
      served-pause m now left few ticks pause l queued (follows-served run)

pub errands-arrive : (n reach r count left ticks : ℕ) (from m : Moment) → Follows n reach r from count m left ticks → count * (n * reach) ≤ ticks → left ≡ 0
errands-arrive n reach r count left ticks from m run enough = served-end n reach r count m left ticks (follows-known n reach r count run) (follows-served n reach r count run) enough

-- with each robot's whole queue for its errands
pub fleet-idle : (n reach longest ticks : ℕ) (from m : Moment) (counts left : ℕ → ℕ) → ((r : ℕ) → r < n → Follows n reach r from (counts r) m (left r) ticks) →
    ((r : ℕ) → r < n → counts r ≤ longest) → longest * n * reach ≤ ticks → (r : ℕ) → r < n → left r ≡ 0
fleet-idle n reach longest ticks from m counts left runs short enough r l =
    let share : counts r * (n * reach) ≤ longest * (n * reach) = mul-le-mul_right {m = counts r} {n = longest} (n * reach) (short r l) in
    errands-arrive n reach r (counts r) (left r) ticks from m (runs r l) (omega (arith, share, enough, mul_assoc longest n reach))
