-- The kept invariant, from the lemmas on one robot.
use Rattle.std.proofs.Common.{◌≡◌, ℕ, ◌+◌, ◌*◌, ◌<◌, ◌≤◌, inl, inr, Bool, Some, None, sym, ◌∙◌, subst, arith}
use Rattle.std.specs.Prelude.{max}
use Rattle.std.proofs.lemmas.Bool.{cases_Bool}
use Rattle.fleet_bound.specs.Waiting.{Moment, count_before, IsEldest, IsWithin, IsAdvance, IsPause, IsBounded}
use Rattle.fleet_bound.proofs.EldestWait.{none_or_some, eldest-exists}
use Rattle.fleet_bound.proofs.WaitSteps.{none_or_more, same_value, room, tick-left, pause-left}

-- a wait that has just begun is within the bound
begun : (n reach : ℕ) (m : Moment) (w r e : ℕ) → r < n → m.wait r ≡ Some w → IsWithin n reach m → IsEldest n m e → w ≡ 0 → w + max 1 (m.away e) + count_before n m w r * reach ≤ n * reach
begun n reach m w r e known waits within eldest none = omega (arith, none, room n reach m w r e known waits within eldest)

pub bounded-tick : (n reach : ℕ) (before after : Moment) (arrives : ℕ → Bool) → IsWithin n reach after → IsAdvance n before after arrives → IsBounded n reach before → IsBounded n reach after
bounded-tick n reach before after arrives within tick bounded = record {
  each = λ r w' e' known waits' eldest'. elim (none_or_some (before.wait r)) [
    | inl none ↦ (let gone : after.wait r ≡ None = tick.idle r known none in absurd (cc (waits')))
    | inr some ↦ elim (cases_Bool (arrives r)) [
      | inl here ↦ begun n reach after w' r e' known waits' within eldest' (tick.anew r some.0 w' known some.1 here waits')
      | inr away ↦ (
          let same : w' ≡ some.0 + 1 = same_value w' (some.0 + 1) (sym waits' ∙ tick.waits_on r some.0 known some.1 away) in
          subst (λ (v : ℕ). v + max 1 (after.away e') + count_before n after v r * reach ≤ n * reach) (sym same)
          (tick-left n reach before after arrives tick r some.0 known some.1 away some.0 within (λ e eldest. bounded.each r some.0 e known some.1 eldest) e' eldest'))
    ]
  ];
}

pub bounded-pause : (n reach : ℕ) (before after : Moment) → IsWithin n reach after → IsPause n before after → IsBounded n reach before → IsBounded n reach after
bounded-pause n reach before after within pause bounded = record {
  each = λ r w' e' known waits' eldest'. elim (none_or_some (before.wait r)) [
    | inl none ↦ begun n reach after w' r e' known waits' within eldest' (pause.fresh r w' known none waits')
    | inr some ↦ (
        let same : w' ≡ some.0 = same_value w' some.0 (sym waits' ∙ (pause.kept r some.0 known some.1).0) in
        elim (none_or_more some.0) [
          | inl none ↦ begun n reach after w' r e' known waits' within eldest' (same ∙ none)
          | inr long ↦ subst (λ (v : ℕ). v + max 1 (after.away e') + count_before n after v r * reach ≤ n * reach) (sym same)
              (pause-left n reach before after pause r some.0 known some.1 long some.0 (λ e eldest. bounded.each r some.0 e known some.1 eldest) e' eldest')
        ])
  ];
}

pub bounded-short : (n reach r w : ℕ) (m : Moment) → IsBounded n reach m → r < n → m.wait r ≡ Some w → w < n * reach
bounded-short n reach r w m bounded known waits =
    let found = eldest-exists m n r w known waits in
    let d : 1 ≤ max 1 (m.away found.0) = omega arith in
    omega (arith, bounded.each r w found.0 known waits found.1, d)

-- where nobody waits, nothing is to be shown
pub bounded-idle : (n reach : ℕ) (m : Moment) → ((r w : ℕ) → r < n → m.wait r ≡ Some w → w ≡ 0) → IsWithin n reach m → IsBounded n reach m
bounded-idle n reach m idle within = record { each = λ r w e known waits eldest. begun n reach m w r e known waits within eldest (idle r w known waits) }
