-- A robot that is on time stays on time, until it arrives.
use Rattle.std.proofs.Common.{◌≡◌, ◌≢◌, ℕ, zero, suc, ◌+◌, ◌*◌, ◌<◌, ◌≤◌, ◌⊎◌, inl, inr, Bool, true, false, Some, None, sym, refl, ap, ◌∙◌, arith}
use Rattle.std.specs.Prelude.{max}
use Rattle.std.proofs.Math.Nat.{mul-le-mul_right, add-mul}
use Rattle.std.proofs.lemmas.Bool.{cases_Bool}
use Rattle.fleet_pibt.proofs.Precedences.{outranks}
use Rattle.fleet_bound.specs.Waiting.{Moment, comes_before, count_before, IsEldest, IsWithin, IsAdvance, IsPause}
use Rattle.fleet_bound.proofs.WaitCounts.{below-mono, below-strict, below-some_fails}
use Rattle.fleet_bound.proofs.EldestWait.{none_or_some, comes_before-true, comes_before-from, comes_before-not, eldest-exists, eldest-before}

-- the invariant of one robot and a part of its wait. It is kept robot by robot, and a part of 0 has it at every moment
pub record IsOnTime (n reach : ℕ) (m : Moment) (r part : ℕ) : Type 0 where
  pub age : ℕ
  pub waits : m.wait r ≡ Some age
  pub counted : part ≤ age
  pub left : (e : ℕ) → IsEldest n m e → part + max 1 (m.away e) + count_before n m age r * reach ≤ n * reach

-- one robot fewer before another leaves room for one more walk
pub one_walk : (k n reach : ℕ) → k < n → k * reach + reach ≤ n * reach
one_walk k n reach l = let h : (k + 1) * reach ≤ n * reach = mul-le-mul_right reach (omega arith) in omega (arith, h, add-mul k 1 reach)

pub same_value : (v w : ℕ) → Some v ≡ Some w → v ≡ w
same_value v w e = cc

-- a robot does not come before itself, so fewer than n come before it
pub count_before-less : (n : ℕ) (m : Moment) (w r : ℕ) → r < n → m.wait r ≡ Some w → count_before n m w r < n
count_before-less n m w r l s = below-some_fails (λ q. comes_before (m.wait q) q w r) n r l
    (comes_before-not (m.wait r) r w r (λ v e h. let same : v ≡ w = same_value v w (sym e ∙ s) in elim h [ inl a ↦ omega arith | inr b ↦ omega (arith, b.1) ]))

-- at every moment there is room for the whole of a wait that begins now
pub room : (n reach : ℕ) (m : Moment) (w r e : ℕ) → r < n → m.wait r ≡ Some w → IsWithin n reach m → IsEldest n m e → max 1 (m.away e) + count_before n m w r * reach ≤ n * reach
room n reach m w r e l s within eldest =
    let a : m.away e ≤ reach = within.near e eldest.age eldest.known eldest.waits in
    let b : 0 < reach = within.positive in
    let c : max 1 (m.away e) ≤ reach = omega arith in
    omega (arith, c, one_walk (count_before n m w r) n reach (count_before-less n m w r l s))

pub on_time-fresh : (n reach : ℕ) (m : Moment) (w r : ℕ) → r < n → m.wait r ≡ Some w → IsWithin n reach m → IsOnTime n reach m r 0
on_time-fresh n reach m w r l s within = record { age = w; waits = s; counted = omega arith; left = λ e eldest. omega (arith, room n reach m w r e l s within eldest) }

-- ---- a tick

module _ (n reach : ℕ) (m m' : Moment) (arrives : ℕ → Bool) (tick : IsAdvance n m m' arrives) (r w : ℕ) (known : r < n) (waits : m.wait r ≡ Some w) (stays : arrives r ≡ false) where
  -- who comes before r after the tick came before it, and did not arrive
  tick-older : (q : ℕ) → q < n → comes_before (m'.wait q) q (w + 1) r ≡ true → (arrives q ≡ false) × (comes_before (m.wait q) q w r ≡ true)
  tick-older q l h =
      let s = comes_before-true (m'.wait q) q (w + 1) r h in
      elim (none_or_some (m.wait q)) [
        | inl none ↦ (let gone : m'.wait q ≡ None = tick.idle q l none in absurd (cc (s.1)))
        | inr some ↦ elim (cases_Bool (arrives q)) [
          | inl here ↦ (let zero_wait : s.0 ≡ 0 = tick.anew q some.0 s.0 l some.1 here s.1 in absurd (elim s.2 [ inl a ↦ omega arith | inr b ↦ omega (arith, b.0) ]))
          | inr away ↦ (
              let value : s.0 ≡ some.0 + 1 = same_value s.0 (some.0 + 1) (sym s.1 ∙ tick.waits_on q some.0 l some.1 away) in
              (away, comes_before-from (m.wait q) some.0 q w r some.1 (elim s.2 [ inl a ↦ inl (omega arith) | inr b ↦ inr (omega (arith, b.0), b.1) ])))
        ]
      ]

  -- so no more come before it than did
  tick-count : count_before n m' (w + 1) r ≤ count_before n m w r
  tick-count = below-mono (λ q. comes_before (m'.wait q) q (w + 1) r) (λ q. comes_before (m.wait q) q w r) n (λ q l h. (tick-older q l h).1)

  -- and one fewer, if the eldest arrived
  tick-count_less : (e : ℕ) → IsEldest n m e → arrives e ≡ true → count_before n m' (w + 1) r < count_before n m w r
  tick-count_less e eldest here =
      let other : e ≢ r = λ (p : e ≡ r). cc (here, stays, ap arrives p) in
      below-strict (λ q. comes_before (m'.wait q) q (w + 1) r) (λ q. comes_before (m.wait q) q w r) n e
      (λ q l h. (tick-older q l h).1) eldest.known
      (elim (cases_Bool (comes_before (m'.wait e) e (w + 1) r)) [
        | inl h ↦ (let p = (tick-older e eldest.known h).0 in absurd (cc (p, here)))
        | inr f ↦ f
      ])
      (eldest-before n m e r w eldest known waits other)

  -- an eldest that does not arrive is the eldest still
  tick-eldest : (e e' : ℕ) → IsEldest n m e → IsEldest n m' e' → arrives e ≡ false → e' ≡ e
  tick-eldest e e' eldest eldest' away =
      let mine : m'.wait e ≡ Some (eldest.age + 1) = tick.waits_on e eldest.age eldest.known eldest.waits away in
      let above = outranks m'.wait n e' eldest' e (eldest.age + 1) eldest.known mine in
      let positive : 0 < eldest'.age = elim above [ inl a ↦ omega arith | inr b ↦ omega (arith, b.0) ] in
      elim (none_or_some (m.wait e')) [
        | inl none ↦ (let gone : m'.wait e' ≡ None = tick.idle e' eldest'.known none in absurd (cc (eldest'.waits)))
        | inr some ↦ elim (cases_Bool (arrives e')) [
          | inl here ↦ (let zero_wait : eldest'.age ≡ 0 = tick.anew e' some.0 eldest'.age eldest'.known some.1 here eldest'.waits in absurd (omega arith))
          | inr gone ↦ (
              let value : eldest'.age ≡ some.0 + 1 = same_value eldest'.age (some.0 + 1) (sym eldest'.waits ∙ tick.waits_on e' some.0 eldest'.known some.1 gone) in
              elim (outranks m.wait n e eldest e' some.0 eldest'.known some.1) [
                | inl a ↦ absurd (elim above [ inl b ↦ omega arith | inr b ↦ omega (arith, b.0) ])
                | inr a ↦ elim above [ inl b ↦ absurd (omega (arith, a.0)) | inr b ↦ omega (arith, a.1, b.1) ]
              ])
        ]
      ]

  -- what is left falls by one with each tick
  pub tick-left : (part : ℕ) → IsWithin n reach m' →
      ((e : ℕ) → IsEldest n m e → part + max 1 (m.away e) + count_before n m w r * reach ≤ n * reach) →
      (e' : ℕ) → IsEldest n m' e' → part + 1 + max 1 (m'.away e') + count_before n m' (w + 1) r * reach ≤ n * reach
  tick-left part within left e' eldest' =
      let found = eldest-exists m n r w known waits in
      let e = found.0 in
      let before = left e found.1 in
      elim (cases_Bool (arrives e)) [
        | inl here ↦ (
            let a : m'.away e' ≤ reach = within.near e' eldest'.age eldest'.known eldest'.waits in
            let b : 0 < reach = within.positive in
            let c : max 1 (m'.away e') ≤ reach = omega arith in
            let d : 1 ≤ max 1 (m.away e) = omega arith in
            omega (arith, before, c, d, one_walk (count_before n m' (w + 1) r) (count_before n m w r) reach (tick-count_less e found.1 here)))
        | inr away ↦ (
            let same : e' ≡ e = tick-eldest e e' found.1 eldest' away in
            let close = tick.nearer e found.1 away in
            let at : m'.away e' ≡ m'.away e = ap m'.away same in
            let c : max 1 (m'.away e') + 1 ≤ max 1 (m.away e) = omega (arith, at, close.0, close.1) in
            omega (arith, before, c, mul-le-mul_right {m = count_before n m' (w + 1) r} {n = count_before n m w r} reach tick-count))
      ]

pub on_time-tick : (n reach : ℕ) (m m' : Moment) (arrives : ℕ → Bool) (r part : ℕ) → r < n → IsAdvance n m m' arrives → IsWithin n reach m' → arrives r ≡ false → IsOnTime n reach m r part → IsOnTime n reach m' r (part + 1)
on_time-tick n reach m m' arrives r part known tick within stays on = record {
  age = on.age + 1;
  waits = tick.waits_on r on.age known on.waits stays;
  counted = omega (arith, on.counted);
  left = tick-left n reach m m' arrives tick r on.age known on.waits stays part within on.left;
}

-- ---- a pause

module _ (n reach : ℕ) (m m' : Moment) (pause : IsPause n m m') (r w : ℕ) (known : r < n) (waits : m.wait r ≡ Some w) (long : 0 < w) where
  -- nobody new comes before a robot that has waited
  pause-older : (q : ℕ) → q < n → comes_before (m'.wait q) q w r ≡ true → comes_before (m.wait q) q w r ≡ true
  pause-older q l h =
      let s = comes_before-true (m'.wait q) q w r h in
      elim (none_or_some (m.wait q)) [
        | inl none ↦ (let zero_wait : s.0 ≡ 0 = pause.fresh q s.0 l none s.1 in absurd (elim s.2 [ inl a ↦ omega arith | inr b ↦ omega (arith, b.0) ]))
        | inr some ↦ (
            let value : s.0 ≡ some.0 = same_value s.0 some.0 (sym s.1 ∙ (pause.kept q some.0 l some.1).0) in
            comes_before-from (m.wait q) some.0 q w r some.1 (elim s.2 [ inl a ↦ inl (omega arith) | inr b ↦ inr (omega (arith, b.0), b.1) ]))
      ]

  pause-count : count_before n m' w r ≤ count_before n m w r
  pause-count = below-mono (λ q. comes_before (m'.wait q) q w r) (λ q. comes_before (m.wait q) q w r) n pause-older

  -- the eldest is another only if nobody has waited
  pause-eldest : (e e' : ℕ) → IsEldest n m e → IsEldest n m' e' → e' ≡ e
  pause-eldest e e' eldest eldest' =
      let old : 0 < eldest.age = elim (outranks m.wait n e eldest r w known waits) [ inl a ↦ omega arith | inr b ↦ omega (arith, b.0) ] in
      let mine : m'.wait e ≡ Some eldest.age = (pause.kept e eldest.age eldest.known eldest.waits).0 in
      let above = outranks m'.wait n e' eldest' e eldest.age eldest.known mine in
      elim (none_or_some (m.wait e')) [
        | inl none ↦ (let zero_wait : eldest'.age ≡ 0 = pause.fresh e' eldest'.age eldest'.known none eldest'.waits in absurd (elim above [ inl a ↦ omega arith | inr b ↦ omega (arith, b.0) ]))
        | inr some ↦ (
            let value : eldest'.age ≡ some.0 = same_value eldest'.age some.0 (sym eldest'.waits ∙ (pause.kept e' some.0 eldest'.known some.1).0) in
            elim (outranks m.wait n e eldest e' some.0 eldest'.known some.1) [
              | inl a ↦ absurd (elim above [ inl b ↦ omega arith | inr b ↦ omega (arith, b.0) ])
              | inr a ↦ elim above [ inl b ↦ absurd (omega (arith, a.0)) | inr b ↦ omega (arith, a.1, b.1) ]
            ])
      ]

  pub pause-left : (part : ℕ) →
      ((e : ℕ) → IsEldest n m e → part + max 1 (m.away e) + count_before n m w r * reach ≤ n * reach) →
      (e' : ℕ) → IsEldest n m' e' → part + max 1 (m'.away e') + count_before n m' w r * reach ≤ n * reach
  pause-left part left e' eldest' =
      let found = eldest-exists m n r w known waits in
      let e = found.0 in
      let same : e' ≡ e = pause-eldest e e' found.1 eldest' in
      let at : m'.away e' ≡ m.away e = ap m'.away same ∙ (pause.kept e found.1.age found.1.known found.1.waits).1 in
      let c : max 1 (m'.away e') ≤ max 1 (m.away e) = omega (arith, at) in
      omega (arith, left e found.1, c, mul-le-mul_right {m = count_before n m' w r} {n = count_before n m w r} reach pause-count)

pub none_or_more : (w : ℕ) → (w ≡ 0) ⊎ (0 < w)
none_or_more zero = inl refl
none_or_more (suc w) = inr (omega arith)

pub on_time-pause : (n reach : ℕ) (m m' : Moment) (r part : ℕ) → r < n → IsPause n m m' → IsWithin n reach m' → IsOnTime n reach m r part → IsOnTime n reach m' r part
on_time-pause n reach m m' r part known pause within on =
    let waits' : m'.wait r ≡ Some on.age = (pause.kept r on.age known on.waits).0 in
    record {
      age = on.age;
      waits = waits';
      counted = on.counted;
      left = λ e' eldest'. elim (none_or_more on.age) [
        | inl none ↦ (let small : part ≡ 0 = omega (arith, on.counted) in omega (arith, room n reach m' on.age r e' known waits' within eldest'))
        | inr long ↦ pause-left n reach m m' pause r on.age known on.waits long part on.left e' eldest'
      ];
    }

-- ---- what it is for

-- the part of a wait that was counted is below n times reach
pub on_time-bound : (n reach : ℕ) (m : Moment) (r part : ℕ) → r < n → IsOnTime n reach m r part → part < n * reach
on_time-bound n reach m r part known on =
    let found = eldest-exists m n r on.age known on.waits in
    let d : 1 ≤ max 1 (m.away found.0) = omega arith in
    omega (arith, on.left found.0 found.1, d)
