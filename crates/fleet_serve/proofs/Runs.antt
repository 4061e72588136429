-- A client that has run one more line.
use Rattle.std.proofs.Common.{◌≡◌, ◌∙◌, inl, inr, ℕ, ◌+◌, ◌<◌, ◌≤◌, Bool, true, false, List, [], ◌∷◌, ◌++◌, length, refl, sym, ap, subst, arith}
use Rattle.std.specs.Prelude.{min, ◌-◌, ◌^◌, take, slice_index_or}
use Rattle.std.proofs.lemmas.Grind.{flat_map-append}
use Rattle.std.proofs.lemmas.List.{length-append, append-nil, take_more, take_all}
use Rattle.std.proofs.lemmas.Bool.{cases_Bool, eq-eqb}
use Rattle.fleet_book.specs.declared.order.Order.{Order}
use Rattle.fleet_book.specs.declared.event.Event.{Event}
use Rattle.fleet_book.specs.declared.event.Event.TheVariants.{Post}
use Rattle.fleet_lanes.specs.Ends.{ClientView, has_close}
use Rattle.fleet_lanes.specs.Posts.{AreSpent}
use Rattle.fleet_serve.specs.Posted as way
use Rattle.fleet_serve.specs.Posted.{posts, post_by, until_close, IsSubsequence, IsNew, MaySend, ComeTo, HasRun, HasCounted, KeepsSent}
use Rattle.fleet_serve.proofs.Sequences.{more-kept, more-left, no-items, until-closed, until-open}

posts-more : (c : ℕ) (events : List Event) (event : Event) → posts c (events ++ event ∷ []) ≡ posts c events ++ post_by c event
posts-more c events event = flat_map-append (post_by c) events (event ∷ []) ∙ ap (λ os. posts c events ++ os) (append-nil (post_by c event))

-- before its first line
pub run-none : {A : Type 0} (most : ℕ) (x : ClientView A) → IsNew x most → HasRun [] most x 0
run-none most x n = record {
  part = subst (λ xs. IsSubsequence xs []) (sym n.sent) no-items;
  few = subst (λ xs. length xs ≤ 0) (sym n.sent) (omega arith);
  orders = n.orders;
  whole = λ z l. n.sent;
  come = subst (λ xs. ComeTo most [] xs 0) (sym n.sent) way.begun;
}

pub counted-none : {A : Type 0} (most : ℕ) (x : ClientView A) → IsNew x most → HasCounted [] most x 0
counted-none most x n = record { full = 0; run = run-none most x n; counted = omega arith }

module _ {A : Type 0} (events : List Event) (most : ℕ) (x y : ClientView A) (event : Event) (full : ℕ) (run : HasRun events most x full)
    (number : y.number ≡ x.number) (orders : y.orders ≡ x.orders) where
  posted : posts y.number (events ++ event ∷ []) ≡ posts x.number events ++ post_by x.number event
  posted = ap (λ n. posts n (events ++ event ∷ [])) number ∙ posts-more x.number events event

  -- the line posts nothing for it
  pub run-other : post_by x.number event ≡ [] → y.sent ≡ x.sent → HasRun (events ++ event ∷ []) most y full
  run-other none sent =
      let same : posts y.number (events ++ event ∷ []) ≡ posts x.number events = posted ∙ ap (λ os. posts x.number events ++ os) none ∙ append-nil (posts x.number events) in
      record {
        part = subst (λ xs. IsSubsequence xs (posts y.number (events ++ event ∷ []))) (sym sent) (subst (IsSubsequence x.sent) (sym same) run.part);
        few = omega (arith, length-append events (event ∷ []), ap length sent, run.few);
        orders = orders ∙ run.orders;
        whole = λ z l. sent ∙ run.whole z (omega (arith, l, length-append events (event ∷ []))) ∙ sym (ap until_close same);
        come = subst (λ xs. ComeTo most (posts y.number (events ++ event ∷ [])) xs full) (sym sent) (subst (λ ps. ComeTo most ps x.sent full) (sym same) run.come);
      }

  module _ (order : Order) (one : post_by x.number event ≡ order ∷ []) where
    more : posts y.number (events ++ event ∷ []) ≡ posts x.number events ++ order ∷ []
    more = posted ∙ ap (λ os. posts x.number events ++ os) one

    -- the line's order is sent
    pub run-sent : y.sent ≡ x.sent ++ order ∷ [] → MaySend most x.sent order → HasRun (events ++ event ∷ []) most y full
    run-sent sent may = record {
      part = subst (λ xs. IsSubsequence xs (posts y.number (events ++ event ∷ []))) (sym sent)
          (subst (IsSubsequence (x.sent ++ order ∷ [])) (sym more) (more-kept x.sent (posts x.number events) order run.part));
      few = omega (arith, length-append events (event ∷ []), ap length sent, length-append x.sent (order ∷ []), run.few);
      orders = orders ∙ run.orders;
      whole = λ z l.
          let before = run.whole z (omega (arith, l, length-append events (event ∷ []))) in
          sent ∙ ap (λ xs. xs ++ order ∷ []) before
          ∙ sym (until-open (posts x.number events) order (subst (λ xs. has_close xs ≡ false) before may.still))
          ∙ sym (ap until_close more);
      come = subst (λ xs. ComeTo most (posts y.number (events ++ event ∷ [])) xs full) (sym sent)
          (subst (λ ps. ComeTo most ps (x.sent ++ order ∷ []) full) (sym more) (way.sends (posts x.number events) x.sent full order run.come may));
    }

    -- it is not
    pub run-unsent : (full' : ℕ) → y.sent ≡ x.sent → (full' ≡ 0 → full ≡ 0) → (full' ≡ 0 → length events + 1 < most → has_close x.sent ≡ true) →
        ComeTo most (posts x.number events ++ order ∷ []) x.sent full' → HasRun (events ++ event ∷ []) most y full'
    run-unsent full' sent fewer why come = record {
      part = subst (λ xs. IsSubsequence xs (posts y.number (events ++ event ∷ []))) (sym sent)
          (subst (IsSubsequence x.sent) (sym more) (more-left x.sent (posts x.number events) order run.part));
      few = omega (arith, length-append events (event ∷ []), ap length sent, run.few);
      orders = orders ∙ run.orders;
      whole = λ z l.
          let room : length events + 1 < most = omega (arith, l, length-append events (event ∷ [])) in
          let before = run.whole (fewer z) (omega (arith, room)) in
          sent ∙ before
          ∙ sym (until-closed (posts x.number events) order (subst (λ xs. has_close xs ≡ true) before (why z room)))
          ∙ sym (ap until_close more);
      come = subst (λ xs. ComeTo most (posts y.number (events ++ event ∷ [])) xs full') (sym sent) (subst (λ ps. ComeTo most ps x.sent full') (sym more) come);
    }

-- ---- a line, by what the client's call came to

pub post-of : (event : Event) (client c : ℕ) (order : Order) → event ≡ Post client order → client ≡ c → post_by c event ≡ order ∷ []
post-of event client c order is same = subst (λ e. post_by c e ≡ order ∷ []) (sym is) (rw (eq-eqb client c same) refl)

not_true : (b : Bool) → (b ≡ true → ⊥) → b ≡ false
not_true b other = elim (cases_Bool b) [ inl t ↦ absurd (other t) | inr f ↦ f ]

-- the client may send the order where a post is answered neither `Closed` nor `NumbersSpent`
may : {A : Type 0} (most : ℕ) (x : ClientView A) (order : Order) → x.orders ≡ most → (has_close x.sent ≡ true → ⊥) → (AreSpent x order → ⊥) → MaySend most x.sent order
may most x order orders still numbered =
    let open_yet = not_true (has_close x.sent) still in
    record { still = open_yet; numbered = λ other last. numbered (open_yet, other, last ∙ sym orders) }

module _ {A : Type 0} (events : List Event) (most : ℕ) (x y : ClientView A) (event : Event) (lane_full : ℕ) (c : HasCounted events most x lane_full) where
  pub counted-other : post_by x.number event ≡ [] → y.number ≡ x.number → y.orders ≡ x.orders → y.sent ≡ x.sent → HasCounted (events ++ event ∷ []) most y lane_full
  counted-other none number orders sent = record { full = c.full; run = run-other events most x y event c.full c.run number orders none sent; counted = c.counted }

  module _ (order : Order) (one : post_by x.number event ≡ order ∷ []) where
    pub counted-ok : (free : ℕ) → y ≡ record x { sent = x.sent ++ order ∷ []; free = free } → (has_close x.sent ≡ true → ⊥) → (AreSpent x order → ⊥) → HasCounted (events ++ event ∷ []) most y lane_full
    counted-ok free e still numbered = record {
      full = c.full;
      run = run-sent events most x y event c.full c.run (ap (λ v. v.number) e) (ap (λ v. v.orders) e) order one (ap (λ v. v.sent) e) (may most x order c.run.orders still numbered);
      counted = c.counted;
    }

    pub counted-full : (more : ℕ) → y ≡ x → (has_close x.sent ≡ true → ⊥) → (AreSpent x order → ⊥) → more ≡ min (lane_full + 1) (2 ^ 32 - 1) → HasCounted (events ++ event ∷ []) most y more
    counted-full more e still numbered sum = record {
      full = c.full + 1;
      run = run-unsent events most x y event c.full c.run (ap (λ v. v.number) e) (ap (λ v. v.orders) e) order one (c.full + 1) (ap (λ v. v.sent) e)
          (λ z. absurd (omega (arith, z))) (λ z room. absurd (omega (arith, z)))
          (way.meets_full (posts x.number events) x.sent c.full order c.run.come (may most x order c.run.orders still numbered));
      counted = omega (arith, sum, c.counted);
    }

    pub counted-closed : y ≡ x → has_close x.sent ≡ true → HasCounted (events ++ event ∷ []) most y lane_full
    counted-closed e closed = record {
      full = c.full;
      run = run-unsent events most x y event c.full c.run (ap (λ v. v.number) e) (ap (λ v. v.orders) e) order one c.full (ap (λ v. v.sent) e)
          (λ z. z) (λ z room. closed)
          (way.may_not (posts x.number events) x.sent c.full order c.run.come (λ m. let still = m.still in cc));
      counted = c.counted;
    }

    pub counted-spent : y ≡ x → AreSpent x order → HasCounted (events ++ event ∷ []) most y lane_full
    counted-spent e spent = record {
      full = c.full;
      run = run-unsent events most x y event c.full c.run (ap (λ v. v.number) e) (ap (λ v. v.orders) e) order one c.full (ap (λ v. v.sent) e)
          (λ z. z) (λ z room. absurd (omega (arith, spent.2, c.run.few, c.run.orders, room)))
          (way.may_not (posts x.number events) x.sent c.full order c.run.come (λ m. m.numbered spent.1 (spent.2 ∙ c.run.orders)));
      counted = c.counted;
    }

pub keeps-all : {A : Type 0} (x : ClientView A) → KeepsSent x x
keeps-all x = record { number = refl; orders = refl; sent = refl }

-- the line at this place is run, and then all have been
pub run-next : {A : Type 0} (events : List Event) (most : ℕ) (y : ClientView A) (at : ℕ) (event : Event) (full : ℕ) → at < length events →
    HasCounted (take at events ++ slice_index_or events at event ∷ []) most y full → HasCounted (take (at + 1) events) most y full
run-next events most y at event full inside run = subst (λ es. HasCounted es most y full) (sym (take_more events at event inside)) run

pub run-all : {A : Type 0} (events all : List Event) (most : ℕ) (y : ClientView A) (at : ℕ) (full : ℕ) → length events ≤ at → events ≡ all →
    HasCounted (take at events) most y full → HasCounted all most y full
run-all events all most y at full past same run = subst (λ es. HasCounted es most y full) (take_all at events past ∙ same) run
