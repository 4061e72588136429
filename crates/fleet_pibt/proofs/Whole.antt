-- The board after the whole plan.
use Rattle.std.proofs.Common.{Bool, true, false, MatchBool, IsTrue, ◌≡◌, ◌≢◌, ℕ, ◌+◌, ◌<◌, inl, inr, Option, Some, None, List, length, slice_index, sym, subst, refl, ap, ◌∙◌, arith}
use Rattle.std.proofs.lemmas.Bool.{cases_eq}
use Rattle.fleet_pibt.specs.inside.Entry.{table, IsEmpty}
use Rattle.fleet_pibt.specs.inside.Setting.{Setting, robots, cell_of, IsScene, IsReady, IsDone, HasFailed, HasTried, NamesAll, IsPlanned}
use Rattle.fleet_pibt.proofs.Reserve.{none_or_some}

module _ (s : Setting) (target holder : List (Option ℕ)) (queue : List ℕ) where
  pub planned-start : length target ≡ robots s → length holder ≡ length s.floor.letters → IsEmpty target → IsEmpty holder → IsPlanned s target holder target holder queue 0
  planned-start lt lh et eh = record {
    was = lt;
    targets = lt;
    holders = lh;
    tidy = record {
      held = λ r c e. absurd (cc (et r, e));
      kept = λ c r e. absurd (cc (eh c, e));
      real = λ r c e. absurd (cc (et r, e));
      legal = λ r c e. absurd (cc (et r, e));
      swapless = λ r t e f. absurd (cc (et r, e));
      keen = λ r c w e. absurd (cc (et r, e));
      pulled = λ r c e. absurd (cc (et r, e));
    };
    edge = λ c r k e. absurd (cc (eh c, e));
    decided = λ j l. absurd (omega arith);
    tried = λ l. absurd (omega arith);
    start = λ e. (refl, refl);
  }

  module _ (target' holder' : List (Option ℕ)) (k : ℕ) (names : NamesAll s queue) (below : k < length queue) (planned : IsPlanned s target holder target' holder' queue k) where
    pub planned-ready : table target' (slice_index queue k) ≡ None → IsReady s target' holder' (slice_index queue k)
    planned-ready none = record {
      known = names.known k below;
      targets = planned.targets;
      holders = planned.holders;
      tidy = planned.tidy;
      edge = λ c r x e small at idle. absurd (omega (arith, planned.edge c r x e small at idle));
      idle = none;
    }

    planned-tried : (target'' holder'' : List (Option ℕ)) → ((r c : ℕ) → table target' r ≡ Some c → table target'' r ≡ Some c) → 0 < k → HasTried s target holder target'' (slice_index queue 0)
    planned-tried target'' holder'' keep more =
        let old = planned.tried more in
        (old.0, old.1, elim old.2 [ inl e ↦ inl (keep _ _ e) | inr refused ↦ inr refused ])

    -- the robot at `k` had decided already
    pub planned-skip : table target' (slice_index queue k) ≢ None → IsEmpty target → IsPlanned s target holder target' holder' queue (k + 1)
    planned-skip some empty = record {
      was = planned.was;
      targets = planned.targets;
      holders = planned.holders;
      tidy = planned.tidy;
      edge = planned.edge;
      decided = λ j l. elim (cases_eq j k) [ inl e ↦ subst (λ (x : ℕ). table target' (slice_index queue x) ≢ None) (sym e) some | inr ne ↦ planned.decided j (omega arith) ];
      tried = λ l. elim (cases_eq k 0) [
        | inl e ↦ absurd (some (cc (empty (slice_index queue k), ap (λ (x : List (Option ℕ)). table x (slice_index queue k)) (planned.start e).0)))
        | inr ne ↦ planned.tried (omega arith)
      ];
      start = λ e. absurd (omega arith);
    }

    -- it was planned now
    pub planned-more : (target'' holder'' : List (Option ℕ)) → length target'' ≡ length target' → length holder'' ≡ length holder' → IsDone s target' holder' target'' holder'' (slice_index queue k) →
        HasTried s target' holder' target'' (slice_index queue k) → IsPlanned s target holder target'' holder'' queue (k + 1)
    planned-more target'' holder'' lt lh done tried = record {
      was = planned.was;
      targets = lt ∙ planned.targets;
      holders = lh ∙ planned.holders;
      tidy = done.tidy;
      edge = done.edge;
      decided = λ j l. elim (cases_eq j k) [
        | inl e ↦ subst (λ (x : ℕ). table target'' (slice_index queue x) ≢ None) (sym e) done.settled
        | inr ne ↦ (elim (none_or_some (table target' (slice_index queue j))) [
          | inl none ↦ absurd (planned.decided j (omega arith) none)
          | inr some ↦ (λ f. cc (done.keep _ _ some.1))
        ])
      ];
      tried = λ l. elim (cases_eq k 0) [
        | inl e ↦ (let same = planned.start e in
            let a : HasTried s target holder' target'' (slice_index queue k) = subst (λ (x : List (Option ℕ)). HasTried s x holder' target'' (slice_index queue k)) same.0 tried in
            let b : HasTried s target holder target'' (slice_index queue k) = subst (λ (x : List (Option ℕ)). HasTried s target x target'' (slice_index queue k)) same.1 a in
            subst (λ (x : ℕ). HasTried s target holder target'' (slice_index queue x)) e b)
        | inr ne ↦ planned-tried target'' holder'' done.keep (omega arith)
      ];
      start = λ e. absurd (omega arith);
    }

    -- nobody wants its cell, so its plan does not fail
    pub planned-whole : (scene : IsScene s) → (target'' holder'' : List (Option ℕ)) → table target' (slice_index queue k) ≡ None → HasFailed s target' holder' target'' holder'' (slice_index queue k) → ⊥
    planned-whole scene target'' holder'' none failed =
        elim (none_or_some (table holder' (cell_of s (slice_index queue k)))) [
          | inl free ↦ failed.own free
          | inr some ↦ (let e = planned.edge _ some.0 (slice_index queue k) some.1 (names.known k below) refl none in
              let l = names.known k below in omega arith)
        ]

    pub planned-call : (scene : IsScene s) → (target'' holder'' : List (Option ℕ)) → table target' (slice_index queue k) ≡ None → (b : Bool) →
        MatchBool b (IsDone s target' holder' target'' holder'' (slice_index queue k)) (HasFailed s target' holder' target'' holder'' (slice_index queue k)) →
        (IsTrue b → HasTried s target' holder' target'' (slice_index queue k)) → length target'' ≡ length target' → length holder'' ≡ length holder' → IsPlanned s target holder target'' holder'' queue (k + 1)
    planned-call scene target'' holder'' none true m tried lt lh = planned-more target'' holder'' lt lh m (tried refl)
    planned-call scene target'' holder'' none false m tried lt lh = absurd (planned-whole scene target'' holder'' none m)
