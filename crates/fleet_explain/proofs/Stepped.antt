-- The tick whose step breaks the fourth rule.
use Rattle.std.proofs.Common.{◌≡◌, ℕ, ◌+◌, ◌-◌, ◌≤◌, inl, inr, List, [], ◌∷◌, ◌++◌, length, take, Option, Some, None, sym, ap, subst, ◌∙◌, arith}
use Rattle.std.specs.Prelude.{slice_get}
use Rattle.std.proofs.lemmas.List.{length-append}
use Rattle.fleet_grid.specs.Floor.{Floor}
use Rattle.fleet_grid.specs.Step.{IsPlacement, IsConflictFree}
use Rattle.fleet_history.specs.declared.history.Arrival.{Arrival}
use Rattle.fleet_history.specs.declared.history.Bye.{Bye}
use Rattle.fleet_history.specs.declared.history.Entry.{Entry}
use Rattle.fleet_history.specs.declared.history.Entry.TheVariants.{Take, Tick, Shut}
use Rattle.fleet_history.specs.History.{History, with_entries, place}
use Rattle.fleet_history.specs.Legal.{IsLegal}
use Rattle.fleet_history.proofs.Legal.{legal-placement}
use Rattle.fleet_trace.specs.Judged.{before, Breaks, IsFirstIllegal}
use Rattle.fleet_check.specs.Fault.{IsFirstFault}
use Rattle.fleet_explain.specs.declared.detail.Detail.{Detail}
use Rattle.fleet_explain.specs.declared.detail.Detail.TheVariants.{Nothing, Due, Step, Missing, Extra, MissingFarewell, ExtraFarewell, Opening, Stamp, Clients, Robots, ShutBefore}
use Rattle.fleet_explain.proofs.AtEntry.{take_front, get_at}
use Rattle.fleet_explain.specs.Details.{IsStepDetail, IsDetail}

-- the entry is a tick, and its step has a conflict
pub record IsTickAt {A : Type 0} (m : Floor) (h : History A) (at : ℕ) : Type 0 where
  pub to : List ℕ
  pub arrived : List Arrival
  pub farewells : List Bye
  pub low : 1 ≤ at
  pub high : at ≤ length h.entries
  pub entry : slice_get h.entries (at - 1) ≡ Some (Tick to arrived farewells)
  pub placed : IsPlacement m (place (before h (at - 1)))
  pub conflict : IsConflictFree m (place (before h (at - 1))) to → ⊥

abbrev to_in : {A : Type 0} → Option (Entry A) → List ℕ
to_in (Some (Tick to arrived farewells)) = to
to_in (Some (Take client order v)) = []
to_in (Some (Shut robot farewell)) = []
to_in None = []

module _ {A : Type 0} (m : Floor) (h : History A) (at rule : ℕ) (is : rule ≡ 4) where
  on_entry : (bs : List (Entry A)) (e : Entry A) (behind : List (Entry A)) → h.entries ≡ bs ++ e ∷ behind → at ≡ length bs + 1 → IsLegal m (with_entries h bs) → Breaks m (with_entries h bs) e rule → IsTickAt m h at
  on_entry bs (Take client order v) behind splits count legal (inl b) = absurd (omega (arith, b.0, is))
  on_entry bs (Take client order v) behind splits count legal (inr b) = absurd (omega (arith, b.0, is))
  on_entry bs (Shut robot farewell) behind splits count legal (inl b) = absurd (omega (arith, b.0, is))
  on_entry bs (Shut robot farewell) behind splits count legal (inr (inl b)) = absurd (omega (arith, b.0, is))
  on_entry bs (Shut robot farewell) behind splits count legal (inr (inr b)) = absurd (omega (arith, b.0, is))
  on_entry bs (Tick to arrived farewells) behind splits count legal (inr (step, inl b)) = absurd (omega (arith, b.0, is))
  on_entry bs (Tick to arrived farewells) behind splits count legal (inr (step, inr (inl b))) = absurd (omega (arith, b.0, is))
  on_entry bs (Tick to arrived farewells) behind splits count legal (inr (step, inr (inr b))) = absurd (omega (arith, b.0, is))
  on_entry bs (Tick to arrived farewells) behind splits count legal (inl b) =
      let last : at - 1 ≡ length bs = omega (arith, count) in
      let same : take (at - 1) h.entries ≡ bs = take_front bs (Tick to arrived farewells ∷ behind) h.entries (at - 1) splits last in
      let long : length h.entries ≡ length bs + length (Tick to arrived farewells ∷ behind) = rw splits (length-append bs (Tick to arrived farewells ∷ behind)) in
      record {
        to = to;
        arrived = arrived;
        farewells = farewells;
        low = omega (arith, count);
        high = omega (arith, count, long);
        entry = get_at bs (Tick to arrived farewells) behind h.entries (at - 1) splits last;
        placed = subst (λ (es : List (Entry A)). IsPlacement m (place (with_entries h es))) (sym same) (legal-placement m (with_entries h bs) legal);
        conflict = λ free. b.1 (subst (λ (es : List (Entry A)). IsConflictFree m (place (with_entries h es)) to) same free);
      }

  pub tick_at : IsFirstIllegal m h at rule → IsTickAt m h at
  tick_at (inl first) = absurd (omega (arith, first.1, is))
  tick_at (inr k) = on_entry k.before k.entry k.behind k.splits k.place k.legal k.breaks

  -- what is known of the tick's step is what there is to say
  pub told : (e : Entry A) (to : List ℕ) (arrived : List Arrival) (farewells : List Bye) (taken : List ℕ) → slice_get h.entries (at - 1) ≡ Some e → e ≡ Tick to arrived farewells → taken ≡ to
      → IsFirstIllegal m h at rule → (d : Detail) → IsStepDetail m (place (before h (at - 1))) taken d → IsDetail m h at rule d
  told e to arrived farewells taken there tick same first Nothing free =
      let t = tick_at first in
      let here : slice_get h.entries (at - 1) ≡ Some (Tick to arrived farewells) = there ∙ ap (λ (x : Entry A). Some x) tick in
      let one : taken ≡ t.to = same ∙ ap to_in (sym here ∙ t.entry) in
      absurd (t.conflict (subst (λ (p : List ℕ). IsConflictFree m (place (before h (at - 1))) p) one free))
  told e to arrived farewells taken there tick same first (Step fault) step =
      let here : slice_get h.entries (at - 1) ≡ Some (Tick to arrived farewells) = there ∙ ap (λ (x : Entry A). Some x) tick in
      (is, (to, arrived, farewells, here, subst (λ (p : List ℕ). IsFirstFault m (place (before h (at - 1))) p fault) same step))
  told e to arrived farewells taken there tick same first (Due v) none = absurd none
  told e to arrived farewells taken there tick same first (MissingFarewell r) none = absurd none
  told e to arrived farewells taken there tick same first (ExtraFarewell r) none = absurd none
  told e to arrived farewells taken there tick same first (Clients n) none = absurd none
  told e to arrived farewells taken there tick same first (Robots n) none = absurd none
  told e to arrived farewells taken there tick same first ShutBefore none = absurd none
  told e to arrived farewells taken there tick same first (Opening part) none = absurd none
  told e to arrived farewells taken there tick same first (Stamp s) none = absurd none
  told e to arrived farewells taken there tick same first (Missing d) none = absurd none
  told e to arrived farewells taken there tick same first (Extra d) none = absurd none
