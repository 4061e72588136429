-- The take whose verdict breaks the third rule.
use Rattle.std.proofs.Common.{◌≡◌, ℕ, ◌<◌, ◌-◌, ◌∙◌, inl, inr, List, Option, Some, refl, subst, arith}
use Rattle.std.specs.Prelude.{slice_get}
use Rattle.fleet_grid.specs.Floor.{Floor}
use Rattle.fleet_book.specs.declared.order.Order.{Order}
use Rattle.fleet_book.specs.declared.verdict.Verdict.{Verdict}
use Rattle.fleet_history.specs.declared.history.Arrival.{Arrival}
use Rattle.fleet_history.specs.declared.history.Bye.{Bye}
use Rattle.fleet_history.specs.declared.history.Entry.{Entry}
use Rattle.fleet_history.specs.declared.history.Entry.TheVariants.{Take, Tick, Shut}
use Rattle.fleet_history.specs.History.{History, clients}
use Rattle.fleet_trace.specs.Judged.{before, Breaks, IsFirstIllegal}
use Rattle.fleet_explain.specs.declared.detail.Detail.{Detail}
use Rattle.fleet_explain.specs.declared.detail.Detail.TheVariants.{Nothing, Due, Step, Missing, Extra, MissingFarewell, ExtraFarewell, Opening, Stamp, Clients, Robots, ShutBefore}
use Rattle.fleet_explain.specs.Details.{IsVerdictDetail, IsDetail}
use Rattle.fleet_explain.proofs.AtEntry.{the_same, entry_at}

-- its client is known
known_in : {A : Type 0} (m : Floor) (h : History A) (client rule : ℕ) (order : Order) (v : Verdict) → rule ≡ 3 → Breaks m h (Take client order v) rule → client < clients h
known_in m h client rule order v is (inl b) = absurd (omega (arith, b.0, is))
known_in m h client rule order v is (inr b) = b.1

pub client_known : {A : Type 0} (m : Floor) (h : History A) (at client : ℕ) (order : Order) (shown : Verdict) → slice_get h.entries (at - 1) ≡ Some (Take client order shown)
    → IsFirstIllegal m h at 3 → client < clients h
client_known {A} m h at client order shown there first =
    let three : 3 ≡ 3 = refl in
    let k = entry_at m h at 3 (λ is. omega (arith, is)) first in
    let same : k.entry ≡ Take client order shown = the_same (slice_get h.entries (at - 1)) k.entry (Take client order shown) k.there there in
    known_in m (before h (at - 1)) client 3 order shown three (subst (λ (e : Entry A). Breaks m (before h (at - 1)) e 3) same k.breaks)

not_tick : {A : Type 0} (m : Floor) (h : History A) (to : List ℕ) (arrived : List Arrival) (farewells : List Bye) (rule : ℕ) → rule ≡ 3 → Breaks m h (Tick to arrived farewells) rule → ⊥
not_tick m h to arrived farewells rule is (inl b) = omega (arith, b.0, is)
not_tick m h to arrived farewells rule is (inr (step, inl b)) = omega (arith, b.0, is)
not_tick m h to arrived farewells rule is (inr (step, inr (inl b))) = omega (arith, b.0, is)
not_tick m h to arrived farewells rule is (inr (step, inr (inr b))) = omega (arith, b.0, is)

not_shut : {A : Type 0} (m : Floor) (h : History A) (robot : ℕ) (farewell : Option ℕ) (rule : ℕ) → rule ≡ 3 → Breaks m h (Shut robot farewell) rule → ⊥
not_shut m h robot farewell rule is (inl b) = omega (arith, b.0, is)
not_shut m h robot farewell rule is (inr (inl b)) = omega (arith, b.0, is)
not_shut m h robot farewell rule is (inr (inr b)) = omega (arith, b.0, is)

module _ {A : Type 0} (m : Floor) (h : History A) (at : ℕ) (first : IsFirstIllegal m h at 3) where
  pub no_tick : (e : Entry A) (to : List ℕ) (arrived : List Arrival) (farewells : List Bye) → slice_get h.entries (at - 1) ≡ Some e → e ≡ Tick to arrived farewells → ⊥
  no_tick e to arrived farewells there is =
      let k = entry_at m h at 3 (λ bad. omega (arith, bad)) first in
      not_tick m (before h (at - 1)) to arrived farewells 3 refl
      (subst (λ (x : Entry A). Breaks m (before h (at - 1)) x 3) (the_same (slice_get h.entries (at - 1)) k.entry e k.there there ∙ is) k.breaks)

  pub no_shut : (e : Entry A) (robot : ℕ) (farewell : Option ℕ) → slice_get h.entries (at - 1) ≡ Some e → e ≡ Shut robot farewell → ⊥
  no_shut e robot farewell there is =
      let k = entry_at m h at 3 (λ bad. omega (arith, bad)) first in
      not_shut m (before h (at - 1)) robot farewell 3 refl
      (subst (λ (x : Entry A). Breaks m (before h (at - 1)) x 3) (the_same (slice_get h.entries (at - 1)) k.entry e k.there there ∙ is) k.breaks)

  -- what is said of its order is what there is to say
  pub verdict_told : (client : ℕ) (order : Order) (shown : Verdict) → slice_get h.entries (at - 1) ≡ Some (Take client order shown)
      → (d : Detail) → IsVerdictDetail m (before h (at - 1)) client order d → IsDetail m h at 3 d
  verdict_told client order shown there Nothing told = absurd told
  verdict_told client order shown there (Due v) told = (refl, (client, order, shown, there, told))
  verdict_told client order shown there (Step fault) told = absurd told
  verdict_told client order shown there (Missing d) told = absurd told
  verdict_told client order shown there (Extra d) told = absurd told
  verdict_told client order shown there (MissingFarewell r) told = absurd told
  verdict_told client order shown there (ExtraFarewell r) told = absurd told
  verdict_told client order shown there (Clients n) told = absurd told
  verdict_told client order shown there (Robots n) told = absurd told
  verdict_told client order shown there ShutBefore told = absurd told
  verdict_told client order shown there (Opening part) told = absurd told
  verdict_told client order shown there (Stamp s) told = absurd told
