-- The tick whose arrivals break the fifth rule.
use Rattle.std.proofs.Common.{◌≡◌, ◌∙◌, ℕ, ◌-◌, Bool, true, false, true≢false, inl, inr, List, length, Option, Some, None, refl, sym, ap, subst, arith, ◌==◌, ◌&&◌}
use Rattle.std.specs.Prelude.{slice_get, map, MatchOption}
use Rattle.std.specs.Option.{option_map}
use Rattle.std.proofs.lemmas.Bool.{eq-eqb, eqb-true}
use Rattle.fleet_grid.specs.Floor.{Floor}
use Rattle.fleet_grid.specs.Step.{IsConflictFree}
use Rattle.fleet_book.specs.declared.order.Order.{Order}
use Rattle.fleet_book.specs.declared.verdict.Verdict.{Verdict}
use Rattle.fleet_history.specs.declared.history.Arrival.{Arrival}
use Rattle.fleet_history.specs.declared.history.Bye.{Bye}
use Rattle.fleet_history.specs.declared.history.Entry.{Entry}
use Rattle.fleet_history.specs.declared.history.Entry.TheVariants.{Take, Tick, Shut}
use Rattle.fleet_history.specs.History.{History, robots, place}
use Rattle.fleet_history.specs.Legal.{Due as Arriving, due_of, due}
use Rattle.fleet_history.proofs.Legal.{length-place}
use Rattle.fleet_trace.specs.Judged.{before, Breaks, IsFirstIllegal}
use Rattle.fleet_explain.specs.declared.arrival.ArrivalName.{ArrivalName}
use Rattle.fleet_explain.specs.declared.detail.Detail.{Detail}
use Rattle.fleet_explain.specs.declared.detail.Detail.TheVariants.{Nothing, Due, Step, Missing, Extra, MissingFarewell, ExtraFarewell, Opening, Stamp, Clients, Robots, ShutBefore}
use Rattle.fleet_explain.specs.Only.{first_only, HasNoOther, IsOnlyIn}
use Rattle.fleet_explain.specs.Details.{named, is_same, IsArrivalDetail, IsDetail}
use Rattle.fleet_explain.proofs.AtEntry.{the_same, entry_at}
use Rattle.fleet_explain.proofs.Only.{only_read}

-- ---- arrivals that are the same

same_own : (d : Arriving) → is_same d d ≡ true
same_own d = rw (eq-eqb d.robot d.robot refl, eq-eqb d.client d.client refl, eq-eqb d.number d.number refl) refl

left : (a b : Bool) → (a && b) ≡ true → a ≡ true
left true b is = refl
left false b is = is

right : (a b : Bool) → (a && b) ≡ true → b ≡ true
right true b is = is
right false b is = absurd (true≢false (sym is))

abbrev arriving : ℕ → ℕ → ℕ → Arriving
arriving r c n = record { robot = r; client = c; number = n }

same_parts : (d e : Arriving) → d.robot ≡ e.robot → d.client ≡ e.client → d.number ≡ e.number → d ≡ e
same_parts d e r c n =
    ap (λ (x : ℕ). arriving x d.client d.number) r ∙ (ap (λ (x : ℕ). arriving e.robot x d.number) c ∙ ap (λ (x : ℕ). arriving e.robot e.client x) n)

same_one : (d e : Arriving) → is_same d e ≡ true → d ≡ e
same_one d e is =
    let first = left ((d.robot == e.robot) && (d.client == e.client)) (d.number == e.number) is in
    same_parts d e (eqb-true d.robot e.robot (left (d.robot == e.robot) (d.client == e.client) first)) (eqb-true d.client e.client (right (d.robot == e.robot) (d.client == e.client) first))
    (eqb-true d.number e.number (right ((d.robot == e.robot) && (d.client == e.client)) (d.number == e.number) is))

pub arrivals_read : (ds others : List Arriving) → MatchOption (first_only is_same ds others) (HasNoOther is_same ds others) (IsOnlyIn is_same ds others)
arrivals_read = only_read is_same same_own same_one

-- an arrival's name in place of the arrival
pub by_name : (P : Type 0) (Q : Arriving → Type 0) (o : Option ArrivalName) → MatchOption (option_map named o) P Q → MatchOption o P (λ d. Q (named d))
by_name P Q None is = is
by_name P Q (Some d) is = is

-- ---- what the fifth rule says of an entry

module _ {A : Type 0} (m : Floor) (h : History A) (rule : ℕ) (is : rule ≡ 5) where
  -- the step of a tick is free
  free_in : (to : List ℕ) (arrived : List Arrival) (farewells : List Bye) → Breaks m h (Tick to arrived farewells) rule → IsConflictFree m (place h) to
  free_in to arrived farewells (inl b) = absurd (omega (arith, b.0, is))
  free_in to arrived farewells (inr (step, shown)) = step

  take_in : (client : ℕ) (order : Order) (v : Verdict) → Breaks m h (Take client order v) rule → ⊥
  take_in client order v (inl b) = omega (arith, b.0, is)
  take_in client order v (inr b) = omega (arith, b.0, is)

  shut_in : (robot : ℕ) (farewell : Option ℕ) → Breaks m h (Shut robot farewell) rule → ⊥
  shut_in robot farewell (inl b) = omega (arith, b.0, is)
  shut_in robot farewell (inr (inl b)) = omega (arith, b.0, is)
  shut_in robot farewell (inr (inr b)) = omega (arith, b.0, is)

module _ {A : Type 0} (m : Floor) (h : History A) (at : ℕ) (first : IsFirstIllegal m h at 5) where
  breaks_at : (e f : Entry A) → slice_get h.entries (at - 1) ≡ Some e → e ≡ f → Breaks m (before h (at - 1)) f 5
  breaks_at e f there is =
      let k = entry_at m h at 5 (λ bad. omega (arith, bad)) first in
      subst (λ (x : Entry A). Breaks m (before h (at - 1)) x 5) (the_same (slice_get h.entries (at - 1)) k.entry e k.there there ∙ is) k.breaks

  module _ (e : Entry A) (there : slice_get h.entries (at - 1) ≡ Some e) where
    pub no_take : (client : ℕ) (order : Order) (v : Verdict) → e ≡ Take client order v → ⊥
    no_take client order v is = take_in m (before h (at - 1)) 5 refl client order v (breaks_at e (Take client order v) there is)

    pub no_shut : (robot : ℕ) (farewell : Option ℕ) → e ≡ Shut robot farewell → ⊥
    no_shut robot farewell is = shut_in m (before h (at - 1)) 5 refl robot farewell (breaks_at e (Shut robot farewell) there is)

    pub as_many : (to : List ℕ) (arrived : List Arrival) (farewells : List Bye) → e ≡ Tick to arrived farewells → length to ≡ robots h
    as_many to arrived farewells is =
        let legal = (entry_at m h at 5 (λ bad. omega (arith, bad)) first).legal in
        (free_in m (before h (at - 1)) 5 refl to arrived farewells (breaks_at e (Tick to arrived farewells) there is)).same_length ∙ length-place m (before h (at - 1)) legal

  -- what is said of its arrivals is what there is to say
  pub arrivals_told : (to : List ℕ) (arrived : List Arrival) (farewells : List Bye) → slice_get h.entries (at - 1) ≡ Some (Tick to arrived farewells) → (d : Detail)
      → IsArrivalDetail (due (before h (at - 1)) to) (map due_of arrived) d → IsDetail m h at 5 d
  arrivals_told to arrived farewells there Nothing is = inl (refl, (to, arrived, farewells, there, is))
  arrivals_told to arrived farewells there (Due v) is = absurd is
  arrivals_told to arrived farewells there (Step fault) is = absurd is
  arrivals_told to arrived farewells there (MissingFarewell r) is = absurd is
  arrivals_told to arrived farewells there (ExtraFarewell r) is = absurd is
  arrivals_told to arrived farewells there (Clients n) is = absurd is
  arrivals_told to arrived farewells there (Robots n) is = absurd is
  arrivals_told to arrived farewells there ShutBefore is = absurd is
  arrivals_told to arrived farewells there (Opening part) is = absurd is
  arrivals_told to arrived farewells there (Stamp s) is = absurd is
  arrivals_told to arrived farewells there (Missing d) is = (refl, (to, arrived, farewells, there, is))
  arrivals_told to arrived farewells there (Extra d) is = (refl, (to, arrived, farewells, there, is))
