-- The entry whose farewells break the sixth rule.
use Rattle.std.proofs.Common.{◌≡◌, ◌∙◌, ℕ, ◌-◌, Bool, true, false, inl, inr, List, [], ◌∷◌, length, Option, Some, None, refl, sym, subst, arith, ◌==◌}
use Rattle.std.specs.Prelude.{slice_get, ◌||◌, MatchOption}
use Rattle.std.proofs.lemmas.Bool.{eq-eqb, eqb-true}
use Rattle.fleet_grid.specs.Floor.{Floor}
use Rattle.fleet_grid.specs.Step.{IsConflictFree}
use Rattle.fleet_book.specs.declared.order.Order.{Order}
use Rattle.fleet_book.specs.declared.verdict.Verdict.{Verdict}
use Rattle.fleet_history.specs.declared.history.Arrival.{Arrival}
use Rattle.fleet_history.specs.declared.history.Bye.{Bye}
use Rattle.fleet_history.specs.declared.history.Entry.{Entry}
use Rattle.fleet_history.specs.declared.history.Entry.TheVariants.{Take, Tick, Shut}
use Rattle.fleet_history.specs.History.{History, robots, place, unfinished}
use Rattle.fleet_history.specs.Legal.{IsLegal, is_none_left, robot_if}
use Rattle.fleet_history.proofs.Legal.{length-place}
use Rattle.fleet_trace.specs.Judged.{before, ShowsDue, ShowsFarewell, Breaks, IsFirstIllegal}
use Rattle.fleet_explain.specs.declared.detail.Detail.{Detail}
use Rattle.fleet_explain.specs.declared.detail.Detail.TheVariants.{Nothing, Due, Step, Missing, Extra, MissingFarewell, ExtraFarewell, Opening, Stamp, Clients, Robots, ShutBefore}
use Rattle.fleet_explain.specs.Only.{first_only, HasNoOther, IsOnlyIn}
use Rattle.fleet_explain.specs.Details.{same_robot, farewells_shown, farewells_due, IsFarewellDetail, IsTickDetail, shut_detail, IsDetail}
use Rattle.fleet_explain.proofs.AtEntry.{the_same, entry_at}
use Rattle.fleet_explain.proofs.Only.{only_read}

pub robots_read : (robots others : List ℕ) → MatchOption (first_only same_robot robots others) (HasNoOther same_robot robots others) (IsOnlyIn same_robot robots others)
robots_read = only_read same_robot (λ r. eq-eqb r r refl) eqb-true

-- ---- a shut's farewell, by whether its robot has no errand left

alone : (r : ℕ) → ((r == r) || false) ≡ true
alone r = rw (eq-eqb r r refl) refl

pub shut_missing : (b : Bool) (r : ℕ) → (false ≡ b → ⊥) → IsOnlyIn same_robot (robot_if b r) [] r
shut_missing false r bad = absurd (bad refl)
shut_missing true r bad = record { there = alone r; missing = refl }

pub shut_extra : (b : Bool) (r : ℕ) → (true ≡ b → ⊥) → IsOnlyIn same_robot (r ∷ []) (robot_if b r) r
shut_extra true r bad = absurd (bad refl)
shut_extra false r bad = record { there = alone r; missing = refl }

-- ---- what the sixth rule says of an entry

module _ {A : Type 0} (m : Floor) (h : History A) (rule : ℕ) (is : rule ≡ 6) where
  -- the step of a tick is free, and its arrivals are those that are due
  tick_in : (to : List ℕ) (arrived : List Arrival) (farewells : List Bye) → Breaks m h (Tick to arrived farewells) rule → IsConflictFree m (place h) to × ShowsDue h to arrived
  tick_in to arrived farewells (inl b) = absurd (omega (arith, b.0, is))
  tick_in to arrived farewells (inr (step, inl b)) = absurd (omega (arith, b.0, is))
  tick_in to arrived farewells (inr (step, inr (inl b))) = (step, b.1)
  tick_in to arrived farewells (inr (step, inr (inr b))) = absurd (omega (arith, b.0, is))

  shut_in : (robot : ℕ) (farewell : Option ℕ) → Breaks m h (Shut robot farewell) rule → ShowsFarewell h robot farewell → ⊥
  shut_in robot farewell (inl b) = absurd (omega (arith, b.0, is))
  shut_in robot farewell (inr (inl b)) = b.2
  shut_in robot farewell (inr (inr b)) = absurd (omega (arith, b.0, is))

  take_in : (client : ℕ) (order : Order) (v : Verdict) → Breaks m h (Take client order v) rule → ⊥
  take_in client order v (inl b) = omega (arith, b.0, is)
  take_in client order v (inr b) = omega (arith, b.0, is)

module _ {A : Type 0} (m : Floor) (h : History A) (at : ℕ) (first : IsFirstIllegal m h at 6) where
  breaks_at : (e f : Entry A) → slice_get h.entries (at - 1) ≡ Some e → e ≡ f → Breaks m (before h (at - 1)) f 6
  breaks_at e f there is =
      let k = entry_at m h at 6 (λ bad. omega (arith, bad)) first in
      subst (λ (x : Entry A). Breaks m (before h (at - 1)) x 6) (the_same (slice_get h.entries (at - 1)) k.entry e k.there there ∙ is) k.breaks

  pub legal_before : IsLegal m (before h (at - 1))
  legal_before = (entry_at m h at 6 (λ bad. omega (arith, bad)) first).legal

  module _ (e : Entry A) (there : slice_get h.entries (at - 1) ≡ Some e) where
    pub no_take : (client : ℕ) (order : Order) (v : Verdict) → e ≡ Take client order v → ⊥
    no_take client order v is = take_in m (before h (at - 1)) 6 refl client order v (breaks_at e (Take client order v) there is)

    module _ (to : List ℕ) (arrived : List Arrival) (farewells : List Bye) (is : e ≡ Tick to arrived farewells) where
      pub as_many : length to ≡ robots h
      as_many =
          let free = (tick_in m (before h (at - 1)) 6 refl to arrived farewells (breaks_at e (Tick to arrived farewells) there is)).0 in
          free.same_length ∙ length-place m (before h (at - 1)) legal_before

      pub shows_due : ShowsDue (before h (at - 1)) to arrived
      shows_due = (tick_in m (before h (at - 1)) 6 refl to arrived farewells (breaks_at e (Tick to arrived farewells) there is)).1

    -- what is said of its farewells is what there is to say
    pub farewell_told : (d : Detail) → IsFarewellDetail (farewells_due (before h (at - 1)) e) (farewells_shown e) d → IsDetail m h at 6 d
    farewell_told Nothing told = inr (refl, (e, there, told))
    farewell_told (Due v) told = absurd told
    farewell_told (Step fault) told = absurd told
    farewell_told (Missing d) told = absurd told
    farewell_told (Extra d) told = absurd told
    farewell_told (Clients n) told = absurd told
    farewell_told (Robots n) told = absurd told
    farewell_told ShutBefore told = absurd told
    farewell_told (Opening part) told = absurd told
    farewell_told (Stamp s) told = absurd told
    farewell_told (MissingFarewell r) told = (refl, (e, there, told))
    farewell_told (ExtraFarewell r) told = (refl, (e, there, told))

    pub tick_told : (to : List ℕ) (arrived : List Arrival) (farewells shown : List Bye) (taken : List ℕ) → e ≡ Tick to arrived farewells → taken ≡ to → shown ≡ farewells
        → (d : Detail) → IsTickDetail (before h (at - 1)) taken shown d → IsDetail m h at 6 d
    tick_told to arrived farewells shown taken is one other d told =
        let here : IsTickDetail (before h (at - 1)) to farewells d =
        subst (λ (p : List ℕ). IsTickDetail (before h (at - 1)) p farewells d) one (subst (λ (q : List Bye). IsTickDetail (before h (at - 1)) taken q d) other told) in
        farewell_told d
        (subst (λ (x : Entry A). IsFarewellDetail (farewells_due (before h (at - 1)) x) (farewells_shown x) d) (sym is) (here arrived (shows_due to arrived farewells is)))

    shut_missing_told : (robot : ℕ) → e ≡ Shut robot None → IsDetail m h at 6 (MissingFarewell robot)
    shut_missing_told robot is =
        let bad = shut_in m (before h (at - 1)) 6 refl robot None (breaks_at e (Shut robot None) there is) in
        farewell_told (MissingFarewell robot)
        (subst (λ (x : Entry A). IsOnlyIn same_robot (farewells_due (before h (at - 1)) x) (farewells_shown x) robot) (sym is)
        (shut_missing (is_none_left (unfinished (before h (at - 1)) robot)) robot bad))

    shut_extra_told : (robot stamp : ℕ) → e ≡ Shut robot (Some stamp) → IsDetail m h at 6 (ExtraFarewell robot)
    shut_extra_told robot stamp is =
        let bad = shut_in m (before h (at - 1)) 6 refl robot (Some stamp) (breaks_at e (Shut robot (Some stamp)) there is) in
        farewell_told (ExtraFarewell robot)
        (subst (λ (x : Entry A). IsOnlyIn same_robot (farewells_shown x) (farewells_due (before h (at - 1)) x) robot) (sym is)
        (shut_extra (is_none_left (unfinished (before h (at - 1)) robot)) robot bad))

    shut_by : (robot : ℕ) (farewell : Option ℕ) → e ≡ Shut robot farewell → IsDetail m h at 6 (shut_detail robot farewell)
    shut_by robot None is = shut_missing_told robot is
    shut_by robot (Some stamp) is = shut_extra_told robot stamp is

    pub shut_told : (robot : ℕ) (farewell : Option ℕ) → e ≡ Shut robot farewell → (d : Detail) → d ≡ shut_detail robot farewell → IsDetail m h at 6 d
    shut_told robot farewell is d same = subst (λ (x : Detail). IsDetail m h at 6 x) (sym same) (shut_by robot farewell is)
