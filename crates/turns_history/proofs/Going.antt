-- A continuation in turns, entry by entry.
use Rattle.std.proofs.Common.{◌≡◌, ℕ, ◌+◌, List, [], ◌∷◌, ◌++◌, cond, sym, refl, ap, subst, arith}
use Rattle.std.proofs.lemmas.List.{append_assoc, append-nil}
use Rattle.fleet_grid.specs.Floor.{Floor}
use Rattle.fleet_hooks.specs.declared.law.TieLaw.{TieLaw}
use Rattle.fleet_history.specs.declared.history.Entry.{Entry}
use Rattle.fleet_history.specs.declared.history.Entry.TheVariants.{Take, Tick, Shut}
use Rattle.fleet_history.specs.History.{History, after, robots, is_tick}
use Rattle.fleet_history.specs.Legal.{IsLegal, Fits}
use Rattle.fleet_history.proofs.Places.{legal-before}
use Rattle.fleet_bound.specs.Onward.{onward, tick_count}
use Rattle.fleet_bound.proofs.Runs.{moved_over, legal_at, fits_at, one_on}
use Rattle.fleet_bound.proofs.WaitCounts.{count_by-cons}
use Rattle.turns_law.specs.Turns.{Turns}
use Rattle.turns_history.specs.Fleets.{TurnLimits, AreTurnsFor, IsEarly, IsEntryInTurns}
use Rattle.turns_history.specs.Arriving.{GoesOnInTurns}
use Rattle.turns_history.proofs.Keeping.{early-prefix}

module _ {A : Type 0} (m : Floor) (t : Turns) (l : TurnLimits) (laws : List TieLaw) (from : History A) where
  early-at : (done rest : List (Entry A)) → IsEarly (onward from (done ++ rest)) → IsEarly (onward from done)
  early-at done rest early = early-prefix (onward from (done ++ rest)) (from.entries ++ done) rest (sym (append_assoc from.entries done rest)) early

  planned-at : (done : List (Entry A)) (e : Entry A) (rest : List (Entry A)) → GoesOnInTurns m t laws from (done ++ e ∷ rest) → IsEntryInTurns m t laws (onward from done) e
  planned-at done (Take c order v) rest goes = tt
  planned-at done (Tick to shown farewells) rest goes = goes.planned done rest to shown farewells refl
  planned-at done (Shut robot farewell) rest goes = tt

  none-yet : onward from [] ≡ from
  none-yet = ap (λ (es : List (Entry A)). record { opening = from.opening; entries = es }) (append-nil from.entries)

  -- what went before is legal, and early
  pub began : AreTurnsFor m t l (robots from) → (more : List (Entry A)) → GoesOnInTurns m t laws from more → IsLegal m from × IsEarly from
  began are more goes = (
    subst (λ (k : History A). IsLegal m k) none-yet (legal-before m (onward from more) (from.entries ++ []) more goes.legal (sym (append_assoc from.entries [] more))),
    subst (λ (k : History A). IsEarly k) none-yet (early-at [] more goes.early),
  )

  -- what each entry keeps holds at the end
  module _ (P : ℕ → History A → Type 0)
      (step : (now : History A) (ticks : ℕ) (e : Entry A) → robots now ≡ robots from → IsLegal m now → Fits m now e → IsEarly (after now e) → IsEntryInTurns m t laws now e → P ticks now → P (ticks + cond (is_tick e) 1 0) (after now e)) where
    go : (done rest : List (Entry A)) (ticks : ℕ) → GoesOnInTurns m t laws from (done ++ rest) → P ticks (onward from done) → P (ticks + tick_count rest) (onward from (done ++ rest))
    go done [] ticks goes it =
        let same : ticks ≡ ticks + 0 = omega arith in
        subst (λ (es : List (Entry A)). P (ticks + 0) (onward from es)) (sym (append-nil done)) (subst (λ (n : ℕ). P n (onward from done)) same it)
    go done (e ∷ rest) ticks goes it =
        let over = moved_over m from done e rest in
        let goes' = subst (λ (es : List (Entry A)). GoesOnInTurns m t laws from es) over goes in
        let early : IsEarly (after (onward from done) e) = subst (λ (k : History A). IsEarly k) (one_on m from done e) (early-at (done ++ e ∷ []) rest goes'.early) in
        let next = step (onward from done) ticks e refl (legal_at m from done e rest goes.legal) (fits_at m from done e rest goes.legal) early (planned-at done e rest goes) it in
        let last = go (done ++ e ∷ []) rest (ticks + cond (is_tick e) 1 0) goes' (subst (λ (k : History A). P (ticks + cond (is_tick e) 1 0) k) (sym (one_on m from done e)) next) in
        let count : ticks + cond (is_tick e) 1 0 + tick_count rest ≡ ticks + tick_count (e ∷ rest) = omega (arith, count_by-cons is_tick e rest) in
        subst (λ (es : List (Entry A)). P (ticks + tick_count (e ∷ rest)) (onward from es)) (sym over) (subst (λ (n : ℕ). P n (onward from ((done ++ e ∷ []) ++ rest))) count last)

    pub all-entries : (more : List (Entry A)) → GoesOnInTurns m t laws from more → P 0 from → P (tick_count more) (onward from more)
    all-entries more goes it =
        let same : 0 + tick_count more ≡ tick_count more = omega arith in
        subst (λ (n : ℕ). P n (onward from more)) same (go [] more 0 goes (subst (λ (k : History A). P 0 k) (sym none-yet) it))
