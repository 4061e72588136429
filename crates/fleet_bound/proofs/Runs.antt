-- A continuation, entry by entry.
use Rattle.std.proofs.Common.{◌≡◌, ℕ, ◌+◌, List, [], ◌∷◌, ◌++◌, cond, sym, refl, ap, ◌∙◌, subst, arith}
use Rattle.std.specs.Prelude.{All}
use Rattle.std.proofs.lemmas.List.{append_assoc, append-nil}
use Rattle.std.proofs.lemmas.List.Elements.{All-head, All-tail}
use Rattle.fleet_grid.specs.Floor.{Floor}
use Rattle.fleet_bound.proofs.WaitCounts.{count_by-cons}
use Rattle.fleet_history.specs.declared.history.Entry.{Entry}
use Rattle.fleet_history.specs.declared.history.Entry.TheVariants.{Take, Tick, Shut}
use Rattle.fleet_history.specs.History.{History, after, robots, is_tick}
use Rattle.fleet_history.specs.Legal.{IsLegal, Fits}
use Rattle.fleet_history.proofs.Legal.{fits-at}
use Rattle.fleet_history.proofs.Places.{legal-before}
use Rattle.fleet_planner.specs.Planned.{IsAdvancingTick}
use Rattle.fleet_bound.specs.Onward.{onward, GoesOn, tick_count}

-- if the entry is a tick, it is advancing
abbrev pub IsAdvancingEntry : {A : Type 0} → Floor → History A → Entry A → Type 0
IsAdvancingEntry m h (Take client order verdict) = h ≡ h
IsAdvancingEntry m h (Tick to arrived farewells) = IsAdvancingTick m h to
IsAdvancingEntry m h (Shut robot farewell) = h ≡ h

-- from a history there came this one, by entries that each have the property and with this many ticks
pub data Run {A : Type 0} (m : Floor) (P : Entry A → Type 0) (from : History A) : History A → ℕ → Type 0 where
  stands : Run m P from from 0
  went : {h : History A} {ticks : ℕ} (g : History A) (more : ℕ) (e : Entry A) → Run m P from h ticks → IsLegal m h → Fits m h e → IsAdvancingEntry m h e → P e →
      g ≡ after h e → more ≡ ticks + cond (is_tick e) 1 0 → Run m P from g more

pub run-robots : {A : Type 0} {m : Floor} {P : Entry A → Type 0} {from h : History A} {t : ℕ} → Run m P from h t → robots h ≡ robots from
run-robots stands = refl
run-robots (went {h} g more e run legal fits advancing here same count) = ap robots same ∙ run-robots run

module _ {A : Type 0} (m : Floor) (h : History A) where
  -- one more entry, and then the others
  pub moved_over : (done : List (Entry A)) (e : Entry A) (rest : List (Entry A)) → done ++ e ∷ rest ≡ (done ++ e ∷ []) ++ rest
  moved_over done e rest = sym (append_assoc done (e ∷ []) rest)

  behind : (done : List (Entry A)) (e : Entry A) (rest : List (Entry A)) → h.entries ++ (done ++ e ∷ rest) ≡ (h.entries ++ done) ++ e ∷ rest
  behind done e rest = sym (append_assoc h.entries done (e ∷ rest))

  pub legal_at : (done : List (Entry A)) (e : Entry A) (rest : List (Entry A)) → IsLegal m (onward h (done ++ e ∷ rest)) → IsLegal m (onward h done)
  legal_at done e rest legal = legal-before m (onward h (done ++ e ∷ rest)) (h.entries ++ done) (e ∷ rest) legal (behind done e rest)

  pub fits_at : (done : List (Entry A)) (e : Entry A) (rest : List (Entry A)) → IsLegal m (onward h (done ++ e ∷ rest)) → Fits m (onward h done) e
  fits_at done e rest legal = fits-at m (onward h (done ++ e ∷ rest)) (h.entries ++ done) rest e legal (behind done e rest)

  advancing_at : (done : List (Entry A)) (e : Entry A) (rest : List (Entry A)) → GoesOn m h (done ++ e ∷ rest) → IsAdvancingEntry m (onward h done) e
  advancing_at done (Take client order verdict) rest goes = refl
  advancing_at done (Tick to arrived farewells) rest goes = goes.advancing done rest to arrived farewells refl
  advancing_at done (Shut robot farewell) rest goes = refl

  pub one_on : (done : List (Entry A)) (e : Entry A) → onward h (done ++ e ∷ []) ≡ after (onward h done) e
  one_on done e = ap (λ (es : List (Entry A)). record { opening = h.opening; entries = es }) (sym (append_assoc h.entries done (e ∷ [])))

  module _ (P : Entry A → Type 0) where
    go : (done rest : List (Entry A)) (t : ℕ) → GoesOn m h (done ++ rest) → All P rest → Run m P h (onward h done) t → Run m P h (onward h (done ++ rest)) (t + tick_count rest)
    go done [] t goes all run =
        subst (λ (es : List (Entry A)). Run m P h (onward h es) (t + 0)) (sym (append-nil done))
        (subst (λ (n : ℕ). Run m P h (onward h done) n) (let e : t ≡ t + 0 = omega arith in e) run)
    go done (e ∷ rest) t goes all run =
        let step : Run m P h (onward h (done ++ e ∷ [])) (t + cond (is_tick e) 1 0)
        = went (onward h (done ++ e ∷ [])) (t + cond (is_tick e) 1 0) e run (legal_at done e rest goes.legal) (fits_at done e rest goes.legal) (advancing_at done e rest goes) (All-head P e rest all) (one_on done e) refl in
        let over = moved_over done e rest in
        let last = go (done ++ e ∷ []) rest (t + cond (is_tick e) 1 0) (subst (λ (es : List (Entry A)). GoesOn m h es) over goes) (All-tail P e rest all) step in
        let count : t + cond (is_tick e) 1 0 + tick_count rest ≡ t + tick_count (e ∷ rest) = omega (arith, count_by-cons is_tick e rest) in
        subst (λ (es : List (Entry A)). Run m P h (onward h es) (t + tick_count (e ∷ rest))) (sym over)
        (subst (λ (n : ℕ). Run m P h (onward h ((done ++ e ∷ []) ++ rest)) n) count last)

    pub goes-run : (more : List (Entry A)) → GoesOn m h more → All P more → Run m P h (onward h more) (tick_count more)
    goes-run more goes all =
        let begin : Run m P h (onward h []) 0 = subst (λ (k : History A). Run m P h k 0) (sym (ap (λ (es : List (Entry A)). record { opening = h.opening; entries = es }) (append-nil h.entries))) stands in
        subst (λ (n : ℕ). Run m P h (onward h more) n) (let e : 0 + tick_count more ≡ tick_count more = omega arith in e) (go [] more 0 goes all begin)
