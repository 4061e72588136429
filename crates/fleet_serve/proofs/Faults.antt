-- When a serve answers a fault of its opening.
use Rattle.std.proofs.Common.{◌≡◌, ◌∙◌, ℕ, inl, List, Option, Some, None, Result, Ok, Err, refl, sym, ap, subst}
use Rattle.std.specs.Prelude.{◌⊎◌, ◌↔◌, IfErr}
use Rattle.fleet_grid.specs.Floor.{Floor}
use Rattle.fleet_book.specs.declared.limits.Limits.{Limits}
use Rattle.fleet_core.specs.Hooks.{HookLaws}
use Rattle.fleet_core.specs.Opening.{AreInRange}
use Rattle.fleet_core.specs.declared.faults.OpenFault.{OpenFault}
use Rattle.fleet_core.specs.declared.faults.OpenFault.TheVariants as open_fault
use Rattle.fleet_core.specs.OpeningFaults.{IsRefused, IsNamed}
use Rattle.fleet_serve.specs.declared.served.ServeFault.{ServeFault}
use Rattle.fleet_serve.specs.declared.served.ServeFault.TheVariants.{Opening, NoMemory}
use Rattle.fleet_office.specs.declared.report.TurnCause.{TurnCause}
use Rattle.fleet_serve.specs.inside.Faults.{IsLater, fault_of}

-- a fault after the opening is none of it
pub later-none : {S : Type 0} (r : Result S ServeFault) (f : OpenFault) → IfErr r (λ x. IsLater x) → r ≡ Err (Opening f) → ⊥
later-none r f later is = subst (λ x. IfErr x (λ y. IsLater y)) is later

module _ (m : Floor) (starts : List ℕ) (clients : ℕ) (limits : Limits) (laws : HookLaws) where
  pub refused-named : (f : OpenFault) → IsRefused m starts clients limits laws f → IsNamed f
  refused-named open_fault.Limits why = tt
  refused-named open_fault.NoRobots why = tt
  refused-named (open_fault.Start r) why = tt
  refused-named (open_fault.Shared i j) why = tt
  refused-named open_fault.Hooks why = tt
  refused-named open_fault.NoMemory why = why

  -- any other reason than the limits stands after them
  pub out-of-range : (f : OpenFault) → (AreInRange clients limits → ⊥) → IsRefused m starts clients limits laws f → f ≡ open_fault.Limits
  out-of-range open_fault.Limits bad why = refl
  out-of-range open_fault.NoRobots bad why = absurd (bad why.0)
  out-of-range (open_fault.Start r) bad why = absurd (bad why.0)
  out-of-range (open_fault.Shared i j) bad why = absurd (bad why.0)
  out-of-range open_fault.Hooks bad why = absurd (bad why.0)
  out-of-range open_fault.NoMemory bad why = absurd why

-- the reasons by other names of what is opened
module _ (m : Floor) (starts others : List ℕ) (clients count : ℕ) (limits same : Limits) (laws : HookLaws) (s : others ≡ starts) (c : count ≡ clients) (l : same ≡ limits) where
  pub by-names : (f : OpenFault) → IsRefused m others count same laws f → IsRefused m starts clients limits laws f
  by-names f why = subst (λ (x : Limits). IsRefused m starts clients x laws f) l (subst (λ (x : ℕ). IsRefused m starts x same laws f) c (subst (λ (x : List ℕ). IsRefused m x count same laws f) s why))

  pub to-names : (f : OpenFault) → IsRefused m starts clients limits laws f → IsRefused m others count same laws f
  to-names f why = subst (λ (x : List ℕ). IsRefused m x count same laws f) (sym s) (subst (λ (x : ℕ). IsRefused m starts x same laws f) (sym c) (subst (λ (x : Limits). IsRefused m starts clients x laws f) (sym l) why))

  -- an office that is not opened
  pub opens-err : {S P : Type 0} (fault : OpenFault) (told : ServeFault) → ((f : OpenFault) → IsNamed f → ((◌≡◌ {A = Result P OpenFault} (Err fault) (Err f)) ↔ IsRefused m others count same laws f))
      → (IsNamed fault → told ≡ Opening fault) → (f : OpenFault) → IsRefused m starts clients limits laws f
      → (◌≡◌ {A = Result S ServeFault} (Err told) (Err (Opening f))) ⊎ (◌≡◌ {A = Result S ServeFault} (Err told) (Err NoMemory))
  opens-err {S} {P} fault told exact is f why =
      let n : IsNamed f = refused-named m starts clients limits laws f why in
      let e : ◌≡◌ {A = Result P OpenFault} (Err fault) (Err f) = (exact f n).1 (to-names f why) in
      let q : fault ≡ f = cc in
      inl (ap (λ (x : ServeFault). Err x) (is (subst (λ (x : OpenFault). IsNamed x) (sym q) n) ∙ ap (λ (x : OpenFault). Opening x) q))

  pub refused-err : {S P : Type 0} (fault : OpenFault) (told : ServeFault) → ((f : OpenFault) → IsNamed f → ((◌≡◌ {A = Result P OpenFault} (Err fault) (Err f)) ↔ IsRefused m others count same laws f))
      → ((f : OpenFault) → told ≡ Opening f → (f ≡ fault) × IsNamed fault) → (f : OpenFault) → ◌≡◌ {A = Result S ServeFault} (Err told) (Err (Opening f)) → IsRefused m starts clients limits laws f
  refused-err {S} {P} fault told exact only f is =
      let q : told ≡ Opening f = cc in
      let o = only f q in
      subst (λ (x : OpenFault). IsRefused m starts clients limits laws x) (sym o.0) (by-names fault ((exact fault o.1).0 refl))

  -- one that is
  pub opens-ok : {P : Type 0} (opened : P) → ((f : OpenFault) → IsNamed f → ((◌≡◌ {A = Result P OpenFault} (Ok opened) (Err f)) ↔ IsRefused m others count same laws f))
      → (f : OpenFault) → IsRefused m starts clients limits laws f → ⊥
  opens-ok {P} opened exact f why =
      let e : ◌≡◌ {A = Result P OpenFault} (Ok opened) (Err f) = (exact f (refused-named m starts clients limits laws f why)).1 (to-names f why) in
      absurd cc

-- what turns that are refused for the tickers' cause come to
pub record Refuses (f s stopped : Option TurnCause) (r : Result (Unit {0}) ServeFault) : Type 0 where
  pub first : (cause : TurnCause) → f ≡ Some cause → stopped ≡ Some cause
  pub second : f ≡ None → stopped ≡ s
  pub refused : (cause : TurnCause) → stopped ≡ Some cause → r ≡ Err (fault_of cause)

module _ (f s stopped : Option TurnCause) (r : Result (Unit {0}) ServeFault) (h : Refuses f s stopped r) where
  unnamed : {P : Type 0} (u : Unit {0}) (cause : TurnCause) → r ≡ Ok u → stopped ≡ Some cause → P
  unnamed {P} u cause is stop =
      let both : ◌≡◌ {A = Result (Unit {0}) ServeFault} (Ok u) (Err (fault_of cause)) = sym is ∙ h.refused cause stop in
      absurd cc

  pub first-none : {P : Type 0} (u : Unit {0}) → r ≡ Ok u → (cause : TurnCause) → f ≡ Some cause → P
  first-none u is cause own = unnamed u cause is (h.first cause own)

  pub second-none : {P : Type 0} (u : Unit {0}) → r ≡ Ok u → (cause : TurnCause) → f ≡ None → s ≡ Some cause → P
  second-none u is cause none own = unnamed u cause is (h.second none ∙ own)

module _ {S : Type 0} (f s stopped : Option TurnCause) (r : Result (Unit {0}) ServeFault) (h : Refuses f s stopped r) where
  named : (fault : ServeFault) (cause : TurnCause) → r ≡ Err fault → stopped ≡ Some cause → ◌≡◌ {A = Result S ServeFault} (Err fault) (Err (fault_of cause))
  named fault cause is stop =
      let both : ◌≡◌ {A = Result (Unit {0}) ServeFault} (Err fault) (Err (fault_of cause)) = sym is ∙ h.refused cause stop in
      let same : fault ≡ fault_of cause = cc in
      ap (λ (x : ServeFault). Err x) same

  pub first-named : (fault : ServeFault) → r ≡ Err fault → (cause : TurnCause) → f ≡ Some cause → ◌≡◌ {A = Result S ServeFault} (Err fault) (Err (fault_of cause))
  first-named fault is cause own = named fault cause is (h.first cause own)

  pub second-named : (fault : ServeFault) → r ≡ Err fault → (cause : TurnCause) → f ≡ None → s ≡ Some cause → ◌≡◌ {A = Result S ServeFault} (Err fault) (Err (fault_of cause))
  second-named fault is cause none own = named fault cause is (h.second none ∙ own)
