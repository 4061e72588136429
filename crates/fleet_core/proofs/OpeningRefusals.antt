-- Why an opening is refused: for one reason at most.
use Rattle.std.proofs.Common.{◌≡◌, ℕ, ◌↔◌, List, sym, refl, ap, ◌∙◌, subst, arith, inl, inr, Ok, Err, Result}
use Rattle.std.proofs.lemmas.Bool.{cases_order}
use Rattle.fleet_grid.specs.Floor.{Floor}
use Rattle.fleet_book.specs.declared.limits.Limits.{Limits}
use Rattle.fleet_core.specs.Hooks.{HookLaws}
use Rattle.fleet_core.specs.Opening.{CanOpen}
use Rattle.fleet_core.specs.declared.faults.OpenFault.{OpenFault}
use Rattle.fleet_core.specs.declared.faults.OpenFault.TheVariants as fault
use Rattle.fleet_core.specs.OpeningFaults.{IsRefused, IsNamed}

-- an opening is refused for one reason at most
same_refused : (m : Floor) (starts : List ℕ) (n : ℕ) (limits : Limits) (laws : HookLaws) (e f : OpenFault) → IsRefused m starts n limits laws e → IsRefused m starts n limits laws f → e ≡ f
same_refused m starts n limits laws fault.Limits fault.Limits p q = refl
same_refused m starts n limits laws fault.Limits fault.NoRobots p q = absurd (p q.0)
same_refused m starts n limits laws fault.Limits (fault.Start r) p q = absurd (p q.0)
same_refused m starts n limits laws fault.Limits (fault.Shared i j) p q = absurd (p q.0)
same_refused m starts n limits laws fault.NoRobots fault.Limits p q = absurd (q p.0)
same_refused m starts n limits laws fault.NoRobots fault.NoRobots p q = refl
same_refused m starts n limits laws fault.NoRobots (fault.Start r) p q = absurd (p.1 q.1)
same_refused m starts n limits laws fault.NoRobots (fault.Shared i j) p q = absurd (p.1 q.1)
same_refused m starts n limits laws (fault.Start r) fault.Limits p q = absurd (q p.0)
same_refused m starts n limits laws (fault.Start r) fault.NoRobots p q = absurd (q.1 p.1)
same_refused m starts n limits laws (fault.Start r) (fault.Start k) p q =
    elim (cases_order r k) [
      | inl e ↦ ap fault.Start e
      | inr o ↦ elim o [ inl l ↦ absurd (p.2.off (q.2.before r l)) | inr l ↦ absurd (q.2.off (p.2.before k l)) ]
    ]
same_refused m starts n limits laws (fault.Start r) (fault.Shared i j) p q = absurd (p.2.off (q.2 r p.2.known))
same_refused m starts n limits laws (fault.Shared i j) fault.Limits p q = absurd (q p.0)
same_refused m starts n limits laws (fault.Shared i j) fault.NoRobots p q = absurd (q.1 p.1)
same_refused m starts n limits laws (fault.Shared i j) (fault.Start r) p q = absurd (q.2.off (p.2 r q.2.known))
same_refused m starts n limits laws (fault.Shared i j) (fault.Shared k l) p q =
    elim (p.3.least k l q.3.shared) [
      | inl a ↦ elim (q.3.least i j p.3.shared) [ inl b ↦ absurd (omega arith) | inr b ↦ absurd (omega (arith, b.0)) ]
      | inr a ↦ elim (q.3.least i j p.3.shared) [
        | inl b ↦ absurd (omega (arith, a.0))
        | inr b ↦ (let s : i ≡ k = a.0 in let t : j ≡ l = omega (arith, a.1, b.1) in ap (λ x. fault.Shared x j) s ∙ ap (λ x. fault.Shared k x) t)
      ]
    ]
same_refused m starts n limits laws fault.Hooks fault.Limits p q = absurd (q p.0)
same_refused m starts n limits laws fault.Hooks fault.NoRobots p q = absurd (q.1 p.1)
same_refused m starts n limits laws fault.Hooks (fault.Start r) p q = absurd (q.2.off (p.2.on_floor r q.2.known))
same_refused m starts n limits laws fault.Hooks (fault.Shared i j) p q = absurd (p.2.distinct i j q.3.shared.before q.3.shared.known q.3.shared.same)
same_refused m starts n limits laws fault.Hooks fault.Hooks p q = refl
same_refused m starts n limits laws fault.Limits fault.Hooks p q = absurd (p q.0)
same_refused m starts n limits laws fault.NoRobots fault.Hooks p q = absurd (p.1 q.1)
same_refused m starts n limits laws (fault.Start r) fault.Hooks p q = absurd (p.2.off (q.2.on_floor r p.2.known))
same_refused m starts n limits laws (fault.Shared i j) fault.Hooks p q = absurd (q.2.distinct i j p.3.shared.before p.3.shared.known p.3.shared.same)
same_refused m starts n limits laws e fault.NoMemory p q = absurd q
same_refused m starts n limits laws fault.NoMemory f p q = absurd p

pub not_refused : (m : Floor) (starts : List ℕ) (n : ℕ) (limits : Limits) (laws : HookLaws) (f : OpenFault) → CanOpen m starts n limits laws → IsRefused m starts n limits laws f → ⊥
not_refused m starts n limits laws fault.Limits can p = p can.range
not_refused m starts n limits laws fault.NoRobots can p = p.1 can.robots
not_refused m starts n limits laws (fault.Start r) can p = p.2.off (can.placed.on_floor r p.2.known)
not_refused m starts n limits laws (fault.Shared i j) can p = can.placed.distinct i j p.3.shared.before p.3.shared.known p.3.shared.same
not_refused m starts n limits laws fault.Hooks can p = p.3 can.hooks
not_refused m starts n limits laws fault.NoMemory can p = p

abbrev pub Answers : (X : Type 0) → Result X OpenFault → OpenFault → Type 0
Answers X r f = r ≡ Err f

-- the answer is the refusal that stands
pub refused-err : {X : Type 0} (m : Floor) (starts : List ℕ) (n : ℕ) (limits : Limits) (laws : HookLaws) (e f : OpenFault) → IsRefused m starts n limits laws e →
    Answers X (Err e) f ↔ IsRefused m starts n limits laws f
refused-err m starts n limits laws e f p =
    (λ s. (let t : e ≡ f = cc in subst (IsRefused m starts n limits laws) t p), λ q. ap Err (same_refused m starts n limits laws e f p q))

pub refused-ok : {X : Type 0} (m : Floor) (starts : List ℕ) (n : ℕ) (limits : Limits) (laws : HookLaws) (x : X) (f : OpenFault) → CanOpen m starts n limits laws →
    Answers X (Ok x) f ↔ IsRefused m starts n limits laws f
refused-ok m starts n limits laws x f can = (λ s. cc, λ q. absurd (not_refused m starts n limits laws f can q))

pub refused-memory : {X : Type 0} (m : Floor) (starts : List ℕ) (n : ℕ) (limits : Limits) (laws : HookLaws) (f : OpenFault) → IsNamed f → CanOpen m starts n limits laws →
    Answers X (Err fault.NoMemory) f ↔ IsRefused m starts n limits laws f
refused-memory m starts n limits laws f named can =
    (λ s. (let t : fault.NoMemory ≡ f = cc in absurd (subst IsNamed (sym t) named)), λ q. absurd (not_refused m starts n limits laws f can q))
