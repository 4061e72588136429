-- A core's history keeps the bound on waits.
use Rattle.std.proofs.Common.{arith, ◌≡◌, ℕ, ◌<◌, ◌⊎◌, inl, inr, List, Option, Some, None, refl, sym, subst, ◌∙◌}
use Rattle.std.proofs.lemmas.List.{length-map}
use Rattle.std.proofs.lemmas.List.FromFn.{length-range_with_len}
use Rattle.std.specs.Prelude.{IfSome, MatchOption}
use Rattle.std.specs.List.{range_with_len}
use Rattle.fleet_grid.specs.Floor.{Floor, IsNeighbour}
use Rattle.fleet_grid.specs.Walk.{IsBridgeless}
use Rattle.fleet_hooks.specs.declared.law.TieLaw.{TieLaw}
use Rattle.fleet_book.specs.declared.limits.Limits.{Limits}
use Rattle.fleet_history.specs.declared.history.Opening.{Opening}
use Rattle.fleet_history.specs.History.{History, start, robots}
use Rattle.fleet_history.specs.Waits.{wait}
use Rattle.fleet_history.proofs.Legal.{legal-opening}
use Rattle.fleet_history.proofs.Withdrawals.{unfinished-start}
use Rattle.fleet_bound.specs.Bound.{KeepsBound, WaitsAreBounded}
use Rattle.fleet_bound.specs.Roomy.{AdvancesIfRoomy, HasBound}
use Rattle.fleet_bound.proofs.BoundLaws.{bound-empty, bound-legal, bound-short}
use Rattle.fleet_bound.proofs.Roomy.{roomy-ticks}
use Rattle.fleet_state.specs.State.{State}
use Rattle.fleet_pibt.specs.Eldest.{IsEldest}
use Rattle.fleet_pibt.specs.Order.{wait_of}
use Rattle.fleet_planner.proofs.Lists.{item_of}
use Rattle.fleet_planner.specs.Aimed.{IsIdle}
use Rattle.fleet_history.specs.Laws.{EachTick}
use Rattle.turns_law.specs.Turns.{Turns}
use Rattle.turns_history.specs.Kept.{IsLegalInTurns}
use Rattle.turns_history.proofs.Keeping.{kept-in-turns, below-in-turns}
use Rattle.mover.specs.Moving.{Mover, IsPlannedAs}
use Rattle.fleet_core.specs.Core.{ServesInTurns}
use Rattle.fleet_core.proofs.Manners.{plainly, plain-of}
use Rattle.fleet_planner.specs.Planned.{waits}
use Rattle.fleet_core.specs.Core.{opening_of}
use Rattle.fleet_core.specs.Hooks.{HookLaws, AreOrderly}
use Rattle.fleet_core.specs.inside.Kept.{IsKept}
use Rattle.fleet_core.specs.inside.Mailboxes.{Mailboxes}
use Rattle.fleet_core.specs.Opening.{CanOpen}
use Rattle.fleet_core.proofs.OpeningFacts.{legal-opened, unfinished-opened}

-- at the opening nobody waits
pub bound-opened : {A : Type 0} (m : Floor) (starts : List ℕ) (n : ℕ) (limits : Limits) (laws : HookLaws) → CanOpen m starts n limits laws → AreOrderly laws →
    KeepsBound {A = A} m (start (opening_of starts n limits laws))
bound-opened {A = A} m starts n limits laws can orderly =
    let o : Opening A = opening_of starts n limits laws in
    bound-empty m o (legal-opening m (start o) (legal-opened m starts n limits laws can orderly))
    (λ r l. sym (unfinished-start o r) ∙ unfinished-opened A starts n limits laws r)

module _ {A : Type 0} {m : Floor} {limits : Limits} {ties : List TieLaw} {number : ℕ} {h : History A} {s : State A} {p : Mover} {x : Mailboxes} (k : IsKept m limits ties number h s p x) where
  -- each tick advances if all errands go to roomy cells
  pub advances-kept : p.turns ≡ None → AdvancesIfRoomy m h
  advances-kept none = roomy-ticks m ties h k.is.legal (plainly m ties h p.turns none k.tied.planned)

  begins-kept : IsBridgeless (IsNeighbour m) ⊎ KeepsBound m (start h.opening) → KeepsBound m (start h.opening)
  begins-kept (inl none) = k.bounded none
  begins-kept (inr keeps) = keeps

  pub bound-kept : p.turns ≡ None → HasBound m h → KeepsBound m h
  bound-kept none has = bound-legal m h k.is.legal (advances-kept none has.roomy) (begins-kept has.begins)

  pub waits-kept : p.turns ≡ None → HasBound m h → WaitsAreBounded m h
  waits-kept none has = bound-short m h k.is.legal (bound-kept none has)

  -- the waits for served errands
  pub serves-kept : ServesInTurns p.turns m h
  serves-kept t l is are begins =
      let so : IsLegalInTurns m t ties h = record {
        legal = k.is.legal;
        planned = subst (λ (u : Option Turns). EachTick (IsPlannedAs u m ties) h) is k.tied.planned;
        early = omega (arith, k.within.clock, k.within.valid.clock.1);
      } in
      let keeps = kept-in-turns m t l ties h are so begins in
      (keeps, below-in-turns m t l h are so.legal so.early keeps)

  -- a map without bridges is planned plainly
  pub plain-kept : IsBridgeless (IsNeighbour m) → p.turns ≡ None
  plain-kept flat = plain-of m (robots h) p.turns k.turns flat

-- a wait, if there is one
pub if-below : (o : Option ℕ) (n : ℕ) → ((w : ℕ) → o ≡ Some w → w < n) → IfSome o (λ w. w < n)
if-below None n each = search
if-below (Some w) n each = each w refl

-- the robots of a list of waits are all
pub eldest-known : {A : Type 0} (h : History A) (e : ℕ) → IsEldest (waits h) e → e < robots h
eldest-known h e x = omega (arith, x.known, length-map (range_with_len 0 (robots h)) (wait h), length-range_with_len 0 (robots h))

-- the wait of the eldest
pub eldest-waits : {A : Type 0} (h : History A) (e : ℕ) (o : Option ℕ) → IsEldest (waits h) e → o ≡ wait h e →
    MatchOption o (IsIdle h) (λ w. (r : ℕ) × IsEldest (waits h) r × (wait h r ≡ Some w))
eldest-waits h e o x is =
    let same : wait_of (waits h) e ≡ wait h e = item_of (wait h) (robots h) e (eldest-known h e x) in
    let age : wait h e ≡ Some x.age = sym same ∙ x.waits in
    subst (λ p. MatchOption p (IsIdle h) (λ w. (r : ℕ) × IsEldest (waits h) r × (wait h r ≡ Some w))) (sym (is ∙ age)) (e, x, age)
