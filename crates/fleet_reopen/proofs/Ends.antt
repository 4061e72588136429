-- From a chapter to the one that follows.
use Rattle.std.proofs.Common.{◌≡◌, ℕ, ◌+◌, ◌<◌, ◌≤◌, map, sym, subst, ◌∙◌, arith}
use Rattle.std.proofs.lemmas.List.{length-map, ext_get_or}
use Rattle.fleet_grid.specs.Floor.{Floor}
use Rattle.fleet_book.specs.declared.limits.Limits.{Limits}
use Rattle.fleet_book.specs.Limits.{AreValid}
use Rattle.fleet_history.specs.declared.history.Opening.{Opening}
use Rattle.fleet_history.specs.declared.history.RobotState.{RobotState}
use Rattle.fleet_history.specs.History.{History, start, clock}
use Rattle.fleet_history.specs.Legal.{IsLegal, no_law}
use Rattle.fleet_history.specs.Next.{next_opening, HasRoomForCounts}
use Rattle.fleet_history.proofs.Chapters.{chapters-next, chapters-room}
use Rattle.fleet_history.proofs.InOrder.{next-legal}
use Rattle.fleet_history.proofs.Legal.{legal-opening}
use Rattle.fleet_history.proofs.Next.{next-robots, start-arrival_law, start-farewell_law}
use Rattle.fleet_core.specs.Hooks.{HookLaws}
use Rattle.fleet_core.specs.Resuming.{AreLawsAt, BeginsWithinBound, CanResume}
use Rattle.fleet_reopen.specs.declared.fault.ReopenFault.{ReopenFault}
use Rattle.fleet_reopen.specs.declared.fault.ReopenFault.TheVariants as fault
use Rattle.fleet_reopen.specs.Reopening.{CanReopen, IsFollowed, IsReopenFault}
use Rattle.fleet_reopen.specs.Room.{WaitTooLong}
use Rattle.fleet_reopen.specs.inside.Followed.{IsCounted, IsFit, IsMisfit}

pub room-counts : {A : Type 0} (h : History A) (number : ℕ) (limits : Limits) → AreValid limits → IsCounted limits number h → HasRoomForCounts h
room-counts h number limits valid k =
    chapters-room h number limits.chapter k.taken k.entries (omega (arith, k.numbered, valid.chapters.1)) (omega (arith, valid.chapter.1))

pub is-followed : {A : Type 0} (h : History A) (number : ℕ) (limits : Limits) → IsCounted limits number h → clock h ≤ limits.clock → IsFollowed limits number h
is-followed h number limits k early = record { clock = early; numbered = k.numbered; entries = k.entries; taken = k.taken }

pub is-counted : {A : Type 0} (h : History A) (number : ℕ) (limits : Limits) → IsFollowed limits number h → IsCounted limits number h
is-counted h number limits k = record { tick = omega (arith, k.clock); numbered = k.numbered; entries = k.entries; taken = k.taken }

-- the chapter that follows has the same laws
laws_next : {A : Type 0} (h : History A) (laws : HookLaws) → AreLawsAt h.opening laws → AreLawsAt (next_opening h) laws
laws_next {A = A} h laws are =
    let arrivals = λ (x : RobotState A). x.arrival_law in
    let farewells = λ (x : RobotState A). x.farewell_law in
    record {
      ties = are.ties ∙ sym (next-robots h);
      arrivals = are.arrivals ∙ sym (ext_get_or no_law (map arrivals (next_opening h).robots) (map arrivals h.opening.robots)
          (length-map (next_opening h).robots arrivals ∙ next-robots h ∙ sym (length-map h.opening.robots arrivals))
          (λ r l. start-arrival_law h r (omega (arith, l, length-map (next_opening h).robots arrivals, next-robots h))));
      farewells = are.farewells ∙ sym (ext_get_or no_law (map farewells (next_opening h).robots) (map farewells h.opening.robots)
          (length-map (next_opening h).robots farewells ∙ next-robots h ∙ sym (length-map h.opening.robots farewells))
          (λ r l. start-farewell_law h r (omega (arith, l, length-map (next_opening h).robots farewells, next-robots h))));
    }

-- a world can go on from the opening of the chapter that follows
pub can-resume : {A : Type 0} (m : Floor) (number : ℕ) (h : History A) (limits : Limits) (laws : HookLaws) → CanReopen m number h limits laws → CanResume m (number + 1) (next_opening h) limits laws
can-resume m number h limits laws can = record {
  valid = can.valid;
  order = legal-opening m (start (next_opening h)) (next-legal m h can.legal (room-counts h number limits can.valid (is-counted h number limits can.followed)));
  hooks = laws_next h laws can.hooks;
  same = record { queue = can.same.queue; life = can.same.life };
  within = record {
    clock = can.followed.clock;
    numbered = can.followed.numbered;
    taken = chapters-next h number limits.chapter can.followed.taken can.followed.entries;
  };
  bounded = can.bounded;
}

pub can-reopened : {A : Type 0} (m : Floor) (number next : ℕ) (h : History A) (o : Opening A) (limits : Limits) (laws : HookLaws) → next ≡ number + 1 → o ≡ next_opening h → CanReopen m number h limits laws → CanResume m next o limits laws
can-reopened m number next h o limits laws one is can =
    subst (λ (n : ℕ). CanResume m n o limits laws) (sym one) (subst (λ (p : Opening _). CanResume m (number + 1) p limits laws) (sym is) (can-resume m number h limits laws can))

-- ---- why a world does not go on

module _ {A : Type 0} (m : Floor) (number : ℕ) (h : History A) (limits : Limits) (laws : HookLaws) (valid : AreValid limits) (legal : IsLegal m h) where
  pub misfit-fault : (f : ReopenFault) → IsMisfit number h limits laws f → IsReopenFault m number h limits laws f
  misfit-fault fault.Limits is = absurd is
  misfit-fault (fault.Illegal at rule) is = absurd is
  misfit-fault fault.Laws is = (valid, legal, is)
  misfit-fault fault.Differs is = (valid, legal, is.0, is.1)
  misfit-fault fault.Spent is = (valid, legal, is.0, is.1, λ followed. is.2 (is-counted h number limits followed))
  misfit-fault fault.Waits is = absurd is
  misfit-fault fault.NoMemory is = absurd is

  module _ (fit : IsFit number h limits laws) where
    pub late-fault : (clocked : ℕ) → clocked ≡ clock h → limits.clock < clocked → IsReopenFault m number h limits laws fault.Spent
    late-fault clocked is late = (valid, legal, fit.hooks, fit.same, λ followed. omega (arith, is, late, followed.clock))

    pub waits-fault : (clocked : ℕ) → clocked ≡ clock h → clocked ≤ limits.clock → WaitTooLong m (start (next_opening h)) → IsReopenFault m number h limits laws fault.Waits
    waits-fault clocked is early long = (valid, legal, fit.hooks, fit.same, is-followed h number limits fit.counted (omega (arith, is, early)), long)

    pub can-reopen : (clocked : ℕ) → clocked ≡ clock h → clocked ≤ limits.clock → BeginsWithinBound m (next_opening h) → CanReopen m number h limits laws
    can-reopen clocked is early bounded = record {
      valid = valid;
      legal = legal;
      hooks = fit.hooks;
      same = fit.same;
      followed = is-followed h number limits fit.counted (omega (arith, is, early));
      bounded = bounded;
    }
