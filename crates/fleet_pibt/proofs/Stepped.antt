-- A step from its parts: the order, the whole plan, and the cells that were written out.
use Rattle.std.proofs.Common.{◌≡◌, ◌≢◌, ℕ, ◌<◌, Option, Some, None, List, length, slice_index, slice_get, sym, refl, ap, arith}
use Rattle.fleet_hooks.specs.declared.law.TieLaw.{TieLaw}
use Rattle.fleet_pibt.specs.Advancing.{Advances}
use Rattle.fleet_pibt.specs.Door.{HasWayWithDoor, IsByLawWithDoor, IsSteppedWithDoor}
use Rattle.fleet_pibt.specs.Eldest.{IsEldest}
use Rattle.fleet_pibt.specs.inside.Entry.{table, IsEmpty}
use Rattle.fleet_pibt.specs.Goals.{AreGoals}
use Rattle.fleet_pibt.specs.Order.{IsOrder}
use Rattle.fleet_pibt.specs.inside.Setting.{Setting, robots, IsScene, IsPlanned, IsChosen, NamesAll}
use Rattle.fleet_pibt.specs.inside.Tables.{IsTaken}
use Rattle.fleet_pibt.proofs.Ordered.{order-names, eldest-first}
use Rattle.fleet_pibt.proofs.Theorem.{conflict-free, passes, purposeful, advances-at, by-law-at}

written : (o : Option ℕ) → o ≢ None → (v : ℕ) → ((d : ℕ) → o ≡ Some d → v ≡ d) → o ≡ Some v
written None ne v h = absurd (ne refl)
written (Some d) ne v h = ap Some (sym (h d refl))

-- a whole plan, as it is written out
pub chosen-from : (s : Setting) (queue : List ℕ) (target0 holder0 target holder : List (Option ℕ)) (to : List ℕ) → IsEmpty target0 → IsEmpty holder0 → IsPlanned s target0 holder0 target holder queue (length queue) →
    ((r : ℕ) → r < robots s → table target r ≢ None) → length to ≡ robots s → IsTaken target to (length to) → IsChosen s queue to
chosen-from s queue target0 holder0 target holder to no-target no-holder planned decided same taken = (
  target,
  holder,
  target0,
  holder0,
  no-target,
  no-holder,
  planned,
  λ r l. written (table target r) (decided r l) (slice_index to r) (λ d e. taken r d (omega arith) e),
)

module _ (s : Setting) (scene : IsScene s) (waits : List (Option ℕ)) (waited : length waits ≡ robots s) (are : AreGoals s.floor s.from waits s.goals s.distance) (queue : List ℕ) (order : IsOrder waits queue)
    (to : List ℕ) (same : length to ≡ robots s) (chosen : IsChosen s queue to) where
  stepped-names : NamesAll s queue
  stepped-names = order-names s waits queue waited order

  stepped-advances : (e g : ℕ) → IsEldest waits e → s.goals e ≡ Some g → HasWayWithDoor s.floor s.door s.from g (slice_index s.from e) → Advances s.floor g (slice_index s.from e) (slice_index to e)
  stepped-advances e g eldest is = advances-at s scene waits are queue to same stepped-names chosen e g (eldest-first waits queue order e eldest) is

  stepped-by_law : (e g : ℕ) (law : TieLaw) → IsEldest waits e → s.goals e ≡ Some g → HasWayWithDoor s.floor s.door s.from g (slice_index s.from e) → slice_get s.laws e ≡ Some law →
      IsByLawWithDoor s.floor s.door law g (slice_index s.from e) (slice_index to e)
  stepped-by_law e g law eldest is ahead at = by-law-at s scene waits are queue to same stepped-names chosen e g (eldest-first waits queue order e eldest) is ahead law at

  pub stepped : IsSteppedWithDoor s.floor s.door waits s.goals s.laws s.from to
  stepped = record {
    conflict_free = conflict-free s scene waits are queue to same stepped-names chosen;
    passes = passes s scene waits are queue to same stepped-names chosen;
    purposeful = purposeful s scene waits are queue to same stepped-names chosen;
    advances = stepped-advances;
    by_law = stepped-by_law;
  }
