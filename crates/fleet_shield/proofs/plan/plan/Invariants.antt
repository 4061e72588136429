use Rattle.std.proofs.Common.{List, ℕ, length}
use Rattle.fleet_shield.specs.Wishes.{wishes}
use Rattle.fleet_shield.specs.inside.Board.{IsHolding}
use Rattle.fleet_shield.specs.inside.First.{IsBlank, IsOther}
use Rattle.fleet_shield.proofs.Choosing.{IsGoing, spare}
use Rattle.fleet_shield.proofs.Leading.{Leads}
use Rattle.fleet_shield.proofs.plan.plan.Given as goal

abbrev pub invariant-loop-next : goal.invariant-loop-next
invariant-loop-next l = record {
  holding : IsHolding (length l.scene.from.now) (length l.scene.standing.now) l.to l.holder;
  going : IsGoing (wishes l.scene.from.now l.scene.preferences) l.fn.to l.fn.tried l.robot l.to l.tried l.next;
  leads : IsBlank (wishes l.scene.from.now l.scene.preferences) l.fn.to l.fn.tried → (other : List ℕ) → IsOther (wishes l.scene.from.now l.scene.preferences) l.robot other
      → Leads (wishes l.scene.from.now l.scene.preferences) l.robot l.to l.tried l.next;
}

abbrev pub decreases-loop-next : goal.decreases-loop-next
decreases-loop-next l = spare l.scene.preferences.each l.tried
