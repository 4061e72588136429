-- What a world begins with, part by part.
use Rattle.std.specs.Prelude.{ℕ, ◌≡◌, ◌≤◌, [], List, None, replicate}
use Rattle.fleet_grid.specs.Floor.{Floor}
use Rattle.fleet_book.specs.declared.limits.Limits.{Limits}
use Rattle.fleet_history.specs.declared.history.Opening.{Opening}
use Rattle.fleet_history.specs.History.{start}
use Rattle.fleet_history.specs.Legal.{IsInOrder}
use Rattle.fleet_state.specs.State.{State, IsStateOf, HasFullRooms}
use Rattle.fleet_planner.specs.Aimed.{IsNewPlanner}
use Rattle.mover.specs.Moving.{Mover}
use Rattle.fleet_core.specs.Core.{opening_of}
use Rattle.fleet_core.specs.Hooks.{HookLaws, AreOrderly}
use Rattle.fleet_core.specs.inside.Kept.{IsKept}
use Rattle.fleet_core.specs.inside.Mailboxes.{Mailboxes}

-- with this many empty mailboxes, each with this room
pub record AreMeans (m : Floor) (robots clients room : ℕ) (p : Mover) (x : Mailboxes) : Type 0 where
  pub planner : IsNewPlanner m robots p.planner
  pub plain : p.turns ≡ None
  pub mailboxes : x ≡ record { boxes = replicate clients (record { notices = []; limit = room }); noticed = replicate clients 0 }

-- the opening, and the state at it
pub record IsOpened {A : Type 0} (starts : List ℕ) (clients : ℕ) (limits : Limits) (laws : HookLaws) (o : Opening A) (s : State A) : Type 0 where
  pub opening : o ≡ opening_of starts clients limits laws
  pub orderly : AreOrderly laws
  pub of : (m : Floor) → IsInOrder m o → IsStateOf m (start o) s
  pub full : s.queue ≤ limits.queue → HasFullRooms s

-- all of it, as a core keeps it
pub record IsBeginning {A : Type 0} (m : Floor) (starts : List ℕ) (clients : ℕ) (limits : Limits) (laws : HookLaws) (o : Opening A) (s : State A) (p : Mover) (x : Mailboxes) : Type 0 where
  pub plain : p.turns ≡ None
  pub opening : o ≡ opening_of starts clients limits laws
  pub mailboxes : x.boxes ≡ replicate clients (record { notices = []; limit = limits.mailbox })
  pub kept : IsKept m limits laws.ties 0 (start o) s p x
