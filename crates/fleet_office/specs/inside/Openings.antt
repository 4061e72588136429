-- A world that was just opened.
use Rattle.std.specs.Prelude.{ℕ, ◌≡◌, [], length}
use Rattle.fleet_history.specs.History.{clients, clock}
use Rattle.fleet_core.specs.Core.{World, pending}

-- no tick was made, nor any other entry, and no notice waits in a mailbox
pub record IsUnused {A : Type 0} (w : World A) : Type 0 where
  pub entries : w.history.entries ≡ []
  pub clock : clock w.history ≡ 0
  pub box_count : length w.mailboxes ≡ clients w.history
  pub boxes : (c : ℕ) → (pending w c).notices ≡ []
