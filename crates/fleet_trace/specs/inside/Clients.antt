-- What an opening in order asks of its clients.
use Rattle.std.specs.Prelude.{ℕ, ◌<◌, length, slice_index_or}
use Rattle.fleet_history.specs.declared.history.Opening.{Opening}
use Rattle.fleet_history.specs.History.{unknown_client}
use Rattle.fleet_history.specs.Legal.{IsClientInOrder, owed_at}
use Rattle.fleet_trace.specs.inside.Opened.{AreClientNamesInOrder}

-- each client, and the names of its errands, are in order
pub record AreClientsInOrder {A : Type 0} (o : Opening A) : Type 0 where
  pub clients : (c : ℕ) → c < length o.clients → IsClientInOrder o.life (owed_at o c) (slice_index_or o.clients c unknown_client)
  pub names : (c : ℕ) → c < length o.clients → AreClientNamesInOrder o.robots c
