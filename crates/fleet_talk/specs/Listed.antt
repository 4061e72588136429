-- The open errands of a client, as a line `open` lists them.
use Rattle.std.specs.Prelude.{ℕ, List, nat_lt, if◌then◌else◌}
use Rattle.fleet_history.specs.History.{clients}
use Rattle.fleet_core.specs.Core.{World}
use Rattle.fleet_core.specs.OpenErrands.{open_errands}
use Rattle.fleet_text.specs.Answers.{open_text}
use Rattle.fleet_text.specs.Output.{no_client_line}

-- the open errands of a client of this world, if there is such a client
abbrev pub listed_text : {A : Type 0} → World A → ℕ → List ℕ
listed_text w client = if nat_lt client (clients w.history) then open_text client (open_errands w.history client) else no_client_line client
