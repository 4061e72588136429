-- The events of a script as runs: an event, how often it happens, and its line.
use Rattle.std.specs.Prelude.{ℕ, List, [], ◌∷◌, ◌++◌, replicate}
use Rattle.fleet_book.specs.declared.event.Event.{Event}
use Rattle.fleet_script.specs.declared.run.Run.{Run}
use Rattle.fleet_script.specs.declared.runs.ScriptRuns.{ScriptRuns}
use Rattle.fleet_script.specs.Script.{Plan}

-- the events, one after another
abbrev pub unrolled : List Run → List Event
unrolled [] = []
unrolled (run ∷ runs) = replicate run.times run.event ++ unrolled runs

-- the line of each of them
abbrev pub numbered : List Run → List ℕ
numbered [] = []
numbered (run ∷ runs) = replicate run.times run.line ++ numbered runs

-- the script whose events these are
abbrev pub runs_plan : {A : Type 0} → ScriptRuns A → Plan
runs_plan s = record { starts = s.starts.items; clients = s.clients; limits = s.limits; south = s.south; turns = s.turns; events = unrolled s.runs.items; lines = numbered s.runs.items }
