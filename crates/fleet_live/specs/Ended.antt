-- How a fleet in real time is opened, and how it ends.
use Rattle.std.specs.Prelude.{⊤, ℕ, Bool, true, false, List, Result, Ok, Err}
use Rattle.fleet_grid.specs.Floor.{Floor}
use Rattle.fleet_core.specs.OpeningFaults.{IsRefused}
use Rattle.fleet_core.specs.declared.faults.OpenFault.{OpenFault}
use Rattle.fleet_core.specs.declared.faults.OpenFault.TheVariants as fault
use Rattle.fleet_script.specs.Script.{Draft}
use Rattle.fleet_turns.specs.declared.planner.NoTurns.{NoTurns}
use Rattle.fleet_turns.specs.declared.planner.NoTurns.TheVariants as turns
use Rattle.fleet_text.specs.Kit.{KitLaws}
use Rattle.fleet_talk.specs.Conversation.{clients_in, laws_in, limits_in}
use Rattle.live_parts.specs.declared.stop.Stop.{Stop}
use Rattle.live_parts.specs.declared.stop.Stop.TheVariants.{Quit, Limit, Input, Output, Sink, NoMemory}
use Rattle.fleet_talk.specs.declared.fault.TalkFault.{TalkFault}
use Rattle.fleet_talk.specs.declared.fault.TalkFault.TheVariants as talk

-- the fleet of a head whose robots start on these cells is refused for this reason
abbrev pub IsRefusedHead : KitLaws → Floor → Draft → List ℕ → OpenFault → Type 0
IsRefusedHead kit m d starts why = IsRefused m starts (clients_in d) (limits_in d) (laws_in kit d starts) why

-- why a fleet was not opened
abbrev pub unopened : OpenFault → TalkFault
unopened fault.NoMemory = talk.NoMemory
unopened why = talk.Opening why

-- why its robots take no turns
abbrev pub turnless : NoTurns → TalkFault
turnless turns.NoMemory = talk.NoMemory
turnless turns.NoRooms = talk.NoRooms

-- a fault of a fleet that was opened
abbrev pub IsEnded : TalkFault → Type 0
IsEnded (talk.Opening why) = ⊥
IsEnded _ = Unit {0}

-- how a fleet ended that stopped for this reason, and whether a limit was met
abbrev pub ended_by : Stop → Bool → Result Bool TalkFault
ended_by Quit limited = Ok limited
ended_by Limit limited = Ok true
ended_by Input limited = Err talk.Input
ended_by Output limited = Err talk.Output
ended_by Sink limited = Err talk.Sink
ended_by NoMemory limited = Err talk.NoMemory

-- why a fleet counts as stopped: what stopped it comes first, then a chapter that was not kept, and then a text that was not written
abbrev pub else_cause : Stop → Result ⊤ Stop → Bool → Stop
else_cause stop (Err fault) is_written = fault
else_cause stop (Ok _) true = stop
else_cause stop (Ok _) false = Output

-- why a fleet counts as stopped: a fault that stopped it comes before all else
abbrev pub cause : Stop → Result ⊤ Stop → Bool → Stop
cause Quit kept is_written = else_cause Quit kept is_written
cause Limit kept is_written = else_cause Limit kept is_written
cause stop kept is_written = stop
