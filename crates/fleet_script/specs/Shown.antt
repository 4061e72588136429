-- Values of the program without where they lie in memory.
use Rattle.std.specs.Prelude.{◌≡◌, ℕ, Bool, true, false, List, Option, Some, None, Result, Ok, Err}
use Rattle.std.specs.Option.{option_map}
use Rattle.fleet_script.specs.declared.lines.Repeat.{Repeat}
use Rattle.fleet_book.specs.declared.event.Event.{Event}
use Rattle.fleet_script.specs.declared.header.Head.{Head}
use Rattle.fleet_script.specs.declared.script.Draft.{Draft}
use Rattle.fleet_script.specs.declared.script.Script.{Script}
use Rattle.fleet_script.specs.declared.script.ScriptFault.{ScriptFault}
use Rattle.fleet_script.specs.declared.script.ScriptFault.TheVariants.{Line, NoMemory}
use Rattle.fleet_script.specs.declared.lines.EventLine.{EventLine}
use Rattle.fleet_script.specs.declared.lines.EventLine.TheVariants.{Nothing, Events, Other}
use Rattle.fleet_script.specs.Runs.{unrolled, numbered}
use Rattle.fleet_script.specs.Event.{Said}
use Rattle.fleet_script.specs.Event as said
use Rattle.fleet_script.specs.Script as spec

-- a repeat of the program, as an event and how often
abbrev pub repeated : Repeat → spec.Repeated
repeated r = record { event = r.event; times = r.times }

-- what an event line of the program said
abbrev pub said_on : EventLine → Said
said_on Nothing = said.nothing
said_on (Events more) = said.events (repeated more)
said_on Other = said.other

-- a head, with these events of these lines
abbrev pub headed : {A : Type 0} → Head A → List Event → List ℕ → spec.Draft
headed h events lines = record { starts = option_map (λ v. v.items) h.starts; clients = h.clients; south = h.south; turns = h.turns; limits = h.limits; events = events; lines = lines }

-- a draft of the program, without its memory: each event as often as it is repeated
abbrev pub shown : {A : Type 0} → Draft A → spec.Draft
shown d = headed d.head (unrolled d.runs.items) (numbered d.runs.items)

-- whether a line was taken, of which a head comes to be this one; where it was not, the head is as it was
abbrev pub IsTaken : Bool → Option spec.Draft → spec.Draft → spec.Draft → Type 0
IsTaken true more old new = more ≡ Some new
IsTaken false more old new = (more ≡ None) × (new ≡ old)

-- a script of the program, without its memory
abbrev pub plan : {A : Type 0} → Script A → spec.Plan
plan s = record { starts = s.starts.items; clients = s.clients; limits = s.limits; south = s.south; turns = s.turns; events = s.events.items; lines = s.lines.items }

-- reading gives this line; out of memory says nothing of what reading gives
abbrev pub FailsAt : {Y : Type 0} → ScriptFault → Result Y ℕ → Type 0
FailsAt NoMemory read = Unit {0}
FailsAt (Line line) read = read ≡ Err line

-- what a function returned, seen by see, is what reading gives, unless memory ran out
abbrev pub Gives : {X Y : Type 0} → (X → Y) → Result X ScriptFault → Result Y ℕ → Type 0
Gives see (Ok x) read = read ≡ Ok (see x)
Gives see (Err e) read = FailsAt e read
