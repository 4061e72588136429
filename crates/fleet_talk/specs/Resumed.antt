-- A conversation whose fleet goes on from a chapter that was kept.
use Rattle.std.specs.Prelude.{◌≡◌, ℕ, ◌<◌, Contains, Bool, true, false, not, ◌==◌, nat_lt, List, ◌++◌, length, Option, Some, None, Result, Ok, Err, unwrap_or, if◌then◌else◌}
use Rattle.std.specs.List.{list_any, position}
use Rattle.std.specs.Option.{option_map}
use Rattle.std.specs.declared.alloc.AllocError.{AllocError}
use Rattle.std.specs.declared.alloc.Global.{Global}
use Rattle.fleet_grid.specs.Floor.{Floor, IsFloor, IsNeighbour}
use Rattle.fleet_grid.specs.Walk.{IsRoomy}
use Rattle.fleet_book.specs.declared.limits.Limits.{Limits}
use Rattle.fleet_history.specs.declared.history.Opening.{Opening}
use Rattle.fleet_history.specs.History.{clients, robots}
use Rattle.fleet_core.specs.Core.{World}
use Rattle.fleet_core.specs.OpenErrands.{open_errands}
use Rattle.fleet_core.specs.declared.open_errands.OpenErrand.{OpenErrand}
use Rattle.fleet_roomy.specs.Unroomy.{has}
use Rattle.fleet_core.specs.Hooks.{HookLaws}
use Rattle.fleet_reopen.specs.declared.fault.ReopenFault.TheVariants as reopen_fault
use Rattle.fleet_reopen.specs.Reopening.{CanReopen, IsReopenFault, reopened_world}
use Rattle.fleet_script.specs.Script.{Draft, limits_over}
use Rattle.fleet_text.specs.Kit.{KitLaws, cut_laws}
use Rattle.fleet_world.specs.Talk.{Talk, quiet_talk}
use Rattle.turns_law.specs.Turns.{Turns}
use Rattle.mover.specs.declared.manner.Manner.TheVariants as manner
use Rattle.fleet_talk.specs.declared.ends.Settings.{Settings}
use Rattle.fleet_talk.specs.declared.fault.TalkFault.{TalkFault}
use Rattle.fleet_talk.specs.declared.ground.TheConstants.{TALK_LIMITS}
use Rattle.fleet_talk.specs.declared.resuming.ResumeFault.{ResumeFault}
use Rattle.fleet_talk.specs.declared.resuming.ResumeFault.TheVariants as fault
use Rattle.fleet_talk.specs.Act.{Act, acts_from}
use Rattle.fleet_talk.specs.Acts.{Talks}
use Rattle.fleet_talk.specs.Broken.{SaysUntil}
use Rattle.fleet_talk.specs.Chapters.{Adds, AreChapters, ChapterView}
use Rattle.fleet_talk.specs.Conversation.{KeptChapters, Terms}
use Rattle.fleet_talk.specs.Door.{AreRefused}
use Rattle.fleet_talk.specs.declared.door.Door.{Door}
use Rattle.fleet_talk.specs.declared.door.UnroomyErrand.{UnroomyErrand}
use Rattle.fleet_talk.specs.Fleet.{Fleet, opened_fleet}
use Rattle.fleet_talk.specs.Heard.{heard_lines}
use Rattle.fleet_talk.specs.Manners.{AreTaken, in_turns}
use Rattle.fleet_talk.specs.Says.{Says}

-- ---- the header lines and the chapter

-- a number was said, and it is another than this
abbrev pub is_other : Option ℕ → ℕ → Bool
is_other None is = false
is_other (Some said) is = not (said == is)

-- what header lines say of robots and clients that is not so in a chapter: the first of both
abbrev pub disagreement : {A : Type 0} → Draft → Opening A → Option ResumeFault
disagreement d o =
    if is_other (option_map (λ cells. length cells) d.starts) (length o.robots) then Some fault.Robots
    else if is_other d.clients (length o.clients) then Some fault.Clients
    else None

-- the limits that header lines give, then the chapter's, then a conversation's own
abbrev pub limits_after : {A : Type 0} → Draft → Opening A → Limits
limits_after d o = limits_over (record TALK_LIMITS { queue = o.queue; life = o.life }) d.limits

-- whether some robot's farewell may have a stamp other than 0, as none has with the plain closures
abbrev pub has_stamps : {A : Type 0} → Opening A → Bool
has_stamps o = list_any (λ r. nat_lt 0 r.farewell_law.high) o.robots

-- the laws of the closures that header lines choose, and where they do not, of those that the chapter's stamps are of
abbrev pub laws_after : {A : Type 0} → KitLaws → Draft → Opening A → HookLaws
laws_after kit d o = cut_laws (length o.robots) (if unwrap_or d.south (has_stamps o) then kit.south else kit.plain)

-- ---- the fleet

-- the world of the fleet that goes on from a chapter
abbrev pub world_after : {A : Type 0} → KitLaws → Floor → Draft → ChapterView A → World A
world_after kit m d c = reopened_world m c.number c.history (limits_after d c.history.opening) (laws_after kit d c.history.opening)

-- the fleet that goes on from a chapter: its clients did nothing yet
abbrev pub resumed : {A : Type 0} → KitLaws → Floor → Draft → ChapterView A → Talk A
resumed kit m d c = quiet_talk (world_after kit m d c)

-- ---- errands that wait when the fleet goes on

-- no errand in a queue goes to one of these cells
abbrev pub NoneWaits : {A : Type 0} → List Bool → World A → Type 0
NoneWaits cells w = (client : ℕ) → client < clients w.history → position (λ e. has cells e.cell) (open_errands w.history client) ≡ None

-- an errand of this client is in this robot's queue, and goes to this cell
pub record Waits {A : Type 0} (w : World A) (x : UnroomyErrand) : Type 0 where
  pub errand : OpenErrand
  pub is_open : Contains (open_errands w.history x.client) errand
  pub robot : errand.robot ≡ x.robot
  pub cell : errand.cell ≡ x.cell

-- why there is no door to this world: such an errand. Out of memory says nothing
abbrev pub IsDoorFault : {A : Type 0} → World A → Result Door AllocError → ResumeFault → Type 0
IsDoorFault w door (fault.Errand x) = (d : Door) × (door ≡ Ok d) × Waits w x × (has d.refused.marks.items x.cell ≡ true)
IsDoorFault w door (fault.Chapter reopen_fault.NoMemory) = Unit {0}
IsDoorFault w door other = ⊥

-- an unfinished errand goes to a floor cell that is not roomy for n robots
pub record WaitsUnroomy {A : Type 0} (n : ℕ) (w : World A) (x : UnroomyErrand) : Type 0 where
  pub waits : Waits w x
  pub floor : IsFloor w.floor x.cell
  pub unroomy : IsRoomy (IsNeighbour w.floor) n x.cell → ⊥

-- a fleet goes on from the chapter
pub record MayResume {A : Type 0} (kit : KitLaws) (m : Floor) (d : Draft) (c : ChapterView A) : Type 0 where
  pub agrees : disagreement d c.history.opening ≡ None
  pub can : CanReopen m c.number c.history (limits_after d c.history.opening) (laws_after kit d c.history.opening)

-- why none does, where posts to cells that are not roomy are refused or not: the first reason that holds. Out of memory says nothing
abbrev pub IsResumeFault : {A : Type 0} → Bool → KitLaws → Floor → Draft → ChapterView A → ResumeFault → Type 0
IsResumeFault roomy kit m d c fault.Robots = disagreement d c.history.opening ≡ Some fault.Robots
IsResumeFault roomy kit m d c fault.Clients = disagreement d c.history.opening ≡ Some fault.Clients
IsResumeFault roomy kit m d c (fault.Chapter reopen_fault.NoMemory) = Unit {0}
IsResumeFault roomy kit m d c (fault.Chapter why) =
    (disagreement d c.history.opening ≡ None) × IsReopenFault m c.number c.history (limits_after d c.history.opening) (laws_after kit d c.history.opening) why
IsResumeFault roomy kit m d c (fault.Errand x) = (roomy ≡ true) × MayResume kit m d c × WaitsUnroomy (robots c.history) (world_after kit m d c) x
IsResumeFault roomy kit m d c fault.NoRooms = ⊥
IsResumeFault roomy kit m d c (fault.Talk why) = ⊥

-- a fleet goes on from the chapter, and its robots were to take turns, but the rooms of the map did not pass their checks
pub record IsRoomless (on : Terms) (c : ChapterView Global) : Type 0 where
  pub may : MayResume on.kit on.floor on.head c
  pub asked : on.settings.manner ≡ manner.Turns

-- why no conversation goes on from the chapter
abbrev pub IsUnresumed : Terms → ChapterView Global → ResumeFault → Type 0
IsUnresumed on c fault.NoRooms = IsRoomless on c
IsUnresumed on c why = IsResumeFault on.settings.roomy on.kit on.floor on.head c why

-- the chapter is refused: the fault came before the first line was read
abbrev pub IsRefusal : ResumeFault → Type 0
IsRefusal fault.NoRooms = ⊥
IsRefusal (fault.Talk why) = ⊥
IsRefusal _ = Unit {0}

-- ---- the conversation

-- all lines of an input were answered by an open fleet, up to one that says quit, or to the end, and whether a limit was met
pub record IsAnswered (settings : Settings) (cells : List Bool) (s : Fleet Global) (bytes text : List ℕ) (chapters : List (ChapterView Global)) (limited : Bool) : Type 0 where
  pub last : Fleet Global
  pub talks : Talks settings.roll s (acts_from settings cells 1 (heard_lines bytes)) text last
  pub are : AreChapters s.talk.world last.talk.world chapters
  pub met : limited ≡ last.met

-- the first of what they ask was done
pub record IsAnsweredInPart (settings : Settings) (cells : List Bool) (s : Fleet Global) (bytes text : List ℕ) : Type 0 where
  pub done : List Act
  pub left : List Act
  pub parts : acts_from settings cells 1 (heard_lines bytes) ≡ done ++ left
  pub last : Fleet Global
  pub talks : Talks settings.roll s done text last

-- to what a conversation with an open fleet came
abbrev pub ComesOpen : Settings → List Bool → Fleet Global → List ℕ → Option (List ℕ) → Option (List ℕ) → List ℕ → List ℕ → KeptChapters → Result Bool TalkFault → Type 0
ComesOpen settings cells s bytes before after waited waits sink (Ok met) =
    (text : List ℕ) × (chapters : List (ChapterView Global)) × IsAnswered settings cells s bytes text chapters met × Says before after waited waits text × Adds sink.old sink.new chapters
ComesOpen settings cells s bytes before after waited waits sink (Err why) = (text : List ℕ) × IsAnsweredInPart settings cells s bytes text × SaysUntil why before after waited waits text

-- posts to exactly these cells are refused in a conversation whose fleet goes on from a chapter, and no errand that waits goes to one of them
pub record LetsIn (on : Terms) (c : ChapterView Global) (cells : List Bool) : Type 0 where
  pub refuses : AreRefused on.settings.roomy on.floor (robots c.history) cells
  pub waiting : NoneWaits cells (world_after on.kit on.floor on.head c)

-- the fleet that goes on from a chapter, whose robots take these turns
abbrev pub resumed_in : Terms → ChapterView Global → Option Turns → Talk Global
resumed_in on c turns = in_turns turns (resumed on.kit on.floor on.head c)

-- the turns are those of the manner that is asked for: none where it is the plain one
abbrev pub TakesOn : Terms → ChapterView Global → Option Turns → Type 0
TakesOn on c turns = AreTaken on.settings.manner (world_after on.kit on.floor on.head c) turns

-- the text and the chapters of a whole conversation whose fleet goes on from a chapter, and whether a limit was met
pub record IsResumption (on : Terms) (c : ChapterView Global) (bytes text : List ℕ) (chapters : List (ChapterView Global)) (met : Bool) : Type 0 where
  pub may : MayResume on.kit on.floor on.head c
  pub turns : Option Turns
  pub takes : TakesOn on c turns
  pub cells : List Bool
  pub lets_in : LetsIn on c cells
  pub answered : IsAnswered on.settings cells (opened_fleet (resumed_in on c turns)) bytes text chapters met

-- the beginning of one
pub record IsResumptionBegun (on : Terms) (c : ChapterView Global) (bytes text : List ℕ) : Type 0 where
  pub may : MayResume on.kit on.floor on.head c
  pub turns : Option Turns
  pub takes : TakesOn on c turns
  pub cells : List Bool
  pub lets_in : LetsIn on c cells
  pub answered : IsAnsweredInPart on.settings cells (opened_fleet (resumed_in on c turns)) bytes text
