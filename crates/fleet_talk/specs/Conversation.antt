-- A conversation as a whole: over all lines of an input, or up to a fault.
use Rattle.std.specs.Prelude.{◌≡◌, ℕ, Bool, true, false, is_some, List, [], ◌++◌, length, Option, Some, None, Result, Ok, Err, unwrap_or, if◌then◌else◌}
use Rattle.std.specs.declared.alloc.Global.{Global}
use Rattle.fleet_grid.specs.Floor.{Floor}
use Rattle.fleet_book.specs.declared.limits.Limits.{Limits}
use Rattle.fleet_core.specs.Hooks.{HookLaws, AreOrderly}
use Rattle.fleet_core.specs.Opening.{CanOpen}
use Rattle.fleet_core.specs.OpeningFaults.{IsRefused}
use Rattle.fleet_core.specs.declared.faults.OpenFault.{OpenFault}
use Rattle.fleet_script.specs.Script.{Draft, blank_draft, limits_over}
use Rattle.fleet_text.specs.Kit.{KitLaws, cut_laws}
use Rattle.turns_law.specs.Turns.{Turns}
use Rattle.mover.specs.declared.manner.Manner.{Manner}
use Rattle.mover.specs.declared.manner.Manner.TheVariants as manner
use Rattle.fleet_world.specs.Talk.{opened_talk}
use Rattle.fleet_talk.specs.declared.ends.Settings.{Settings}
use Rattle.fleet_talk.specs.declared.fault.TalkFault.{TalkFault}
use Rattle.fleet_talk.specs.declared.fault.TalkFault.TheVariants.{Input, Output, Sink, Opening as Unopened, NoRooms, NoMemory}
use Rattle.fleet_talk.specs.declared.ground.TheConstants.{TALK_LIMITS}
use Rattle.fleet_talk.specs.Act.{Act, acts_from}
use Rattle.fleet_talk.specs.Acts.{Talks}
use Rattle.fleet_talk.specs.Broken.{SaysUntil}
use Rattle.fleet_talk.specs.Chapters.{Adds, AreChapters, ChapterView}
use Rattle.fleet_talk.specs.Door.{AreRefused}
use Rattle.fleet_talk.specs.Fleet.{Fleet, opened_fleet}
use Rattle.fleet_talk.specs.Heard.{Opening, Head, all_of, head_of, heard_lines}
use Rattle.fleet_talk.specs.Manners.{AreTaken, in_turns}
use Rattle.fleet_talk.specs.Says.{Says}

-- ---- the fleet of a head

-- how many clients a head gives, and 1 where it gives none
abbrev pub clients_in : Draft → ℕ
clients_in d = unwrap_or d.clients 1

-- the limits that a head gives, and a conversation's own for the others
abbrev pub limits_in : Draft → Limits
limits_in d = limits_over TALK_LIMITS d.limits

-- the laws of the closures that a head chooses, the plain ones if it does not say, for robots with these starts
abbrev pub laws_in : KitLaws → Draft → List ℕ → HookLaws
laws_in kit d starts = cut_laws (length starts) (if unwrap_or d.south false then kit.south else kit.plain)

-- what a conversation is held on: the closures' laws, the map, the settings, and what a file's header lines said
pub record Terms : Type 0 where
  pub kit : KitLaws
  pub floor : Floor
  pub settings : Settings
  pub head : Draft

-- the head of a conversation over an input
abbrev pub head_in : Terms → List ℕ → Head
head_in on bytes = head_of on.settings on.head 1 (heard_lines bytes)

-- the fleet may be opened
abbrev pub MayOpen : Terms → Opening → Type 0
MayOpen on o = CanOpen on.floor o.starts (clients_in o.head) (limits_in o.head) (laws_in on.kit o.head o.starts) × AreOrderly (laws_in on.kit o.head o.starts)

-- the fleet, just opened, whose robots take these turns
abbrev pub opened : {A : Type 0} → Terms → Opening → Option Turns → Fleet A
opened on o turns = opened_fleet (in_turns turns (opened_talk on.floor o.starts (clients_in o.head) (limits_in o.head) (laws_in on.kit o.head o.starts)))

-- the turns are those of the manner that is asked for: none where it is the plain one
abbrev pub Takes : Terms → Opening → Option Turns → Type 0
Takes on o turns = AreTaken {A = Global} on.settings.manner (opened on o None).talk.world turns

-- posts to exactly these cells are refused in the fleet
abbrev pub Refuses : Terms → Opening → List Bool → Type 0
Refuses on o cells = AreRefused on.settings.roomy on.floor (length o.starts) cells

-- all that is done at the lines of the open fleet
abbrev pub acts_of : Terms → List Bool → Opening → List Act
acts_of on cells o = acts_from on.settings cells o.number o.lines

-- ---- texts of conversations

-- the text and the chapters of a whole conversation, and whether a limit was met: the lines of the input were answered one by one, up to one that
-- says quit, or to the end
pub data IsConversation (on : Terms) (bytes text : List ℕ) (chapters : List (ChapterView Global)) (met : Bool) : Type 0 where
  -- no line opened the fleet
  unopened : (head_in on bytes).opening ≡ None → text ≡ all_of (head_in on bytes).said → chapters ≡ [] → met ≡ false → IsConversation on bytes text chapters met
  -- the fleet was opened, and all was done that the lines from then on ask
  talked : (o : Opening) → (head_in on bytes).opening ≡ Some o → MayOpen on o → (turns : Option Turns) → Takes on o turns → (cells : List Bool) → Refuses on o cells
      → (answers : List ℕ) (last : Fleet Global) → Talks on.settings.roll (opened on o turns) (acts_of on cells o) answers last
      → text ≡ all_of (head_in on bytes).said ++ answers → AreChapters (opened {A = Global} on o turns).talk.world last.talk.world chapters → met ≡ last.met → IsConversation on bytes text chapters met

-- the beginning of one: some first texts of its head, or all of these and what is said of some first acts
pub data IsBegun (on : Terms) (bytes text : List ℕ) : Type 0 where
  in_head : (said left : List (List ℕ)) → (head_in on bytes).said ≡ said ++ left → text ≡ all_of said → IsBegun on bytes text
  in_talk : (o : Opening) → (head_in on bytes).opening ≡ Some o → MayOpen on o → (turns : Option Turns) → Takes on o turns → (cells : List Bool) → Refuses on o cells → (done left : List Act) → acts_of on cells o ≡ done ++ left
      → (answers : List ℕ) (last : Fleet Global) → Talks on.settings.roll (opened on o turns) done answers last
      → text ≡ all_of (head_in on bytes).said ++ answers → IsBegun on bytes text

-- the head of one whose fleet is refused for this reason
pub record IsRefusedHead (on : Terms) (bytes text : List ℕ) (why : OpenFault) : Type 0 where
  pub opening : Opening
  pub at : (head_in on bytes).opening ≡ Some opening
  pub refused : IsRefused on.floor opening.starts (clients_in opening.head) (limits_in opening.head) (laws_in on.kit opening.head opening.starts) why
  pub is : text ≡ all_of (head_in on bytes).said

-- the head of one whose fleet may be opened, and whose robots were to take turns, but the rooms of the map did not pass their checks
pub record IsRoomlessHead (on : Terms) (bytes text : List ℕ) : Type 0 where
  pub opening : Opening
  pub at : (head_in on bytes).opening ≡ Some opening
  pub may : MayOpen on opening
  pub asked : on.settings.manner ≡ manner.Turns
  pub is : text ≡ all_of (head_in on bytes).said

-- why the fleet of a head with these starts is not open. Out of memory says nothing
abbrev pub IsUnopened : KitLaws → Floor → Manner → List ℕ → Draft → TalkFault → Type 0
IsUnopened kit m asked starts d (Unopened why) = IsRefused m starts (clients_in d) (limits_in d) (laws_in kit d starts) why
IsUnopened kit m asked starts d NoRooms = CanOpen m starts (clients_in d) (limits_in d) (laws_in kit d starts) × AreOrderly (laws_in kit d starts) × (asked ≡ manner.Turns)
IsUnopened kit m asked starts d NoMemory = Unit {0}
IsUnopened kit m asked starts d other = ⊥

-- ---- how one ends

-- what a sink had kept before, and what it has kept now, where that is known
pub record KeptChapters : Type 0 where
  pub old : Option (List (ChapterView Global))
  pub new : Option (List (ChapterView Global))

-- what was said of an input when the conversation came to this end, what a writer took of it, and what a sink kept
abbrev pub ComesTo : Terms → List ℕ → Option (List ℕ) → Option (List ℕ) → List ℕ → List ℕ → KeptChapters → Result Bool TalkFault → Type 0
ComesTo on bytes before after waited waits sink (Ok met) =
    (text : List ℕ) × (chapters : List (ChapterView Global)) × IsConversation on bytes text chapters met × Says before after waited waits text × Adds sink.old sink.new chapters
ComesTo on bytes before after waited waits sink (Err Input) = (text : List ℕ) × IsBegun on bytes text × SaysUntil Input before after waited waits text
ComesTo on bytes before after waited waits sink (Err Output) = (text : List ℕ) × IsBegun on bytes text × SaysUntil Output before after waited waits text
ComesTo on bytes before after waited waits sink (Err Sink) = (text : List ℕ) × IsBegun on bytes text × SaysUntil Sink before after waited waits text
ComesTo on bytes before after waited waits sink (Err (Unopened why)) = (text : List ℕ) × IsRefusedHead on bytes text why × Says before after waited waits text
ComesTo on bytes before after waited waits sink (Err NoRooms) = (text : List ℕ) × IsRoomlessHead on bytes text × Says before after waited waits text
ComesTo on bytes before after waited waits sink (Err NoMemory) = (text : List ℕ) × IsBegun on bytes text × SaysUntil NoMemory before after waited waits text

-- ---- scripts

-- a head names the four limits for which a conversation takes others than a script
pub record NamesLimits (d : Draft) : Type 0 where
  pub life : is_some d.limits.life ≡ true
  pub orders : is_some d.limits.orders ≡ true
  pub clock : is_some d.limits.clock ≡ true
  pub chapters : is_some d.limits.chapters ≡ true

-- a conversation without marks, in which no chapter is handed out unasked, and the fleet is planned for plainly
abbrev pub plain_terms : KitLaws → Floor → Terms
plain_terms kit m = record { kit = kit; floor = m; settings = record { marks = false; roll = None; roomy = false; manner = manner.Plain }; head = blank_draft }
