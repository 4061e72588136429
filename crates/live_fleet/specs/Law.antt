-- What holds of a fleet of many conversations, whatever events it hears.
use Rattle.std.specs.Prelude.{◌≡◌, ◌==◌, ℕ, ◌+◌, ◌≤◌, ◌<◌, ◌||◌, ◌⊎◌, Option, Some, None, List, [], ◌∷◌, ◌++◌, length, map, MatchOption, slice_get, if◌then◌else◌}
use Rattle.std.specs.List.{AllByRecursion, flat_map, range_with_len}
use Rattle.std.specs.declared.alloc.Global.{Global}
use Rattle.fleet_book.specs.declared.event.Event.TheVariants.{Collect}
use Rattle.fleet_world.specs.declared.reply.Reply.TheVariants.{Collected}
use Rattle.fleet_book.specs.declared.notice.Notice.{Notice}
use Rattle.fleet_grid.specs.Floor.{Floor}
use Rattle.fleet_bound.specs.Bound.{KeepsBound, WaitsAreBounded}
use Rattle.fleet_bound.specs.Roomy.{AdvancesIfRoomy, AreRoomy}
use Rattle.fleet_core.specs.Core.{ServesInTurns}
use Rattle.turns_law.specs.Turns.{Turns}
use Rattle.fleet_history.specs.History.{History, client_at, clients, start}
use Rattle.fleet_history.specs.Laws.{AcceptsNoneClosed, ArrivalsRise, ArrivesInOrder, HasNoConflict}
use Rattle.fleet_history.specs.Notices.{noticed_count, notices, seq_of}
use Rattle.fleet_history.specs.Numbering.{AreNumbered, numbers_behind}
use Rattle.fleet_core.specs.declared.open_errands.OpenErrand.{OpenErrand}
use Rattle.fleet_talk.specs.Chapters.{AreTurned, ChapterView, beginning}
use Rattle.fleet_talk.specs.Says.{marked}
use Rattle.fleet_text.specs.Answers.{open_text}
use Rattle.fleet_world.specs.Talk.{Talk, mailbox, waiting}
use Rattle.live_parts.specs.Recalls.{Recall, Recalls, first_of, last_of, recall_of}
use Rattle.live_fleet.specs.declared.rest.Rest.TheVariants.{Ended, Ending}
use Rattle.live_fleet.specs.declared.speaker.Clients.{Clients}
use Rattle.live_fleet.specs.declared.speaker.Speaker.{Speaker}
use Rattle.live_fleet.specs.Act.{Act, Runs, did, met_by, said, told}
use Rattle.live_fleet.specs.Does.{Does, Plays, PlaysUnread}
use Rattle.live_fleet.specs.Out.{chapters_of}
use Rattle.live_fleet.specs.Party.{Heard, Stage, turn}
use Rattle.live_fleet.specs.Recalling.{AreBegun, IsRecalled, noted_by}
use Rattle.live_fleet.specs.Resting.{GoesOn, line_listed}
use Rattle.live_fleet.specs.Telling.{FindsNothing}
use Rattle.live_fleet.specs.Turning.{place_line}
use Rattle.live_fleet.specs.Went.{FleetView, Went}

-- acts that are a run of the core, which met a limit if one of them did; and what they tell is kept
pub record IsRun (a : FleetView) (acts : List Act) (b : FleetView) : Type 0 where
  pub runs : Runs a.talk acts b.talk
  pub met : b.met ≡ (a.met || met_by acts)
  pub recalls : b.recalls ≡ noted_by acts a.recalls

-- Whatever readers take in between, its acts are such; where they take nothing, what each conversation was told and the chapters that were handed out are what the acts say too
abbrev pub EachGoesOn : Type 0
EachGoesOn = (s t : Stage) (events : List Heard) (acts : List Act) → (Plays s events acts t → IsRun s.at.fleet acts t.at.fleet) × (PlaysUnread s events acts t → Went s.at acts t.at)

-- each history that was handed out is legal, and begins where the one before ended
abbrev pub EachFollows : Type 0
EachFollows = (s t : Stage) (events : List Heard) (acts : List Act) → Plays s events acts t → AreTurned (beginning s.at.fleet.talk.world) (chapters_of acts) (beginning t.at.fleet.talk.world)

-- A history in which no step has a conflict, each robot's arrivals are the beginning of its accepted errands, the numbers of a client's arrivals rise, nothing is accepted after a close, and each
-- client's notices are numbered one after another. Without turns, where all errands go to roomy cells each tick is advancing, and each wait below the bound if the opening's waits leave room for it; in turns, waits for served
-- errands are bounded
pub record IsSafe (turns : Option Turns) (m : Floor) (h : History Global) : Type 0 where
  pub conflicts : HasNoConflict m h
  pub arrivals : ArrivesInOrder h
  pub rise : ArrivalsRise h
  pub closes : AcceptsNoneClosed h
  pub numbered : (c : ℕ) → AreNumbered h c
  pub advancing : turns ≡ None → AdvancesIfRoomy m h
  pub bounded : turns ≡ None → AreRoomy m h → KeepsBound m (start h.opening) → WaitsAreBounded m h
  pub served : ServesInTurns turns m h

-- each history that was handed out is safe, on the map of the fleet
abbrev pub EachIsSafe : Type 0
EachIsSafe =
    (s t : Stage) (events : List Heard) (acts : List Act) → Plays s events acts t → AllByRecursion (λ x. IsSafe s.at.fleet.talk.world.turns s.at.fleet.talk.world.floor x.history) (chapters_of acts)

-- ---- notices

-- by conversation the clients for whom it speaks
abbrev pub clients_in : List Speaker → List Clients
clients_in who = map (λ sp. sp.clients) who

-- a conversation speaks for a client
abbrev pub SpeaksFor : List Clients → (to client : ℕ) → Type 0
SpeaksFor whose to client = MatchOption (slice_get whose to) ⊥ (λ c. (c.first ≤ client) × (client < c.end))

-- a notice is told to a conversation that speaks for its client, and none is collected that is not told
abbrev pub IsToldRight : List Clients → Act → Type 0
IsToldRight whose (told to client notice) = SpeaksFor whose to client
IsToldRight whose (did (Collect client) (Collected notice)) = ⊥
IsToldRight whose _ = Unit {0}

-- all acts tell notices right, and conversations speak for the same clients as before
abbrev pub EachIsToldRight : Type 0
EachIsToldRight = (s t : Stage) (events : List Heard) (acts : List Act) → Plays s events acts t → AllByRecursion (IsToldRight (clients_in s.speakers)) acts × (clients_in t.speakers ≡ clients_in s.speakers)

-- the notice of a client that an act tells, if it tells one
abbrev pub notice_told : ℕ → Act → List Notice
notice_told c (told to client notice) = if client == c then notice ∷ [] else []
notice_told c _ = []

-- the notices of a client that acts tell, in order
abbrev pub notices_told : ℕ → List Act → List Notice
notices_told c acts = flat_map (notice_told c) acts

-- the notices that histories have for a client, in order
abbrev pub notices_in : ℕ → List (ChapterView Global) → List Notice
notices_in c chapters = flat_map (λ x. notices x.history c) chapters

-- the notices that wait for a client: those that it was given, and then those of its mailbox
abbrev pub left_of : Talk Global → ℕ → List Notice
left_of s c = (waiting s c).outlet ++ mailbox s c

-- a client has its lists and its mailbox; in a fleet that was opened or goes on each has
abbrev pub IsKnown : Talk Global → ℕ → Type 0
IsKnown s c = (c < length s.clients) × (c < length s.world.mailboxes)

-- From the beginning of a chapter on each notice is told once, and in order: what was told of a client, and then what waits for it, is what waited for it before, and then what the histories have for it
abbrev pub EachIsToldOnce : Type 0
EachIsToldOnce =
    (s t : Stage) (events : List Heard) (acts : List Act) → Plays s events acts t → (c : ℕ) → IsKnown s.at.fleet.talk c → s.at.fleet.talk.world.history.entries ≡ []
    → notices_told c acts ++ left_of t.at.fleet.talk c ≡ left_of s.at.fleet.talk c ++ (notices_in c (chapters_of acts) ++ notices t.at.fleet.talk.world.history c)

-- ---- what can be told again

-- the number of the last of these notices; this one, if there are none
abbrev pub last_seq : ℕ → List Notice → ℕ
last_seq n [] = n
last_seq n (x ∷ xs) = last_seq (seq_of x) xs

-- What can be told a client again is the last of what could be before, and of what it was told since, in order. How many it was told is the number of the last one
pub record AreKept (c : ℕ) (r : Recalls) (since : List Notice) (t : Recalls) : Type 0 where
  pub kept : (recall_of t c).notices ≡ last_of r.most ((recall_of r c).notices ++ since)
  pub count : (recall_of t c).told ≡ last_seq (recall_of r c).told since

-- what can be told again is kept so, whatever a fleet hears
abbrev pub EachIsKept : Type 0
EachIsKept = (s t : Stage) (events : List Heard) (acts : List Act) → Plays s events acts t → (c : ℕ) → IsRecalled s.at.fleet.recalls c → AreKept c s.at.fleet.recalls (notices_told c acts) t.at.fleet.recalls

-- the notices that wait for a client are numbered on from those that it was told, to the last that was made
pub record AreNumberedOn (c : ℕ) (f : FleetView) : Type 0 where
  pub seqs : map seq_of (left_of f.talk c) ≡ numbers_behind (recall_of f.recalls c).told (length (left_of f.talk c))
  pub all : (recall_of f.recalls c).told + length (left_of f.talk c) ≡ noticed_count f.talk.world.history c

-- notices stay numbered on, and as many more were told as the acts tell
abbrev pub EachIsCounted : Type 0
EachIsCounted =
    (s t : Stage) (events : List Heard) (acts : List Act) → Plays s events acts t → (c : ℕ) → IsKnown s.at.fleet.talk c → IsRecalled s.at.fleet.recalls c → c < clients s.at.fleet.talk.world.history → AreNumberedOn c s.at.fleet
    → AreNumberedOn c t.at.fleet × ((recall_of t.at.fleet.recalls c).told ≡ (recall_of s.at.fleet.recalls c).told + length (notices_told c acts))

-- notices are numbered on at the beginning, where nothing waits
abbrev pub EachBeginsCounted : Type 0
EachBeginsCounted = (f : FleetView) (r : Recalls) (c : ℕ) → f.talk.world.history.entries ≡ [] → left_of f.talk c ≡ [] → c < clients f.talk.world.history → AreBegun f.talk.world.history r f.recalls → AreNumberedOn c f

-- the numbers of the notices that can be told again are at most that of the last one that was told
abbrev pub AreInTime : Recall → Type 0
AreInTime r = AllByRecursion (λ n. seq_of n ≤ r.told) r.notices

-- It stays so, and then the first of them is at most the one after all that was told
abbrev pub EachFirstIsInTime : Type 0
EachFirstIsInTime =
    (s t : Stage) (events : List Heard) (acts : List Act) → Plays s events acts t → (c : ℕ) → IsKnown s.at.fleet.talk c → IsRecalled s.at.fleet.recalls c → c < clients s.at.fleet.talk.world.history → AreNumberedOn c s.at.fleet
    → AreInTime (recall_of s.at.fleet.recalls c) → AreInTime (recall_of t.at.fleet.recalls c) × (first_of (recall_of t.at.fleet.recalls c) ≤ (recall_of t.at.fleet.recalls c).told + 1)

-- the numbers are in time at the beginning, if what is kept has none above those that were noticed
abbrev pub EachBeginsInTime : Type 0
EachBeginsInTime = (h : History Global) (r t : Recalls) (c : ℕ) → c < clients h → AreBegun h r t → AllByRecursion (λ n. seq_of n ≤ (client_at h c).noticed) (recall_of r c).notices → AreInTime (recall_of t c)

-- ---- turns

-- a notice is told, or nothing is said
abbrev pub IsUnsaid : Act → Type 0
IsUnsaid (said to text) = ⊥
IsUnsaid _ = Unit {0}

-- this line is shown
abbrev pub IsShown : List ℕ → Act → Type 0
IsShown line (said to text) = text ≡ line
IsShown line _ = ⊥

-- first notices are told, and then the line of where the robots stand now is shown
pub record IsShownLast (acts : List Act) (s : Talk Global) : Type 0 where
  pub first : List Act
  pub last : List Act
  pub parts : acts ≡ first ++ last
  pub tells : AllByRecursion IsUnsaid first
  pub shows : AllByRecursion (IsShown (place_line s)) last

-- each turn is shown last: its line comes after its notices
abbrev pub EachTurnIsShownLast : Type 0
EachTurnIsShownLast = (s t : Stage) (acts : List Act) → Does s turn acts t → IsShownLast acts t.at.fleet.talk

-- ---- the end

-- no notice is left for a client
abbrev pub IsQuiet : Talk Global → ℕ → Type 0
IsQuiet s c = (clients s.world.history ≤ c) ⊎ FindsNothing s c

-- all is said to a conversation
abbrev pub HasEnded : List Speaker → ℕ → Type 0
HasEnded who k = MatchOption (slice_get who k) ⊥ (λ sp. sp.rest ≡ Ended)

-- once all is said to a conversation at the end, no notice is left for its clients
abbrev pub EachEndIsLast : Type 0
EachEndIsLast = (s t : Stage) (k : ℕ) (sp : Speaker) (acts : List Act) → slice_get s.speakers k ≡ Some sp → sp.rest ≡ Ending → GoesOn k s acts t → HasEnded t.speakers k
    → (c : ℕ) → sp.clients.first ≤ c → c < sp.clients.end → IsQuiet t.at.fleet.talk c

-- ---- lists

-- A list that is told line by line is the text that `fleet talk` says at once, each line under the mark: the lines after none, after one, and so on, to the one that says how many errands they are
abbrev pub EachListIsWhole : Type 0
EachListIsWhole = (mark : Option (List ℕ)) (client : ℕ) (errands : List OpenErrand)
    → flat_map (λ n. marked mark (line_listed client errands n)) (range_with_len 0 (length errands + 1)) ≡ marked mark (open_text client errands)
