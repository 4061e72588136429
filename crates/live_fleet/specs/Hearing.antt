-- What is done at a line.
use Rattle.std.specs.Prelude.{◌≡◌, ℕ, ◌+◌, nat_lt, List, [], Option, Some, slice_get, if◌then◌else◌}
use Rattle.std.specs.declared.alloc.Global.{Global}
use Rattle.fleet_book.specs.declared.order.Order.{Order}
use Rattle.fleet_core.specs.OpenErrands.{open_errands}
use Rattle.fleet_history.specs.History.{History}
use Rattle.fleet_text.specs.Answers.{bad_line, no_room_line, watch_line}
use Rattle.fleet_talk.specs.Ask.{Line}
use Rattle.fleet_talk.specs.Door.{line_let_in}
use Rattle.fleet_talk.specs.Says.{marked}
use Rattle.live_parts.specs.Demand.{demand_of}
use Rattle.live_parts.specs.declared.demand.Demand.{Demand}
use Rattle.live_parts.specs.declared.demand.Demand.TheVariants as demand
use Rattle.live_fleet.specs.declared.rest.Rest.{Rest}
use Rattle.live_fleet.specs.declared.rest.Rest.TheVariants as rest
use Rattle.live_fleet.specs.declared.rest.Rows.{Rows}
use Rattle.live_fleet.specs.declared.rest.Rows.TheVariants.{Errands}
use Rattle.live_fleet.specs.declared.speaker.Speaker.{Speaker}
use Rattle.live_fleet.specs.Act.{Act}
use Rattle.live_fleet.specs.Answering.{Answers, mark_kept}
use Rattle.live_fleet.specs.Asking.{Grants}
use Rattle.live_fleet.specs.Ending.{Ends}
use Rattle.live_fleet.specs.Hello.{HearsHello}
use Rattle.live_fleet.specs.Numbered.{HearsPostAs}
use Rattle.live_fleet.specs.Own.{IfOwn, is_own}
use Rattle.live_fleet.specs.Party.{Stage, with_rest, with_speaker}
use Rattle.live_fleet.specs.Posting.{Posts, SettlesAll}
use Rattle.live_fleet.specs.Robots.{HearsRobots}
use Rattle.live_fleet.specs.Sessions.{mark_len, session_line, since_text, standing_at}

-- ---- the open errands of a client

-- the rows are the client's open errands
abbrev pub AreErrands : ℕ → History Global → Rows → Type 0
AreErrands client h (Errands c errands) = (c ≡ client) × (errands.items ≡ open_errands h client)
AreErrands client h _ = ⊥

-- all of these are to be told, from the first on
abbrev pub IsListing : Option (List ℕ) → ℕ → History Global → Rest → Type 0
IsListing shown client h (rest.Listing list) = (mark_kept list.mark ≡ shown) × AreErrands client h list.rows × (list.listed ≡ 0)
IsListing shown client h _ = ⊥

-- what was posted is judged, and then the open errands are to be told
pub record Opens (k : ℕ) (sp : Speaker) (mark : Option (List ℕ)) (client : ℕ) (s : Stage) (acts : List Act) (t : Stage) : Type 0 where
  pub mid : Stage
  pub settles : SettlesAll s acts mid
  pub left : Rest
  pub lists : IsListing mark client mid.at.fleet.talk.world.history left
  pub is : t ≡ with_rest mid k sp left

-- ---- a line

-- a post is done, if the conversation speaks for the client
abbrev pub HearsPost : ℕ → Speaker → Option (List ℕ) → ℕ → Order → Stage → List Act → Stage → Type 0
HearsPost k sp mark client order s acts t = IfOwn (is_own sp.clients s.clients client) (Posts k sp mark client order s acts t) k sp mark client s acts t

-- a post to a cell that is not roomy is refused, if the conversation speaks for the client
abbrev pub HearsNoRoom : ℕ → Speaker → Option (List ℕ) → ℕ → Stage → List Act → Stage → Type 0
HearsNoRoom k sp mark client s acts t = IfOwn (is_own sp.clients s.clients client) (Answers k sp (marked mark (no_room_line client)) s acts t) k sp mark client s acts t

-- the open errands are listed, if the conversation speaks for the client
abbrev pub HearsOpen : ℕ → Speaker → Option (List ℕ) → ℕ → Stage → List Act → Stage → Type 0
HearsOpen k sp mark client s acts t = IfOwn (is_own sp.clients s.clients client) (Opens k sp mark client s acts t) k sp mark client s acts t

-- a client that comes again is told how far the fleet is with it
abbrev pub HearsSession : ℕ → Speaker → Option (List ℕ) → ℕ → Stage → List Act → Stage → Type 0
HearsSession k sp mark client s acts t = IfOwn (is_own sp.clients s.clients client) (Answers k sp (marked mark (session_line (standing_at s.notes s.at.fleet.recalls client))) s acts t) k sp mark client s acts t

-- a client that comes again is told once more what it was told after the notice of this number
abbrev pub HearsSince : ℕ → Speaker → Option (List ℕ) → (client seq : ℕ) → Stage → List Act → Stage → Type 0
HearsSince k sp mark client seq s acts t = IfOwn (is_own sp.clients s.clients client) (Answers k sp (marked mark (since_text s.at.fleet.recalls (mark_len mark) client seq)) s acts t) k sp mark client s acts t

-- what is done at what a line asks
abbrev pub Obeys : ℕ → Speaker → Line → Demand → Stage → List Act → Stage → Type 0
Obeys k sp line demand.Nothing s acts t = (acts ≡ []) × (t ≡ s)
Obeys k sp line (demand.Post client order) s acts t = HearsPost k sp line.mark client order s acts t
Obeys k sp line (demand.PostAs post) s acts t = HearsPostAs k sp line.mark post s acts t
Obeys k sp line (demand.NoRoom client) s acts t = HearsNoRoom k sp line.mark client s acts t
Obeys k sp line (demand.Open client) s acts t = HearsOpen k sp line.mark client s acts t
Obeys k sp line (demand.Session client) s acts t = HearsSession k sp line.mark client s acts t
Obeys k sp line (demand.Since client seq) s acts t = HearsSince k sp line.mark client seq s acts t
Obeys k sp line demand.Hello s acts t = HearsHello k sp line.mark s acts t
Obeys k sp line demand.Robots s acts t = HearsRobots k sp line.mark s acts t
Obeys k sp line (demand.Ask wanted) s acts t = Grants k sp line.mark wanted s acts t
Obeys k sp line (demand.Watch on) s acts t = Answers k (record sp { watching = on }) (marked line.mark (watch_line on)) (with_speaker s k (record sp { watching = on })) acts t
Obeys k sp line demand.Quit s acts t = Ends s acts t
Obeys k sp line demand.Bad s acts t = Answers k sp (marked line.mark (bad_line line.number)) s acts t

-- the number of the next line. Lines are counted up to this many
abbrev pub next_number : ℕ → ℕ
next_number lines = if nat_lt lines 18446744073709551615 then lines + 1 else lines

-- a conversation with one more line
abbrev pub numbered : Speaker → Speaker
numbered sp = record sp { lines = next_number sp.lines }

-- a line of a conversation is heard: it is the next one
pub record HearsLine (k : ℕ) (bytes : List ℕ) (s : Stage) (acts : List Act) (t : Stage) : Type 0 where
  pub before : Speaker
  pub speaks : slice_get s.speakers k ≡ Some before
  pub speaker : Speaker
  pub counts : speaker ≡ numbered before
  pub line : Line
  pub is : line ≡ line_let_in s.door.refused speaker.lines bytes
  pub obeys : Obeys k speaker line (demand_of speaker.rights line.asked line.told) (with_speaker s k speaker) acts t
