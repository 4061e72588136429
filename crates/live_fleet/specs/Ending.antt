-- How a fleet ends.
use Rattle.std.specs.Prelude.{◌≡◌, ℕ, ◌+◌, ◌-◌, ◌≤◌, ◌<◌, ◌⊎◌, Bool, false, true, List, [], length, map, if◌then◌else◌}
use Rattle.std.specs.List.{AllByRecursion, range_with_len}
use Rattle.std.specs.declared.alloc.Global.{Global}
use Rattle.fleet_book.specs.declared.event.Event.TheVariants.{Take}
use Rattle.fleet_core.specs.Core.{World, HasNoEntries, pending}
use Rattle.fleet_core.specs.declared.faults.TakeFault.TheVariants as take_fault
use Rattle.fleet_history.specs.History.{clients, owed}
use Rattle.fleet_world.specs.declared.reply.Reply.{Reply}
use Rattle.fleet_world.specs.declared.reply.Reply.TheVariants.{TakeRefused}
use Rattle.fleet_world.specs.Talk.{Talk, waiting}
use Rattle.live_fleet.specs.declared.rest.Rest.{Rest}
use Rattle.live_fleet.specs.declared.rest.Rest.TheVariants as rest
use Rattle.live_fleet.specs.declared.speaker.Speaker.{Speaker}
use Rattle.live_fleet.specs.Act.{Act, did, full, handed, grew}
use Rattle.live_fleet.specs.Party.{Stage, resting}
use Rattle.live_fleet.specs.Went.{At, Each, Went}

-- an answer that waits for room is said at the end too, and where all was said nothing is left
abbrev pub stays_at_end : Rest → Bool
stays_at_end (rest.Line text) = true
stays_at_end (rest.Listing list) = true
stays_at_end rest.Ended = true
stays_at_end _ = false

-- what is left of an answer once the fleet has ended
abbrev pub rest_at_end : Rest → Rest
rest_at_end left = if stays_at_end left then left else rest.Ending

-- a conversation once the fleet has ended
abbrev pub at_end : Speaker → Speaker
at_end sp = resting sp (rest_at_end sp.rest)

-- an order of this client is judged, its mailbox grows, or the chapter is handed out for that
abbrev pub IsClosing : ℕ → Act → Type 0
IsClosing client (did (Take c) reply) = c ≡ client
IsClosing client (full (Take c)) = c ≡ client
IsClosing client (handed c) = Unit {0}
IsClosing client (grew c extra) = c ≡ client
IsClosing client _ = ⊥

-- whether this reply is the refusal of an order for which the mailbox has no room
abbrev pub wants_mailbox : Reply → Bool
wants_mailbox (TakeRefused take_fault.MailboxFull) = true
wants_mailbox _ = false

-- how much more the mailbox of a client has to hold for its next order
abbrev pub missing_room : World Global → ℕ → ℕ
missing_room w client = length (pending w client).notices + owed w.history client + 2 - (pending w client).limit

-- No order of a client is left that can be judged, whatever room its mailbox has: there is no such client, none waits, or the last chapter is full. A client without a mailbox is judged nothing; in a
-- world that was opened each has one
abbrev pub NoneLeft : Talk Global → ℕ → Type 0
NoneLeft s client = (clients s.world.history ≤ client) ⊎ ((waiting s client).lane ≡ []) ⊎ HasNoEntries s.world ⊎ (length s.world.mailboxes ≤ client)

-- the next order of a client was judged, in a mailbox that grew for it if it had no room; or none is left
pub record TakesNext (client : ℕ) (more : Bool) (a : At) (acts : List Act) (b : At) : Type 0 where
  pub went : Went a acts b
  pub only : AllByRecursion (IsClosing client) acts
  pub fewer : more ≡ true → length (waiting b.fleet.talk client).lane < length (waiting a.fleet.talk client).lane
  pub whole : more ≡ false → NoneLeft b.fleet.talk client

-- all orders of a client are judged
pub record TakesLeft (client : ℕ) (a : At) (acts : List Act) (b : At) : Type 0 where
  pub went : Went a acts b
  pub only : AllByRecursion (IsClosing client) acts
  pub whole : NoneLeft b.fleet.talk client

-- those of each client are judged. From then on each conversation is told what is left, after what waits of its last answer
pub record Ends (s : Stage) (acts : List Act) (t : Stage) : Type 0 where
  pub takes : Each TakesLeft (range_with_len 0 s.clients) s.at acts t.at
  pub same : t ≡ record s { at = t.at; speakers = map at_end s.speakers; is_over = true; has_ended = true }
