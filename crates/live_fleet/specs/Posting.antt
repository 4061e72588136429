-- Posts.
use Rattle.std.specs.Prelude.{◌≡◌, ℕ, ◌+◌, ◌≤◌, ◌<◌, Bool, true, false, List, [], ◌∷◌, ◌++◌, Option, Some, Result, Ok, Err, slice_get, slice_set}
use Rattle.std.specs.declared.alloc.Global.{Global}
use Rattle.fleet_book.specs.declared.event.Event.TheVariants.{Post}
use Rattle.fleet_book.specs.declared.order.Order.{Order}
use Rattle.fleet_book.specs.declared.order.Order.TheVariants.{Close}
use Rattle.fleet_lanes.specs.declared.fault.PostFault.{PostFault}
use Rattle.fleet_lanes.specs.declared.fault.PostFault.TheVariants as post_fault
use Rattle.fleet_text.specs.Answers.{post_text}
use Rattle.fleet_talk.specs.Says.{marked}
use Rattle.fleet_world.specs.declared.reply.Reply.TheVariants.{LaneFull, Posted}
use Rattle.fleet_world.specs.Talk.{Talk, TalkStep}
use Rattle.live_fleet.specs.declared.notes.Note.{Note}
use Rattle.live_fleet.specs.declared.speaker.Speaker.{Speaker}
use Rattle.live_fleet.specs.Act.{Act, did}
use Rattle.live_fleet.specs.Answering.{Answers}
use Rattle.live_fleet.specs.Party.{Stage, with_at}
use Rattle.live_fleet.specs.Turning.{Settles}
use Rattle.live_fleet.specs.Went.{At, Went}

-- whether an order is a close
abbrev pub is_close : Order → Bool
is_close Close = true
is_close _ = false

-- only the number that is kept for a close is left to a client
abbrev pub AreSpent : Note → Talk Global → Type 0
AreSpent note s = s.world.limits.orders ≤ note.last + 1

-- What a post of a client comes to, by what is known of its posts, and what is known then. It is refused in this order: the client posted a close, only the number that is kept for a close is
-- left, its lane is full
pub data IsPosted (client : ℕ) (order : Order) (posted : Result ℕ PostFault) (note new : Note) (s : Talk Global) (acts : List Act) (t : Talk Global) : Type 0 where
  closed : note.closed ≡ true → posted ≡ Err post_fault.Closed → acts ≡ [] → t ≡ s → new ≡ note → IsPosted client order posted note new s acts t
  spent : note.closed ≡ false → is_close order ≡ false → AreSpent note s → posted ≡ Err (post_fault.NumbersSpent order) → acts ≡ [] → t ≡ s → new ≡ note → IsPosted client order posted note new s acts t
  full : note.closed ≡ false → (is_close order ≡ false → AreSpent note s → ⊥) → posted ≡ Err (post_fault.LaneFull order) → acts ≡ did (Post client order) LaneFull ∷ [] → TalkStep s (Post client order) LaneFull t → new ≡ note
      → IsPosted client order posted note new s acts t
  ok : note.closed ≡ false → (is_close order ≡ false → AreSpent note s → ⊥) → (n : ℕ) → posted ≡ Ok n → acts ≡ did (Post client order) (Posted n) ∷ [] → TalkStep s (Post client order) (Posted n) t
      → new ≡ record { closed = is_close order; last = n } → IsPosted client order posted note new s acts t

-- all is told, the orders that wait are judged, and all is told
abbrev pub SettlesAll : Stage → List Act → Stage → Type 0
SettlesAll s acts t = Settles s.speakers s.clients s.at acts t.at × (t ≡ with_at s t.at)

-- an order that was posted is judged at once where there is room
abbrev pub SettlesIf : Result ℕ PostFault → Stage → List Act → Stage → Type 0
SettlesIf (Ok n) s acts t = SettlesAll s acts t
SettlesIf (Err fault) s acts t = (acts ≡ []) × (t ≡ s)

-- a post of a client for whom the conversation speaks: it is answered, and then judged
pub record Posts (k : ℕ) (sp : Speaker) (mark : Option (List ℕ)) (client : ℕ) (order : Order) (s : Stage) (acts : List Act) (t : Stage) : Type 0 where
  pub posted : Result ℕ PostFault
  pub note : Note
  pub new : Note
  pub known : slice_get s.notes client ≡ Some note
  pub first : List Act
  pub one : Stage
  pub is : IsPosted client order posted note new s.at.fleet.talk first one.at.fleet.talk
  pub went : Went s.at first one.at
  pub same : one ≡ record s { at = one.at; notes = slice_set s.notes client new }
  pub second : List Act
  pub two : Stage
  pub answers : Answers k sp (marked mark (post_text client posted)) one second two
  pub third : List Act
  pub settles : SettlesIf posted two third t
  pub parts : acts ≡ first ++ (second ++ third)
