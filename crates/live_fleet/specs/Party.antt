-- A fleet, and the conversations that share it, without where their lists lie in memory.
use Rattle.std.specs.Prelude.{◌≡◌, ℕ, Bool, false, List, length, map, slice_set}
use Rattle.std.specs.List.{range_with_len}
use Rattle.std.specs.declared.alloc.Global.{Global}
use Rattle.fleet_bridge.specs.Roominess.{AreRoomyFor}
use Rattle.fleet_history.specs.History.{History, clients, taken_count}
use Rattle.fleet_talk.specs.declared.door.Door.{Door}
use Rattle.live_fleet.specs.declared.cue.Cue.{Cue}
use Rattle.live_fleet.specs.declared.cue.Cue.TheVariants as cue
use Rattle.live_fleet.specs.declared.notes.Note.{Note}
use Rattle.live_fleet.specs.declared.outboxes.Outboxes.{Outboxes}
use Rattle.live_fleet.specs.declared.party.Party.{Party}
use Rattle.live_fleet.specs.declared.rest.Rest.{Rest}
use Rattle.live_fleet.specs.declared.speaker.Speaker.{Speaker}
use Rattle.live_fleet.specs.Out.{Out}
use Rattle.live_fleet.specs.Went.{At, at_of}

-- the cells to which posts are refused, and for how many robots each cell is roomy
pub record DoorView : Type 0 where
  pub refused : List Bool
  pub roominess : List ℕ

-- a door without where its lists lie in memory
abbrev pub door_shown : Door → DoorView
door_shown d = record { refused = d.refused.marks.items; roominess = d.roominess.items }

-- what is done and said, who speaks, and what is known of each client's posts
pub record Stage : Type 0 where
  pub at : At
  -- how many clients there are
  pub clients : ℕ
  pub door : DoorView
  -- by conversation
  pub speakers : List Speaker
  -- by client
  pub notes : List Note
  -- no turn can follow
  pub is_over : Bool
  -- the end was heard
  pub has_ended : Bool

-- a party of the program with its outboxes, without where their lists lie in memory
abbrev pub stage_of : {f g h : Type 0} {F : f → Type 0} {G : g → Type 0} {H : h → Type 0} {k l m : _} → Party f g h F G H k l m → Outboxes → Stage
stage_of p o = record {
  at = at_of p.fleet o;
  clients = p.clients;
  door = door_shown p.door;
  speakers = p.speakers.items;
  notes = p.notes.items;
  is_over = p.is_over;
  has_ended = p.has_ended;
}

-- what a fleet hears of
pub data Heard : Type 0 where
  -- a line of a conversation
  line : (from : ℕ) → List ℕ → Heard
  -- there may be room for what a conversation is to be told
  room : (to : ℕ) → Heard
  -- what is left of a conversation's answer is to go on
  rest : (from : ℕ) → Heard
  -- of the turns that are left for a conversation no more than one is to be made
  last : (from : ℕ) → Heard
  turn : Heard
  -- the chapter is due
  due : Heard
  -- the chapter of this number was kept
  kept : ℕ → Heard
  end : Heard

-- what a fleet hears of, by the cue of the program
abbrev pub heard_of : Cue → Heard
heard_of (cue.Line from bytes) = line from bytes.now
heard_of (cue.Room to) = room to
heard_of (cue.Rest from) = rest from
heard_of (cue.Last from) = last from
heard_of cue.Turn = turn
heard_of cue.Due = due
heard_of (cue.Kept chapter) = kept chapter
heard_of cue.End = end

-- the stage with another fleet
abbrev pub with_at : Stage → At → Stage
with_at s at = record s { at = at }

-- the stage where other texts and chapters wait
abbrev pub with_out : Stage → Out → Stage
with_out s out = with_at s (record { fleet = s.at.fleet; out = out })

-- the stage with another state of one conversation
abbrev pub with_speaker : Stage → ℕ → Speaker → Stage
with_speaker s k sp = record s { speakers = slice_set s.speakers k sp }

-- a conversation with this left of its answer
abbrev pub resting : Speaker → Rest → Speaker
resting sp left = record sp { rest = left }

-- the stage with this left of one conversation's answer
abbrev pub with_rest : Stage → ℕ → Speaker → Rest → Stage
with_rest s k sp left = with_speaker s k (resting sp left)

-- what is known of the clients of a fleet that just begins or goes on: nobody posted
abbrev pub new_notes : History Global → List Note
new_notes h = map (λ c. record { closed = false; last = taken_count h c }) (range_with_len 0 (clients h))

-- the door knows for how many robots each cell of the fleet's map is roomy
abbrev pub IsDoorOf : Stage → Type 0
IsDoorOf s = AreRoomyFor s.at.fleet.talk.world.floor s.door.roominess

-- each conversation has its text, and each client its note
pub record IsWhole (s : Stage) : Type 0 where
  pub texts : length s.at.out.texts ≡ length s.speakers
  pub count : s.clients ≡ clients s.at.fleet.talk.world.history
  pub notes : length s.notes ≡ s.clients
