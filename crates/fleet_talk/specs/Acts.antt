-- What is done act by act, and what is said of it.
use Rattle.std.specs.Prelude.{◌≡◌, ℕ, ◌+◌, Bool, true, false, ◌||◌, List, [], ◌∷◌, ◌++◌, length, Option, Some, None, ◌⊎◌, slice_get, ◌-◌}
use Rattle.fleet_book.specs.declared.event.Event.{Event}
use Rattle.fleet_book.specs.declared.event.Event.TheVariants as event
use Rattle.fleet_history.specs.declared.history.Entry.{Entry}
use Rattle.fleet_core.specs.declared.faults.TakeFault.TheVariants as take_fault
use Rattle.fleet_core.specs.declared.faults.TickFault.TheVariants as tick_fault
use Rattle.fleet_core.specs.declared.faults.ShutFault.TheVariants as shut_fault
use Rattle.fleet_world.specs.declared.reply.Reply.{Reply}
use Rattle.fleet_world.specs.declared.reply.Reply.TheVariants.{TakeRefused, TickRefused, ShutRefused}
use Rattle.fleet_text.specs.Output.{event_text, is_limit_met}
use Rattle.fleet_world.specs.Talk.{Talk, TalkStep, next_talk}
use Rattle.fleet_talk.specs.Act.{Act, say, play, turn, show, list, refuse}
use Rattle.fleet_talk.specs.Door.{refused_post_text}
use Rattle.fleet_talk.specs.Fleet.{Fleet}
use Rattle.fleet_text.specs.Answers.{chapter_line, chapter_refused_line}
use Rattle.fleet_talk.specs.Says.{marked}
use Rattle.fleet_talk.specs.Look.{IsLook}
use Rattle.fleet_talk.specs.Long.{IsLong}
use Rattle.fleet_talk.specs.Listed.{listed_text}

-- whether this reply, where a full chapter may be handed out, is the refusal of an event for whose entry the chapter has no room
abbrev pub wants_room : Option ℕ → Reply → Bool
wants_room (Some roll) (TakeRefused take_fault.ChapterFull) = true
wants_room (Some roll) (TickRefused tick_fault.ChapterFull) = true
wants_room (Some roll) (ShutRefused shut_fault.ChapterFull) = true
wants_room _ _ = false

-- an event is refused, and only because the chapter has no room for its entry
abbrev pub NeedsRoom : {A : Type 0} → Talk A → Event → Type 0
NeedsRoom s (event.Take client) = TalkStep s (event.Take client) (TakeRefused take_fault.ChapterFull) s
NeedsRoom s event.Tick = TalkStep s event.Tick (TickRefused tick_fault.ChapterFull) s
NeedsRoom s (event.Shut robot) = TalkStep s (event.Shut robot) (ShutRefused shut_fault.ChapterFull) s
NeedsRoom s _ = ⊥

-- the entry that was made last in a chapter
abbrev pub last_entry : {A : Type 0} → Talk A → Option (Entry A)
last_entry s = slice_get s.world.history.entries (length s.world.history.entries - 1)

-- the chapter was handed out, or it was the last
pub data HandsOut {A : Type 0} (s : Talk A) (mark : Option (List ℕ)) (text : List ℕ) (t : Talk A) : Type 0 where
  handed : t ≡ next_talk s → text ≡ marked mark (chapter_line s.world.number (length s.world.history.entries)) → HandsOut s mark text t
  spent : s.world.number + 1 ≡ s.world.limits.chapters → t ≡ s → text ≡ marked mark chapter_refused_line → HandsOut s mark text t

-- before an event the chapter is to be handed out unasked: the event needs the room, or the text may be as long as a chapter's may be
abbrev pub IsDue : {A : Type 0} → Option ℕ → Talk A → Event → Type 0
IsDue None s e = ⊥
IsDue (Some roll) s e = NeedsRoom s e ⊎ IsLong roll s e

-- before an event: the chapter was handed out unasked, if that is to be and it is not the last
pub data Rolls {A : Type 0} (roll : Option ℕ) (s : Talk A) (mark : Option (List ℕ)) (e : Event) (text : List ℕ) (t : Talk A) : Type 0 where
  stays : (IsDue roll s e → s.world.number + 1 ≡ s.world.limits.chapters) → t ≡ s → text ≡ [] → Rolls roll s mark e text t
  rolls : IsDue roll s e → t ≡ next_talk s → text ≡ marked mark (chapter_line s.world.number (length s.world.history.entries)) → Rolls roll s mark e text t

-- the event was done, and this was said of its reply, which may be that a limit was met
pub record Plays {A : Type 0} (s : Fleet A) (mark : Option (List ℕ)) (e : Event) (text : List ℕ) (t : Fleet A) : Type 0 where
  pub reply : Reply
  pub step : TalkStep s.talk e reply t.talk
  pub met : t.met ≡ (s.met || is_limit_met reply)
  pub said : text ≡ marked mark (event_text e reply (last_entry t.talk))

-- From s, an act may come to t, and this text is said of it.
abbrev pub Does : {A : Type 0} → Option ℕ → Fleet A → Act → List ℕ → Fleet A → Type 0
Does roll s (say mark line) text t = (text ≡ marked mark line) × (t ≡ s)
Does {A} roll s (play mark e) text t =
    (mid : Talk A) × (before : List ℕ) × (after : List ℕ) × Rolls roll s.talk mark e before mid × Plays (record { talk = mid; met = s.met }) mark e after t × (text ≡ before ++ after)
Does roll s (turn mark) text t = HandsOut s.talk mark text t.talk × (t.met ≡ s.met)
Does roll s (show mark) text t = (line : List ℕ) × IsLook s.talk.world line × (text ≡ marked mark line) × (t ≡ s)
Does roll s (list mark client) text t = (text ≡ marked mark (listed_text s.talk.world client)) × (t ≡ s)
Does roll s (refuse mark client) text t = (text ≡ marked mark (refused_post_text s.talk.world client)) × (t ≡ s)

-- acts one after another, and all that is said of them
abbrev pub Talks : {A : Type 0} → Option ℕ → Fleet A → List Act → List ℕ → Fleet A → Type 0
Talks roll s [] text t = (text ≡ []) × (t ≡ s)
Talks {A} roll s (act ∷ acts) text t = (mid : Fleet A) × (first : List ℕ) × (rest : List ℕ) × Does roll s act first mid × Talks roll mid acts rest t × (text ≡ first ++ rest)
