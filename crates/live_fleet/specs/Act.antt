-- What a fleet of many conversations does and says, act by act. Without what is said it is a run of the core.
use Rattle.std.specs.Prelude.{◌≡◌, ℕ, Bool, false, ◌||◌, List, [], ◌∷◌}
use Rattle.std.specs.List.{list_any}
use Rattle.std.specs.declared.alloc.Global.{Global}
use Rattle.fleet_book.specs.declared.event.Event.{Event}
use Rattle.fleet_book.specs.declared.event.Event.TheVariants.{Collect}
use Rattle.fleet_book.specs.declared.notice.Notice.{Notice}
use Rattle.fleet_core.specs.Core.{widened}
use Rattle.fleet_text.specs.Output.{is_limit_met}
use Rattle.fleet_world.specs.declared.reply.Reply.{Reply}
use Rattle.fleet_world.specs.declared.reply.Reply.TheVariants.{Collected}
use Rattle.fleet_world.specs.Talk.{Talk, TalkStep, next_talk, talk_of}
use Rattle.fleet_talk.specs.Acts.{NeedsRoom}
use Rattle.fleet_talk.specs.Chapters.{ChapterView, IsSound, chapter_in}

-- one thing that a fleet does, or says to a conversation
pub data Act : Type 0 where
  -- an event is done, of which nothing is said
  did : Event → Reply → Act
  -- an event waits for the next chapter, since this one is full
  full : Event → Act
  -- the chapter is handed out
  handed : ChapterView Global → Act
  -- a client collects a notice, which is told to a conversation
  told : (to client : ℕ) → Notice → Act
  -- a text is said to a conversation
  said : (to : ℕ) → List ℕ → Act
  -- a client's mailbox may hold this much more
  grew : (client extra : ℕ) → Act

-- an act brings a fleet from s to t
abbrev pub Acts : Talk Global → Act → Talk Global → Type 0
Acts s (did e reply) t = TalkStep s e reply t
Acts s (full e) t = NeedsRoom s e × (t ≡ s)
Acts s (handed c) t = (c ≡ chapter_in s.world) × IsSound s.world.turns s.world.floor s.world.history × (t ≡ next_talk s)
Acts s (told to client notice) t = TalkStep s (Collect client) (Collected notice) t
Acts s (said to text) t = t ≡ s
Acts s (grew client extra) t = t ≡ talk_of (widened s.world client extra) s.clients

-- the same of acts one after another
abbrev pub Runs : Talk Global → List Act → Talk Global → Type 0
Runs s [] t = t ≡ s
Runs s (act ∷ acts) t = (m : Talk Global) × Acts s act m × Runs m acts t

-- whether an act is the refusal of an event that met a limit
abbrev pub meets_limit : Act → Bool
meets_limit (did e reply) = is_limit_met reply
meets_limit _ = false

-- whether a limit was met in one of the acts
abbrev pub met_by : List Act → Bool
met_by acts = list_any meets_limit acts
