-- Events that may find the chapter full.
use Rattle.std.specs.Prelude.{◌≡◌, ◌+◌, Bool, true, false, List, [], ◌∷◌, ◌++◌}
use Rattle.std.specs.declared.alloc.Global.{Global}
use Rattle.fleet_book.specs.declared.event.Event.{Event}
use Rattle.fleet_core.specs.Core.{World}
use Rattle.fleet_core.specs.declared.faults.TakeFault.TheVariants as take_fault
use Rattle.fleet_core.specs.declared.faults.TickFault.TheVariants as tick_fault
use Rattle.fleet_core.specs.declared.faults.ShutFault.TheVariants as shut_fault
use Rattle.fleet_world.specs.declared.reply.Reply.{Reply}
use Rattle.fleet_world.specs.declared.reply.Reply.TheVariants.{TakeRefused, TickRefused, ShutRefused}
use Rattle.fleet_world.specs.Talk.{Talk, next_talk}
use Rattle.fleet_talk.specs.Chapters.{ChapterView, IsSound, chapter_in}
use Rattle.live_fleet.specs.Act.{Act, did, full, handed}
use Rattle.live_fleet.specs.Went.{At, Went}

-- whether this reply is the refusal of an event for whose entry the chapter has no room
abbrev pub wants_room : Reply → Bool
wants_room (TakeRefused take_fault.ChapterFull) = true
wants_room (TickRefused tick_fault.ChapterFull) = true
wants_room (ShutRefused shut_fault.ChapterFull) = true
wants_room _ = false

-- no chapter can follow
abbrev pub IsLast : World Global → Type 0
IsLast w = w.number + 1 ≡ w.limits.chapters

-- the chapter joined these, or it was the last
abbrev pub HandsOver : Talk Global → List (ChapterView Global) → Bool → Talk Global → List (ChapterView Global) → Type 0
HandsOver s before true t after = IsSound s.world.turns s.world.floor s.world.history × (t ≡ next_talk s) × (after ≡ before ++ chapter_in s.world ∷ [])
HandsOver s before false t after = IsLast s.world × (t ≡ s) × (after ≡ before)

-- the chapter was handed out, or it was the last
abbrev pub HandsOut : At → Bool → List Act → At → Type 0
HandsOut a true acts b = (acts ≡ handed (chapter_in a.fleet.talk.world) ∷ []) × Went a acts b
HandsOut a false acts b = IsLast a.fleet.talk.world × (acts ≡ []) × (b ≡ a)

-- an event was done; where the chapter had no room for its entry, in the next one
pub data StepsOn (e : Event) (reply : Reply) (a : At) (acts : List Act) (b : At) : Type 0 where
  here : acts ≡ did e reply ∷ [] → (wants_room reply ≡ true → IsLast a.fleet.talk.world) → Went a acts b → StepsOn e reply a acts b
  next : acts ≡ full e ∷ handed (chapter_in a.fleet.talk.world) ∷ did e reply ∷ [] → Went a acts b → StepsOn e reply a acts b
