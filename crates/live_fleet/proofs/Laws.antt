-- Runs, and the chapters that are handed out in them.
use Rattle.std.proofs.Common.{◌≡◌, ◌∙◌, List, Option, [], ◌∷◌, ◌++◌, refl, sym, ap, subst}
use Rattle.std.specs.List.{AllByRecursion}
use Rattle.std.specs.declared.alloc.Global.{Global}
use Rattle.fleet_grid.specs.Floor.{Floor}
use Rattle.fleet_bound.proofs.BoundLaws.{bounded-legal}
use Rattle.turns_law.specs.Turns.{Turns}
use Rattle.fleet_history.specs.History.{History}
use Rattle.fleet_history.proofs.Arrivals.{arrives-legal, arrivals_rise-legal}
use Rattle.fleet_history.proofs.Legal.{no_conflict-legal, none_closed-legal}
use Rattle.fleet_history.proofs.Once.{numbered-legal}
use Rattle.fleet_book.specs.declared.event.Event.TheVariants.{Collect}
use Rattle.fleet_world.specs.declared.reply.Reply.TheVariants.{Collected}
use Rattle.fleet_world.specs.Talk.{Talk}
use Rattle.fleet_talk.specs.Chapters.{AreTurned, Beginning, ChapterView, IsFrom, IsSound, beginning, chapter_in, next_beginning}
use Rattle.fleet_talk.proofs.Keeping.{step-beginning}
use Rattle.live_fleet.specs.Act.{Act, Runs, did, full, handed, told, said, grew}
use Rattle.live_fleet.specs.Law.{IsSafe}
use Rattle.live_fleet.specs.Out.{chapters_of}

-- from a state that begins alike
from_alike : (m s t : Talk Global) (acts : List Act) → beginning m.world ≡ beginning s.world → AreTurned (beginning m.world) (chapters_of acts) (beginning t.world) → AreTurned (beginning s.world) (chapters_of acts) (beginning t.world)
from_alike m s t acts alike turned = subst (λ (b : Beginning Global). AreTurned b (chapters_of acts) (beginning t.world)) alike turned

pub runs-turned : (s : Talk Global) (acts : List Act) (t : Talk Global) → Runs s acts t → AreTurned (beginning s.world) (chapters_of acts) (beginning t.world)
runs-turned s [] t same = ap (λ (x : Talk Global). beginning x.world) same
runs-turned s (did e reply ∷ acts) t (m, step, runs) = from_alike m s t acts (step-beginning s m e reply step) (runs-turned m acts t runs)
runs-turned s (full e ∷ acts) t (m, (needs, same), runs) = from_alike m s t acts (ap (λ (x : Talk Global). beginning x.world) same) (runs-turned m acts t runs)
runs-turned s (handed c ∷ acts) t (m, (is, sound, next), runs) =
    let from : IsFrom (beginning s.world) (chapter_in s.world) = record { number = refl; opening = refl; sound = sound } in
    let more : AreTurned (next_beginning (beginning s.world) s.world.history) (chapters_of acts) (beginning t.world) =
    subst (λ (b : Beginning Global). AreTurned b (chapters_of acts) (beginning t.world)) (ap (λ (x : Talk Global). beginning x.world) next) (runs-turned m acts t runs) in
    subst (λ (x : ChapterView Global). IsFrom (beginning s.world) x × AreTurned (next_beginning (beginning s.world) x.history) (chapters_of acts) (beginning t.world)) (sym is) (from, more)
runs-turned s (told to client notice ∷ acts) t (m, step, runs) = from_alike m s t acts (step-beginning s m (Collect client) (Collected notice) step) (runs-turned m acts t runs)
runs-turned s (said to text ∷ acts) t (m, same, runs) = from_alike m s t acts (ap (λ (x : Talk Global). beginning x.world) same) (runs-turned m acts t runs)
runs-turned s (grew client extra ∷ acts) t (m, same, runs) = from_alike m s t acts (ap (λ (x : Talk Global). beginning x.world) same) (runs-turned m acts t runs)

-- ---- what holds of each history that is handed out

sound_safe : (turns : Option Turns) (m : Floor) (h : History Global) → IsSound turns m h → IsSafe turns m h
sound_safe turns m h sound = record {
  conflicts = no_conflict-legal m h sound.legal;
  arrivals = arrives-legal m h sound.legal;
  rise = arrivals_rise-legal m h sound.legal;
  closes = none_closed-legal m h sound.legal;
  numbered = λ c. numbered-legal m h c sound.legal;
  advancing = sound.advancing;
  bounded = λ none roomy begins. bounded-legal m h sound.legal (sound.advancing none roomy) begins;
  served = sound.served;
}

pub turned-safe : (b : Beginning Global) (chapters : List (ChapterView Global)) (end : Beginning Global) → AreTurned b chapters end → AllByRecursion (λ (x : ChapterView Global). IsSafe b.turns b.floor x.history) chapters
turned-safe b [] end same = tt
turned-safe b (x ∷ chapters) end (from, turned) = (sound_safe b.turns b.floor x.history from.sound, turned-safe (next_beginning b x.history) chapters end turned)
