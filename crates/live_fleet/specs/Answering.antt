-- How answers are said.
use Rattle.std.specs.Prelude.{◌≡◌, ℕ, List, [], ◌∷◌, length, Option, Vec}
use Rattle.std.specs.Option.{option_map}
use Rattle.std.specs.declared.alloc.Global.{Global}
use Rattle.live_fleet.specs.declared.rest.Rest.{Rest}
use Rattle.live_fleet.specs.declared.rest.Rest.TheVariants.{Nothing, Line}
use Rattle.live_fleet.specs.declared.speaker.Speaker.{Speaker}
use Rattle.live_fleet.specs.Act.{Act, said}
use Rattle.live_fleet.specs.Out.{Out, Fits, text_at}
use Rattle.live_fleet.specs.Party.{Stage, with_at, with_rest}
use Rattle.live_fleet.specs.Turning.{IsSaid}
use Rattle.live_fleet.specs.Went.{At, Went}

-- a mark without where its bytes lie in memory
abbrev pub mark_kept : Option (Vec ℕ Global) → Option (List ℕ)
mark_kept mark = option_map (λ m. m.items) mark

-- this text waits for room
abbrev pub IsWaiting : List ℕ → Rest → Type 0
IsWaiting text (Line line) = line.items ≡ text
IsWaiting text left = ⊥

-- an answer is said, or waits for room: what of it is left
pub data AnswersIn (to : ℕ) (text : List ℕ) (old new : Out) (left : Rest) : Type 0 where
  now : Fits (text_at old to) (length text) → IsSaid old to text new → left ≡ Nothing → AnswersIn to text old new left
  later : (Fits (text_at old to) (length text) → ⊥) → new ≡ old → IsWaiting text left → AnswersIn to text old new left

-- an answer is said on a stage to the conversation that speaks, or waits for room: what of it is left
pub data Answers (k : ℕ) (sp : Speaker) (text : List ℕ) (s : Stage) (acts : List Act) (t : Stage) : Type 0 where
  at_once : Fits (text_at s.at.out k) (length text) → acts ≡ said k text ∷ [] → Went s.at acts t.at → t ≡ with_rest (with_at s t.at) k sp Nothing → Answers k sp text s acts t
  waits : (Fits (text_at s.at.out k) (length text) → ⊥) → acts ≡ [] → (left : Rest) → IsWaiting text left → t ≡ with_rest s k sp left → Answers k sp text s acts t
