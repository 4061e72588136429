-- A dialogue as a whole: over all lines of an input, up to the one after which all is done, or up to a fault.
use Rattle.std.specs.Prelude.{◌≡◌, ℕ, ◌+◌, ◌<◌, ◌⊎◌, List, [], ◌∷◌, ◌++◌, length, Option, codes}
use Rattle.std.specs.Io.KnownBytes.{Appends}
use Rattle.execution_law.specs.Rule.{MayBegin}
use Rattle.execution_law.specs.Change.{Reports}
use Rattle.fleet_execution.specs.declared.motion.Move.{Move}
use Rattle.fleet_execution.specs.Course.{Course}
use Rattle.fleet_execution.specs.Executes.{AreReturned}
use Rattle.fleet_text.specs.Transfer.{AppendsPrefix}
use Rattle.fleet_talk.specs.Heard.{heard_lines}
use Rattle.fleet_execute.specs.declared.heard.Heard.{Heard}
use Rattle.fleet_execute.specs.declared.heard.Heard.TheVariants.{Nothing, Reached, Other}
use Rattle.fleet_execute.specs.declared.fault.HoldFault.{HoldFault}
use Rattle.fleet_execute.specs.declared.fault.HoldFault.TheVariants.{Input, Output, NoMemory, Conflict}
use Rattle.fleet_execute.specs.declared.plan.Plan.{Plan}
use Rattle.fleet_execute.specs.Goes.{Goes, IsDone, moves_text}
use Rattle.fleet_execute.specs.Heard.{said_by}
use Rattle.fleet_execute.specs.Text.{bad_line, refused_line}

-- the plan's next steps are planned, and moves begin until no move may begin; these are their lines
pub record Turns (plan : Plan) (o : Course) (text : List ℕ) (p : Course) : Type 0 where
  pub moves : List Move
  pub goes : Goes plan o moves p
  pub written : text ≡ moves_text moves
  pub returned : AreReturned p
  pub none : (r t : ℕ) → r < p.run.plan.robots → MayBegin p.run r t → ⊥

-- a robot that is under way has reached its cell, and the execution goes on; any other is refused
abbrev pub Takes : Plan → ℕ → Course → List ℕ → Course → Type 0
Takes plan r o text p =
    ((c : ℕ → ℕ) × Reports o.run r c × Turns plan (record o { run = record o.run { reached = c } }) text p)
    ⊎ ((r < o.run.plan.robots → o.returned r ≡ o.run.reached r) × (text ≡ refused_line r) × (p ≡ o))

-- the answer to the line with this number
abbrev pub Answers : Plan → ℕ → Heard → Course → List ℕ → Course → Type 0
Answers plan number Nothing o text p = (text ≡ []) × (p ≡ o)
Answers plan number Other o text p = (text ≡ bad_line number) × (p ≡ o)
Answers plan number (Reached r) o text p = Takes plan r o text p

-- the execution was begun, and these lines were answered one after another: all that is written until then
pub data Hears (plan : Plan) (o : Course) : List (List ℕ) → List ℕ → Course → Type 0 where
  opens : (text : List ℕ) (p : Course) → Turns plan o text p → Hears plan o [] text p
  hears : (lines : List (List ℕ)) (text : List ℕ) (p : Course) (line more : List ℕ) (q : Course) → Hears plan o lines text p → (IsDone plan p → ⊥)
      → Answers plan (length lines + 1) (said_by line) p more q → Hears plan o (lines ++ line ∷ []) (text ++ more) q

-- some first lines of the input were answered
pub record HasHeard (plan : Plan) (o : Course) (bytes text : List ℕ) (p : Course) (left : List (List ℕ)) : Type 0 where
  pub lines : List (List ℕ)
  pub parts : heard_lines bytes ≡ lines ++ left
  pub hears : Hears plan o lines text p

-- the line that says that all is done
abbrev pub done_text : List ℕ
done_text = codes "done\n"

-- all that is written of an execution: it ends with the line after which all is done, which is said, or with the input
pub data IsDialogue (plan : Plan) (o : Course) (bytes text : List ℕ) : Type 0 where
  done : (told : List ℕ) (p : Course) (left : List (List ℕ)) → HasHeard plan o bytes told p left → IsDone plan p → text ≡ told ++ done_text → IsDialogue plan o bytes text
  over : (p : Course) → HasHeard plan o bytes text p [] → (IsDone plan p → ⊥) → IsDialogue plan o bytes text

-- what is written up to some line: nothing yet, or the answers to some first lines
pub data IsBegun (plan : Plan) (o : Course) (bytes text : List ℕ) : Type 0 where
  unopened : text ≡ [] → IsBegun plan o bytes text
  heard : (p : Course) (left : List (List ℕ)) → HasHeard plan o bytes text p left → IsBegun plan o bytes text

-- how an execution breaks off: all that was said is written, but where a write failed
pub data BreaksOff (plan : Plan) (o : Course) (bytes : List ℕ) (before after : Option (List ℕ)) : HoldFault → Type 0 where
  unread : (text : List ℕ) → IsBegun plan o bytes text → Appends before after text → BreaksOff plan o bytes before after Input
  full : (text : List ℕ) → IsBegun plan o bytes text → Appends before after text → BreaksOff plan o bytes before after NoMemory
  conflict : (text : List ℕ) (tick : ℕ) → IsBegun plan o bytes text → Appends before after text → BreaksOff plan o bytes before after (Conflict tick)
  unwritten : (text : List ℕ) → IsBegun plan o bytes text → AppendsPrefix before after text → BreaksOff plan o bytes before after Output
  undone : (text : List ℕ) → IsDialogue plan o bytes text → AppendsPrefix before after text → BreaksOff plan o bytes before after Output
