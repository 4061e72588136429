-- How far a dialogue has come, between two lines.
use Rattle.std.specs.Prelude.{◌≡◌, ℕ, ◌+◌, ◌⊎◌, List, ◌++◌, length, Option, Some}
use Rattle.std.specs.Io.KnownBytes.{Appends}
use Rattle.fleet_execution.specs.Course.{Course}
use Rattle.fleet_execution.specs.Desk.{Desk}
use Rattle.fleet_execution.specs.Executes.{Executes}
use Rattle.fleet_talk.specs.Heard.{heard_lines}
use Rattle.fleet_execute.specs.declared.fault.HoldFault.{HoldFault}
use Rattle.fleet_execute.specs.declared.fault.HoldFault.TheVariants.{Input, NoMemory, Conflict}
use Rattle.fleet_execute.specs.declared.plan.Plan.{Plan}
use Rattle.fleet_execute.specs.Dialogue.{Hears, IsBegun}

-- these bytes are left of the input; `told` is said, and not written yet
pub record IsHeld (plan : Plan) (o : Course) (bytes : List ℕ) (left : Option (List ℕ)) (number : ℕ) (d : Desk) (before after : Option (List ℕ)) (told : List ℕ) : Type 0 where
  pub rest : List ℕ
  pub at : left ≡ Some rest
  pub lines : List (List ℕ)
  pub parts : heard_lines bytes ≡ lines ++ heard_lines rest
  pub count : number ≡ length lines + 1
  pub last : Course
  pub executes : Executes d last
  pub text : List ℕ
  pub hears : Hears plan o lines text last
  pub written : List ℕ
  pub taken : Appends before after written
  pub whole : text ≡ written ++ told
  pub begun : IsBegun plan o bytes written

-- the execution does not go on
abbrev pub IsStuck : HoldFault → Type 0
IsStuck fault = (fault ≡ NoMemory) ⊎ ((tick : ℕ) × (fault ≡ Conflict tick))

-- a line could not be read
abbrev pub IsUnread : HoldFault → Type 0
IsUnread fault = (fault ≡ Input) ⊎ (fault ≡ NoMemory)
