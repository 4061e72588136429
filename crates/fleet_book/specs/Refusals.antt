-- The refusals of orders: the number and the name of each, which outputs, traces and other languages cite.
use Rattle.std.specs.Prelude.{ℕ, ◌==◌, if◌then◌else◌, List, Option, Some, None, codes}
use Rattle.fleet_book.specs.declared.verdict.Verdict.{Verdict}
use Rattle.fleet_book.specs.declared.verdict.Verdict.TheVariants as verdict

-- the number of a refusal, from 1; the other verdicts have none
abbrev pub refusal_code : Verdict → Option ℕ
refusal_code (verdict.Accepted number) = None
refusal_code verdict.Closed = None
refusal_code verdict.Withdrawn = None
refusal_code verdict.ClientClosed = Some 1
refusal_code verdict.NoRobot = Some 2
refusal_code verdict.RobotShut = Some 3
refusal_code verdict.NoCell = Some 4
refusal_code verdict.Blocked = Some 5
refusal_code verdict.Unreachable = Some 6
refusal_code verdict.QueueFull = Some 7
refusal_code verdict.LifeSpent = Some 8
refusal_code verdict.NoErrand = Some 9
refusal_code verdict.TooLate = Some 10

-- the refusal that has a number
abbrev pub refusal_of : ℕ → Option Verdict
refusal_of code =
    if code == 1 then Some verdict.ClientClosed
    else if code == 2 then Some verdict.NoRobot
    else if code == 3 then Some verdict.RobotShut
    else if code == 4 then Some verdict.NoCell
    else if code == 5 then Some verdict.Blocked
    else if code == 6 then Some verdict.Unreachable
    else if code == 7 then Some verdict.QueueFull
    else if code == 8 then Some verdict.LifeSpent
    else if code == 9 then Some verdict.NoErrand
    else if code == 10 then Some verdict.TooLate
    else None

-- the name of a verdict, in small letters
abbrev pub verdict_name : Verdict → List ℕ
verdict_name (verdict.Accepted number) = codes "accepted"
verdict_name verdict.Closed = codes "closed"
verdict_name verdict.Withdrawn = codes "withdrawn"
verdict_name verdict.ClientClosed = codes "client-closed"
verdict_name verdict.NoRobot = codes "no-robot"
verdict_name verdict.RobotShut = codes "robot-shut"
verdict_name verdict.NoCell = codes "no-cell"
verdict_name verdict.Blocked = codes "blocked"
verdict_name verdict.Unreachable = codes "unreachable"
verdict_name verdict.QueueFull = codes "queue-full"
verdict_name verdict.LifeSpent = codes "life-spent"
verdict_name verdict.NoErrand = codes "no-errand"
verdict_name verdict.TooLate = codes "too-late"
