-- The verdict rule: what an order is answered, by counts and facts alone.
use Rattle.std.specs.Prelude.{ℕ, ◌+◌, ◌==◌, Bool, if◌then◌else◌}
use Rattle.fleet_book.specs.declared.order.Order.{Order}
use Rattle.fleet_book.specs.declared.order.Order.TheVariants.{Go, Close, Withdraw}
use Rattle.fleet_book.specs.declared.verdict.Verdict.{Verdict}
use Rattle.fleet_book.specs.declared.verdict.Verdict.TheVariants as answer
use Rattle.fleet_book.specs.declared.facts.Facts.{Facts}
use Rattle.fleet_book.specs.declared.facts.Place.{Place}
use Rattle.fleet_book.specs.declared.facts.Place.TheVariants.{Absent, Front, Behind}

-- what counts for an order: whether its client is closed, how many errands the client has had accepted and how many
-- it may have, and whether the robot that it names takes no further errands
pub record Standing : Type 0 where
  pub closed : Bool
  pub accepted : ℕ
  pub life : ℕ
  pub shut : Bool

-- an errand, by the order of refusals
abbrev pub go_verdict : Standing → Facts → Verdict
go_verdict s f =
    if s.closed then answer.ClientClosed
    else if f.robot_known then
    if s.shut then answer.RobotShut
    else if f.in_range then
    if f.floor then
    if f.same_part then
    if f.queue_full then answer.QueueFull
    else if s.accepted == s.life then answer.LifeSpent
    else answer.Accepted (s.accepted + 1)
    else answer.Unreachable
    else answer.Blocked
    else answer.NoCell
    else answer.NoRobot

-- an errand that is waiting after its robot's front may be withdrawn
abbrev pub place_verdict : Place → Verdict
place_verdict Absent = answer.NoErrand
place_verdict Front = answer.TooLate
place_verdict Behind = answer.Withdrawn

-- the verdict of an order
abbrev pub verdict_of : Order → Standing → Facts → Verdict
verdict_of (Go robot cell) s f = go_verdict s f
verdict_of Close s f = if s.closed then answer.ClientClosed else answer.Closed
verdict_of (Withdraw number) s f = if s.closed then answer.ClientClosed else place_verdict f.place
