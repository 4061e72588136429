-- What C's structs say in the product's words.
use Rattle.std.specs.Prelude.{ℕ, List, map, Option, Some, None, ◌==◌, if◌then◌else◌, slice_index}
use Rattle.fleet_book.specs.declared.order.Order.{Order}
use Rattle.fleet_book.specs.declared.order.Order.TheVariants as order
use Rattle.fleet_book.specs.declared.limits.Limits.{Limits}
use Rattle.fleet_book.specs.declared.verdict.Verdict.{Verdict}
use Rattle.fleet_book.specs.declared.verdict.Verdict.TheVariants as verdict
use Rattle.fleet_book.specs.declared.notice.Notice.{Notice}
use Rattle.fleet_book.specs.declared.notice.Notice.TheVariants as notice
use Rattle.fleet_hooks.specs.Law.{exact_law, exact_stamp}
use Rattle.fleet_core.specs.Hooks.{HookLaws}
use Rattle.fleet_core.specs.declared.faults.TickReport.{TickReport}
use Rattle.fleet_c.specs.declared.verdicts.TheConstants.{ACCEPTED, CLOSING, WITHDRAWN, CLIENT_CLOSED, UNKNOWN_ROBOT, ROBOT_SHUT, NO_CELL, BLOCKED, UNREACHABLE, QUEUE_FULL, LIFE_SPENT, NO_ERRAND, TOO_LATE}
use Rattle.fleet_history.specs.declared.history.Arrival.{Arrival}
use Rattle.fleet_c.specs.declared.setup.Setup.{Setup}
use Rattle.fleet_c.specs.declared.robot.Robot.{Robot}
use Rattle.fleet_c.specs.declared.report.Report.{Report}
use Rattle.fleet_c.specs.declared.judgement.Judgement.{Judgement}
use Rattle.fleet_c.specs.declared.note.Note.{Note}
use Rattle.fleet_c.specs.declared.landing.Landing.{Landing}
use Rattle.fleet_c.specs.declared.request.Request.{Request}
use Rattle.fleet_c.specs.declared.request.TheConstants.{ORDER_GO, ORDER_CLOSE, ORDER_WITHDRAW}

-- the limits that a setup gives
abbrev pub limits_of : Setup → Limits
limits_of s = record {
  lane = s.lane;
  outlet = s.outlet;
  queue = s.queue;
  mailbox = s.mailbox;
  life = s.life;
  orders = s.orders;
  clock = s.clock;
  chapter = s.chapter;
  chapters = s.chapters;
}

-- the cells on which the robots start
abbrev pub starts_of : List Robot → List ℕ
starts_of robots = map (λ r. r.cell) robots

-- each robot ranks as it says, and each stamp is 0
abbrev pub laws_of_robots : List Robot → HookLaws
laws_of_robots robots = record {
  ties = map (λ r. exact_law r.ranks) robots;
  arrivals = map (λ (_ : Robot). exact_stamp 0) robots;
  farewells = map (λ (_ : Robot). exact_stamp 0) robots;
}

-- a tick for C: its number, and how many robots arrived and said farewell
abbrev pub report_of : TickReport → Report
report_of did = record { tick = did.tick; arrived = did.arrived; farewells = did.farewells }

-- a verdict without a number
abbrev pub plain : ℕ → Judgement
plain code = record { number = 0; verdict = code }

-- a verdict for C: its code, and the number of an accepted errand, else 0
abbrev pub judgement_of : Verdict → Judgement
judgement_of (verdict.Accepted n) = record { number = n; verdict = ACCEPTED }
judgement_of verdict.Closed = plain CLOSING
judgement_of verdict.Withdrawn = plain WITHDRAWN
judgement_of verdict.ClientClosed = plain CLIENT_CLOSED
judgement_of verdict.NoRobot = plain UNKNOWN_ROBOT
judgement_of verdict.RobotShut = plain ROBOT_SHUT
judgement_of verdict.NoCell = plain NO_CELL
judgement_of verdict.Blocked = plain BLOCKED
judgement_of verdict.Unreachable = plain UNREACHABLE
judgement_of verdict.QueueFull = plain QUEUE_FULL
judgement_of verdict.LifeSpent = plain LIFE_SPENT
judgement_of verdict.NoErrand = plain NO_ERRAND
judgement_of verdict.TooLate = plain TOO_LATE

-- a notice for C; what a notice of its kind does not have is 0
abbrev pub note_of : Notice → Note
note_of (notice.Verdict seq order v) = record {
  seq = seq;
  order = order;
  number = (judgement_of v).number;
  tick = 0;
  verdict = (judgement_of v).verdict;
  robot = 0;
  cell = 0;
  stamp = 0;
}
note_of (notice.Arrived seq number robot cell tick stamp) = record {
  seq = seq;
  order = 0;
  number = number;
  tick = tick;
  verdict = 0;
  robot = robot;
  cell = cell;
  stamp = stamp;
}

-- an order of a list; none where there is no such kind
abbrev pub order_of : Request → Option Order
order_of r = if r.kind == ORDER_GO then Some (order.Go r.robot r.cell)
    else if r.kind == ORDER_CLOSE then Some order.Close
    else if r.kind == ORDER_WITHDRAW then Some (order.Withdraw r.number)
    else None

-- an arrival, after a tick to these cells
abbrev pub arrival_of : List ℕ → Arrival → Landing
arrival_of cells a = record { number = a.number; robot = a.robot; client = a.client; cell = slice_index cells a.robot; stamp = a.stamp }
