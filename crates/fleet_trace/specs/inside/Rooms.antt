-- For how many errands the queues of a trace need memory.
use Rattle.std.specs.Prelude.{ℕ, ◌+◌, ◌==◌, Bool, false, List, Option, Some, None, length, min, count_by}
use Rattle.std.specs.Option.{option_map_or}
use Rattle.fleet_book.specs.declared.order.Order.TheVariants.{Go}
use Rattle.fleet_book.specs.declared.verdict.Verdict.TheVariants.{Accepted}
use Rattle.fleet_history.specs.declared.history.Entry.{Entry}
use Rattle.fleet_history.specs.declared.history.Entry.TheVariants.{Take}
use Rattle.fleet_history.specs.declared.history.Opening.{Opening}
use Rattle.fleet_state.specs.Opened.{errands_in}

-- the robot for which an entry accepts an errand
abbrev pub robot_joined : {A : Type 0} → Entry A → Option ℕ
robot_joined (Take client (Go robot cell) (Accepted errand)) = Some robot
robot_joined _ = None

abbrev pub is_for : {A : Type 0} → ℕ → Entry A → Bool
is_for r e = option_map_or (λ robot. robot == r) (robot_joined e) false

-- room for as many errands as the opening has and the entries accept for the robot, and for no more than it may have
abbrev pub room_for : {A : Type 0} → Opening A → List (Entry A) → ℕ → ℕ
room_for o entries r = min o.queue (length (errands_in o.robots r) + count_by (is_for r) entries)
