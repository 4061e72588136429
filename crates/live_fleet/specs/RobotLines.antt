-- How robots stand, line by line.
use Rattle.std.specs.Prelude.{ℕ, List, ◌++◌, length, Option, Some, None, codes, decimal, slice_get}
use Rattle.live_fleet.specs.declared.robots.Duty.{Duty}
use Rattle.live_fleet.specs.declared.robots.Duty.TheVariants.{Free, Busy, Shut}
use Rattle.live_fleet.specs.declared.robots.RobotRow.{RobotRow}

-- whether a robot may get errands, has some, or is shut, as one word
abbrev pub duty_word : Duty → List ℕ
duty_word Free = codes "free"
duty_word Busy = codes "busy"
duty_word Shut = codes "shut"

-- the robot, its cell, and its goal
abbrev pub way_text : RobotRow → List ℕ
way_text x = codes "robot " ++ (decimal x.robot ++ (codes " cell " ++ (decimal x.cell ++ (codes " goal " ++ decimal x.goal))))

-- how many errands the robot has, how long it has waited, and its word
abbrev pub work_text : RobotRow → List ℕ
work_text x = codes " errands " ++ (decimal x.errands ++ (codes " wait " ++ (decimal x.wait ++ (codes " " ++ (duty_word x.duty ++ codes "\n")))))

-- the line of a robot
abbrev pub robot_line : RobotRow → List ℕ
robot_line x = way_text x ++ work_text x

-- how many they are
abbrev pub robots_end : ℕ → List ℕ
robots_end count = codes "robots end " ++ (decimal count ++ codes "\n")

-- the line after the first n: a robot's, or how many they are
abbrev pub robot_or_end : List RobotRow → Option RobotRow → List ℕ
robot_or_end rows (Some row) = robot_line row
robot_or_end rows None = robots_end (length rows)

-- the line after the first n: a robot's, or how many they are
abbrev pub robot_listed : List RobotRow → ℕ → List ℕ
robot_listed rows listed = robot_or_end rows (slice_get rows listed)
