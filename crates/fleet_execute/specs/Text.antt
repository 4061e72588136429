-- Lines that are written.
use Rattle.std.specs.Prelude.{ℕ, List, ◌++◌, codes, decimal}
use Rattle.fleet_execution.specs.declared.motion.Move.{Move}

-- a move begins: its robot, the cells that it leads from and to, and its step of the plan
abbrev pub move_line : Move → List ℕ
move_line m = codes "move " ++ decimal m.robot ++ codes " " ++ decimal m.from ++ codes " " ++ decimal m.to ++ codes " " ++ decimal m.tick ++ codes "\n"

-- the robot that was reported is not under way
abbrev pub refused_line : ℕ → List ℕ
refused_line robot = codes "not-under-way " ++ decimal robot ++ codes "\n"

-- line number `number` says nothing that can be heard
abbrev pub bad_line : ℕ → List ℕ
bad_line number = codes "bad-line " ++ decimal number ++ codes "\n"
