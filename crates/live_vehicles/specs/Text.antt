-- Lines that are written.
use Rattle.std.specs.Prelude.{ℕ, ◌+◌, min, List, [], ◌∷◌, ◌++◌, codes, decimal}
use Rattle.fleet_execution.specs.declared.motion.Move.{Move}
use Rattle.live_vehicles.specs.declared.stand.Stand.{Stand}

-- the tick of a step, where the vehicles set out at this one
abbrev pub tick_of : ℕ → ℕ → ℕ
tick_of first step = min (first + step) 18446744073709551615

abbrev pub move_line : ℕ → Move → List ℕ
move_line first m = codes "move " ++ decimal m.robot ++ codes " " ++ decimal m.from ++ codes " " ++ decimal m.to ++ codes " " ++ decimal (tick_of first m.tick) ++ codes "\n"

-- the lines of moves
abbrev pub moves_text : ℕ → List Move → List ℕ
moves_text first [] = []
moves_text first (m ∷ ms) = move_line first m ++ moves_text first ms

abbrev pub refused_line : ℕ → List ℕ
refused_line robot = codes "not-under-way " ++ decimal robot ++ codes "\n"

abbrev pub bad_line : ℕ → List ℕ
bad_line number = codes "bad-line " ++ decimal number ++ codes "\n"

abbrev pub asked_line : ℕ → List ℕ
asked_line robot = codes "not-asked " ++ decimal robot ++ codes "\n"

abbrev pub off_line : ℕ → List ℕ
off_line robot = codes "off-plan " ++ decimal robot ++ codes "\n"

abbrev pub stand_line : Stand → List ℕ
stand_line s = codes "stands " ++ decimal s.client ++ codes " " ++ decimal s.number ++ codes " robot " ++ decimal s.robot ++ codes " cell " ++ decimal s.cell ++ codes "\n"
