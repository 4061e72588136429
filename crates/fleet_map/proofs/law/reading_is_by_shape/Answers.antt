use Rattle.fleet_map.specs.Text.{lines_of}
use Rattle.fleet_map.proofs.Faults.{map_fails}
use Rattle.fleet_map.proofs.Shapes.{is_text, is_read}
use Rattle.fleet_map.proofs.law.reading_is_by_shape.Goals as goal

pub returns-clause-read : goal.returns-clause-read
returns-clause-read c = λ bytes m. (is_text bytes m, is_read bytes m)

pub returns-clause-first : goal.returns-clause-first
returns-clause-first c = λ bytes fault. map_fails (lines_of bytes) fault
