use Rattle.std.proofs.Common.{◌≡◌, ◌++◌, drop, string_bytes}
use Rattle.fleet_convert.specs.Cells.{places_text}
use Rattle.fleet_convert.proofs.cells.write_places.Given as goal

abbrev pub invariant-loop-time : goal.invariant-loop-time
invariant-loop-time l = string_bytes l.out ++ places_text l.width l.time (drop l.time l.places) ≡ string_bytes l.fn.out ++ places_text l.width 0 l.places
