use Rattle.std.proofs.Common.{◌≡◌, ◌++◌, drop, string_bytes}
use Rattle.fleet_text.specs.Output.{place_text}
use Rattle.fleet_text.proofs.ticks.write_place.Given as goal

abbrev pub invariant-loop-cell : goal.invariant-loop-cell
invariant-loop-cell g l = string_bytes l.out ++ place_text (drop l.cell-index l.cells) ≡ string_bytes l.fn.out ++ place_text l.cells
