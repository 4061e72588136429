-- The map of all lines.
use Rattle.std.proofs.Common.{refl}
use Rattle.fleet_map.specs.Grammar.{map_of_lines}
use Rattle.fleet_map.proofs.map_text.read_lines.Goals as goal

pub returns-clause-exact : goal.returns-clause-exact
unfolding map_of_lines
returns-clause-exact g c =
    rw (c.in_ok-height.ensures.exact, c.in_ok-cells.ensures, ← c.from.ensures, c.in_ok-read_end.ensures) refl
