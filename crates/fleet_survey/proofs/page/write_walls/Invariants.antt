use Rattle.std.proofs.Common.{◌≡◌, ◌++◌, drop, string_bytes}
use Rattle.std.specs.Prelude.{codes}
use Rattle.std.specs.List.{flat_map}
use Rattle.fleet_survey.specs.Texts.{line}
use Rattle.fleet_survey.proofs.page.write_walls.Given as goal

abbrev pub invariant-loop-wall : goal.invariant-loop-wall
invariant-loop-wall l = string_bytes l.out ++ flat_map (line (codes "mend ")) (drop l.wall-index l.walls) ≡ string_bytes l.fn.out ++ flat_map (line (codes "mend ")) l.walls
