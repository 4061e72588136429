use Rattle.std.specs.List.{All}
use Rattle.fleet_survey.specs.Mended.{IsWall}
use Rattle.fleet_survey.proofs.mend.add_walls.Given as goal

abbrev pub invariant-loop-end : goal.invariant-loop-end
invariant-loop-end l = All (IsWall l.grid) l.walls.items
