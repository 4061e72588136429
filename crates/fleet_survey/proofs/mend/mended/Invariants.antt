use Rattle.std.specs.List.{All}
use Rattle.fleet_survey.specs.Mended.{IsWall}
use Rattle.fleet_survey.proofs.mend.mended.Given as goal

abbrev pub invariant-loop : goal.invariant-loop
invariant-loop l = All (IsWall l.grid) l.walls.items
