use Rattle.std.specs.Prelude.{All}
use Rattle.fleet_field.specs.Growing.{Serves}
use Rattle.fleet_stats.specs.inside.Found.{IsWay}
use Rattle.fleet_stats.proofs.measure.find_all.Given as goal

abbrev pub invariant-loop-key : goal.invariant-loop-key
invariant-loop-key l = record { serves : Serves l.grid l.field; ways : All (IsWay l.grid) l.ways }
