-- One more distance that was found.
use Rattle.std.proofs.lemmas.List.Elements.{All-set}
use Rattle.fleet_stats.specs.inside.Found.{IsWay}
use Rattle.fleet_stats.proofs.measure.find_one.Goals as goal

pub returns-in_ok-distance-clause-ways : goal.returns-in_ok-distance-clause-ways
returns-in_ok-distance-clause-ways c =
    All-set (IsWay c.args.grid.now) c.args.ways.now c.args.place _ c.in_ok-distance.ensures.away c.requires.ways
