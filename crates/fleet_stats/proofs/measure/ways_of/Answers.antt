-- Nothing was found before the search.
use Rattle.std.proofs.Common.{◌∙◌, List, Option, sym, subst}
use Rattle.std.specs.Prelude.{All}
use Rattle.fleet_stats.specs.declared.measure.Way.{Way}
use Rattle.fleet_stats.specs.inside.Found.{IsWay}
use Rattle.fleet_stats.proofs.Ways.{none-found}
use Rattle.fleet_stats.proofs.measure.ways_of.Goals as goal

pub find_some-requires : goal.find_some-requires
find_some-requires c =
    subst (λ (xs : List (Option Way)). All (IsWay c.args.grid.now) xs) (sym (c.deref_mut.ensures.value ∙ c.in_ok-ways.ensures)) (none-found c.args.grid.now c.args.served.now)
