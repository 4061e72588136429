use Rattle.std.proofs.Common.{IsSome, rules}
use Rattle.fleet_field.specs.Store.{shown}
use Rattle.fleet_field.proofs.Shares.{serves_released}
use Rattle.test_grid.proofs.fields.release_both.Goals as goal

pub returns : goal.returns
returns g c =
    let m = c.args.grid.now in
    let once : IsSome (shown c.release.new.self c.args.key) = search rules in
    serves_released m c.release.new.self c.release-2.new.self c.args.key once c.release-2.ensures
    (serves_released m c.args.store.now c.release.new.self c.args.key c.requires.held c.release.ensures c.requires.serves)
