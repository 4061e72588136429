use Rattle.std.proofs.Common.{◌<◌, length, arith, false, refl}
use Rattle.std.proofs.lemmas.List.{get_or_read_under}
use Rattle.fleet_bridge.proofs.Fronts.{bridge_is}
use Rattle.fleet_grid.proofs.Forms.{floor_inside}
use Rattle.std.proofs.lemmas.Result.{IfOk-from_err}
use Rattle.fleet_bridge.proofs.search.is_bridge.Goals as goal

pub returns : goal.returns
returns g c =
    let inside : c.args.b < length c.in_ok-seen.seen.items = omega (arith, floor_inside c.args.grid.now c.args.b c.requires.1.to, c.in_ok-seen.ensures.size) in
    bridge_is c.args.grid.now c.args.a c.args.b c.in_ok-seen.seen.items c.requires c.in_ok-seen.ensures.reach c.index.result.now (get_or_read_under _ _ _ _ false c.index.ensures inside refl)

pub search-requires : goal.search-requires
search-requires g c = floor_inside c.args.grid.now c.args.a c.requires.1.from

pub returns-in_err-seen : goal.returns-in_err-seen
returns-in_err-seen g c = IfOk-from_err c.from_residual.result _ c.from_residual.ensures.0

pub index-requires : goal.index-requires
index-requires g c = omega (arith, floor_inside c.args.grid.now c.args.b c.requires.1.to, c.in_ok-seen.ensures.size)
