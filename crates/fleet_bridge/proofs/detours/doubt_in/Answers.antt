-- The first place in doubt.
use Rattle.std.proofs.Common.{arith}
use Rattle.fleet_bridge.proofs.Steps.{none_in_list}
use Rattle.fleet_bridge.proofs.detours.doubt_in.Goals as goal

pub returns : goal.returns
returns g c =
    let p = c.args.places.now in
    none_in_list p.grid.now p.stride p.list.now c.requires.laid_out.form c.requires.laid_out.padded c.loop-from.from (omega arith) c.loop-from.invariant.none

pub doubt_within-requires-clause-laid_out : goal.doubt_within-requires-clause-laid_out
doubt_within-requires-clause-laid_out g c = c.requires.laid_out
