use Rattle.std.proofs.Common.{get_or, None}
use Rattle.std.proofs.lemmas.Option.{slice_get-get_or}
use Rattle.fleet_planner.proofs.Turned.{dealing_more, dealing_all}
use Rattle.fleet_planner.proofs.turns.deal.Goals as goal

pub loop-at-preserved : goal.loop-at-preserved
loop-at-preserved c =
    let turns = c.args.turns.now in
    let n = c.loop-at.at in
    dealing_more turns c.args.fresh.now c.args.keys.now n c.loop-at.fresh c.loop-at.keys (record { robot = 0; goal = None }) c.loop-at-test.true c.requires.count
    (c.requires.known n (get_or turns n (record { robot = 0; goal = None })) (slice_get-get_or turns n (record { robot = 0; goal = None }) c.loop-at-test.true)) c.loop-at.invariant

pub returns-clause-dealt : goal.returns-clause-dealt
returns-clause-dealt c =
    dealing_all c.args.turns.now c.args.fresh.now c.args.keys.now c.loop-at.at c.loop-at.fresh c.loop-at.keys c.loop-at-test.false c.loop-at.invariant
