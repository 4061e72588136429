-- The table as the robots enter it, one after another.
use Rattle.std.proofs.Common.{length, ◌<◌, refl, arith, ◌∙◌}
use Rattle.fleet_pibt.proofs.Entries.{place-none, place-next}
use Rattle.fleet_pibt.proofs.tables.place.Goals as goal

pub loop-robot-preserved : goal.loop-robot-preserved
loop-robot-preserved g c =
    let below : c.loop-robot.robot < length c.args.from.now = c.loop-robot-test.true in
    let next = place-next c.args.from.now c.loop-robot.seats.standing c.enter.new.self.standing c.args.seats.now.standing c.loop-robot.robot c.requires.distinct below (c.requires.inside c.loop-robot.robot below) c.loop-robot.invariant.same_length c.loop-robot.invariant.placed c.enter.ensures.standing in
    record { same_length = next.0; placed = next.1; holder = c.enter.ensures.holder ∙ c.loop-robot.invariant.holder }

pub loop-robot-init : goal.loop-robot-init
loop-robot-init g c = record { same_length = refl; placed = place-none c.args.from.now c.args.seats.now.standing c.requires.empty; holder = refl }

pub enter-requires-clause-inside : goal.enter-requires-clause-inside
enter-requires-clause-inside g c = omega (arith, c.requires.inside c.loop-robot.robot c.loop-robot-test.true, c.loop-robot.invariant.same_length)

pub enter-requires-clause-small : goal.enter-requires-clause-small
enter-requires-clause-small g c = omega (arith, c.loop-robot-test.true, c.requires.few)

pub returns-clause-same_length : goal.returns-clause-same_length
returns-clause-same_length g c = c.loop-robot.invariant.same_length

pub returns-clause-holder : goal.returns-clause-holder
returns-clause-holder g c = c.loop-robot.invariant.holder
