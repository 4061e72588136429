use Rattle.std.proofs.Common.{slice_index, arith}
use Rattle.std.proofs.lemmas.Result.{IfOk-from_err}
use Rattle.fleet_pibt.specs.inside.Around.{IsAround, IsAsked}
use Rattle.fleet_pibt.proofs.Seen.{seen-more, seen-all, seen-at, seen-below}
use Rattle.fleet_pibt.proofs.around.gather.Goals as goal

pub ask-requires-clause-floor : goal.ask-requires-clause-floor
ask-requires-clause-floor g c = c.requires.floor

pub ask-requires-clause-shows : goal.ask-requires-clause-shows
ask-requires-clause-shows g c = c.requires.shows

pub loop-robot-preserved : goal.loop-robot-preserved
loop-robot-preserved g c =
    let m = c.args.grid.now in
    let goals = c.args.goals.now in
    let from = c.args.from.now in
    let seen = c.loop-robot.arounds in
    let robot = c.loop-robot.robot in
    let inside = seen-at seen robot _ (omega (arith, c.loop-robot-test.true, c.loop-robot.auto.arounds)) in
    let asked : IsAsked m (g.G.Guide.goal_of goals robot) (g.G.Guide.distance goals m robot) (slice_index from robot) c.with_door.result.nearer.byte c.with_door.result.exits.byte =
    rw (c.with_door.ensures.nearer, c.with_door.ensures.exits, c.look.ensures.nearer, c.look.ensures.exits) (c.loop-robot.invariant.0 robot _ inside) in (
      seen-all (λ r around. IsAsked m (g.G.Guide.goal_of goals r) (g.G.Guide.distance goals m r) (slice_index from r) around.nearer.byte around.exits.byte) seen robot c.with_door.result c.loop-robot.invariant.0 asked,
      seen-more (λ r around. IsAround m c.args.door (slice_index from r) around) seen robot c.with_door.result c.loop-robot.invariant.1 (c.with_door.ensures.cells m (slice_index from robot) c.look.ensures.cells),
    )

pub look-requires-clause-exits : goal.look-requires-clause-exits
look-requires-clause-exits g c = (c.loop-robot.invariant.0 c.loop-robot.robot _ (seen-at c.loop-robot.arounds c.loop-robot.robot _ (omega (arith, c.loop-robot-test.true, c.loop-robot.auto.arounds)))).opens

pub returns-in_err-ask : goal.returns-in_err-ask
returns-in_err-ask g c = record {
  arounds = IfOk-from_err c.from_residual.result _ c.from_residual.ensures.0;
  goals = c.ask.ensures.goals;
  distances = c.ask.ensures.distances;
  shows = c.ask.ensures.shows;
  stays = c.ask.ensures.stays;
}

pub returns : goal.returns
returns g c = record {
  arounds = record {
    same_length = omega (arith, c.loop-robot.auto.arounds, c.ask.auto.arounds, c.requires.same_length);
    each = λ r around e. c.loop-robot.invariant.1 r around (let l = seen-below c.loop-robot.arounds r around e in omega (arith, l, c.loop-robot.auto.arounds, c.loop-robot-test.false)) e;
    asked = c.loop-robot.invariant.0;
  };
  goals = c.ask.ensures.goals;
  distances = c.ask.ensures.distances;
  shows = c.ask.ensures.shows;
  stays = c.ask.ensures.stays;
}

pub loop-robot-init : goal.loop-robot-init
loop-robot-init g c = (c.in_ok-ask.ensures.asked, λ r around less. absurd (omega (arith, less)))

pub bounds-from-robot : goal.bounds-from-robot
bounds-from-robot g c = omega (arith, c.loop-robot-test.true, c.ask.auto.arounds, c.requires.same_length)

pub look-requires-clause-floor : goal.look-requires-clause-floor
look-requires-clause-floor g c = c.requires.floor c.loop-robot.robot (omega (arith, c.loop-robot-test.true, c.ask.auto.arounds, c.requires.same_length))
