use Rattle.std.proofs.Common.{slice_index, arith, refl, sym, ◌∙◌}
use Rattle.std.proofs.lemmas.Result.{IfOk-from_err}
use Rattle.fleet_pibt.specs.inside.Around.{IsAsked}
use Rattle.fleet_pibt.proofs.Seen.{seen-more, seen-below}
use Rattle.fleet_pibt.proofs.around.ask.Goals as goal

pub loop-robot-init : goal.loop-robot-init
loop-robot-init g c = record { asked = λ r around less. absurd (omega (arith, less)); goals = refl; distances = refl; shows = c.requires.shows; stays = g.met.G.Guide.stays_same c.args.goals.now }

pub loop-robot-preserved : goal.loop-robot-preserved
loop-robot-preserved g c =
    let i = c.loop-robot.invariant in
    let m = c.args.grid.now in
    let goals = c.args.goals.now in
    let robot = c.loop-robot.robot in
    let own = slice_index c.args.from.now robot in
    let outlook = c.in_ok-outlook.outlook in
    let here : IsAsked m (g.G.Guide.goal_of goals robot) (g.G.Guide.distance goals m robot) own outlook.nearer.byte outlook.exits.byte =
    rw (sym i.goals, sym i.distances) record { tells = c.in_ok-outlook.ensures.nearer; idle = c.in_ok-outlook.ensures.idle; opens = c.in_ok-outlook.ensures.exits } in
    record {
      asked = seen-more (λ r around. IsAsked m (g.G.Guide.goal_of goals r) (g.G.Guide.distance goals m r) (slice_index c.args.from.now r) around.nearer.byte around.exits.byte)
          c.loop-robot.arounds robot _ i.asked here;
      goals = c.outlook.ensures.goals ∙ i.goals;
      distances = c.outlook.ensures.distances ∙ i.distances;
      shows = c.outlook.ensures.shows;
      stays = g.met.G.Guide.stays_on goals c.loop-robot.goals c.outlook.new.self i.stays c.outlook.ensures.stays;
    }

pub returns-in_err-outlook : goal.returns-in_err-outlook
returns-in_err-outlook g c = record {
  asked = IfOk-from_err c.from_residual.result _ c.from_residual.ensures.0;
  goals = c.outlook.ensures.goals ∙ c.loop-robot.invariant.goals;
  distances = c.outlook.ensures.distances ∙ c.loop-robot.invariant.distances;
  shows = c.outlook.ensures.shows;
  stays = g.met.G.Guide.stays_on c.args.goals.now c.loop-robot.goals c.outlook.new.self c.loop-robot.invariant.stays c.outlook.ensures.stays;
}

pub returns : goal.returns
returns g c = record {
  asked = λ r around e. c.loop-robot.invariant.asked r around (let l = seen-below c.loop-robot.arounds r around e in omega (arith, l, c.loop-robot.auto.arounds, c.loop-robot-test.false)) e;
  goals = c.loop-robot.invariant.goals;
  distances = c.loop-robot.invariant.distances;
  shows = c.loop-robot.invariant.shows;
  stays = c.loop-robot.invariant.stays;
}

pub outlook-requires-clause-shows : goal.outlook-requires-clause-shows
outlook-requires-clause-shows g c = c.loop-robot.invariant.shows

pub outlook-requires-clause-floor : goal.outlook-requires-clause-floor
outlook-requires-clause-floor g c = c.requires.floor c.loop-robot.robot (omega (arith, c.loop-robot-test.true, c.loop-robot.auto.arounds, c.requires.same_length))
