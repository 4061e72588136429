-- One more step is taken, or the rest is passed over.
use Rattle.std.proofs.Common.{◌≡◌, ◌+◌, ◌-◌, arith}
use Rattle.fleet_plans.specs.Shown.{texts}
use Rattle.fleet_plans.proofs.Walks.{gone_on, gone_over}
use Rattle.fleet_plans.proofs.walk.take_steps.Goals as goal

pub loop-time-preserved : goal.loop-time-preserved
loop-time-preserved g c = record {
  gone =
      gone_on c.args.sides.width c.args.sides.height c.args.starts.now (texts c.args.tracks.now) c.args.judge.now.floor c.loop-time.time c.loop-time.place c.move_all.new.place c.loop-time.judge c.take.new.self
      c.loop-time.invariant.gone c.move_all.ensures c.in_ok-take.ensures.taken;
  robots = omega (arith, c.move_all.ensures.same_length, c.loop-time.invariant.robots);
}

pub returns-then-is_over : goal.returns-then-is_over
returns-then-is_over g c =
    let time = c.loop-time.time in
    let rest : time + (c.args.steps - time) ≡ c.args.steps = omega (arith, c.loop-time-test.true) in
    gone_over c.args.sides.width c.args.sides.height c.args.starts.now (texts c.args.tracks.now) c.args.judge.now.floor time (c.args.steps - time) c.args.steps c.loop-time.place c.loop-time.judge c.pass_over.new.self
    c.loop-time.invariant.gone rest c.pass_over.ensures
