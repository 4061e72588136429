-- One more placement is taken.
use Rattle.std.proofs.Common.{◌≡◌, ◌+◌, ◌-◌, [], refl, arith}
use Rattle.fleet_plans.proofs.Follows.{taken_more, taken_over}
use Rattle.fleet_plans.proofs.follow.take_times.Goals as goal

pub loop-time-init : goal.loop-time-init
loop-time-init g c = record {
  taken = record { places = []; count = refl; placed = λ t less. absurd (omega (arith, less)); given = c.requires.fresh };
  each_one = c.requires.each_one;
}

pub loop-time-preserved : goal.loop-time-preserved
loop-time-preserved g c = record {
  taken =
      taken_more c.args.judge.now.floor c.args.paths.now c.loop-time.time c.place_all.new.place c.loop-time.judge c.take.new.self c.loop-time.invariant.taken c.place_all.ensures c.in_ok-take.ensures.taken;
  each_one = c.place_all.ensures.each_one;
}

pub returns-then-is_over : goal.returns-then-is_over
returns-then-is_over g c =
    let time = c.loop-time.time in
    let rest : time + (c.args.times - time) ≡ c.args.times = omega (arith, c.loop-time-test.true) in
    taken_over c.args.judge.now.floor c.args.paths.now time (c.args.times - time) c.args.times c.loop-time.judge c.pass_over.new.self c.loop-time.invariant.taken rest c.pass_over.ensures
