use Rattle.std.proofs.Common.{◌≡◌, ℕ, ◌-◌, ◌+◌, ◌<◌, length, slice_index, arith}
use Rattle.std.specs.Ordering.{nat_cmp}
use Rattle.std.specs.BTreeMap.{get}
use Rattle.fleet_check.proofs.Seating.{is_other, seat_more}
use Rattle.fleet_conflicts.proofs.seats.seats_of.Goals as goal

pub loop-robot-preserved : goal.loop-robot-preserved
loop-robot-preserved c =
    let i = c.loop-robot.invariant in
    let low = c.loop-robot.robot - 1 in
    let step : low + 1 ≡ c.loop-robot.robot = omega (arith, c.loop-robot-test.true) in
    let inside : low < length c.args.to.now = omega (arith, c.loop-robot-test.true, i.within) in
    let u = c.in_ok-insert.ensures.updates in
    record {
      within = omega (arith, inside);
      seats = seat_more c.args.to.now low c.loop-robot.robot step inside (get nat_cmp c.loop-robot.seats) (get nat_cmp c.insert.new.self) i.seats u.1 (λ q ne. u.2 q (is_other (slice_index c.args.to.now low) q ne));
    }
