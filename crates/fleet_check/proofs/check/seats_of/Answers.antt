use Rattle.std.proofs.Common.{◌≡◌, ℕ, ◌-◌, ◌+◌, ◌<◌, length, Option, slice_index, Some, None, sym, subst, ◌∙◌, arith}
use Rattle.std.specs.Ordering.{nat_cmp}
use Rattle.std.specs.BTreeMap.{get}
use Rattle.fleet_check.specs.inside.Seats.{IsSeat, IsShared}
use Rattle.fleet_check.proofs.Seating.{is_other, none_left, seat_more, shared_same, shared_new, first_shared}
use Rattle.fleet_check.proofs.check.seats_of.Goals as goal

pub loop-robot-preserved-in-Some : goal.loop-robot-preserved-in-Some
loop-robot-preserved-in-Some g c =
    let i = c.loop-robot.invariant in
    let low = c.loop-robot.robot - 1 in
    let step : low + 1 ≡ c.loop-robot.robot = omega (arith, c.loop-robot-test.true) in
    let inside : low < length c.args.to.now = omega (arith, c.loop-robot-test.true, i.within) in
    let u = c.in-Ok.ensures.updates in
    let was : get nat_cmp c.loop-robot.seats (slice_index c.args.to.now low) ≡ Some c.in-Some.other = sym c.in-Ok.ensures.old ∙ c.in-Some.is in
    record {
      within = omega (arith, inside);
      seats = seat_more c.args.to.now low c.loop-robot.robot step inside (get nat_cmp c.loop-robot.seats) (get nat_cmp c.insert.new.self) i.seats u.1 (λ q ne. u.2 q (is_other (slice_index c.args.to.now low) q ne));
      shared = shared_new c.args.to.now low c.loop-robot.robot step inside c.in-Some.other (subst (IsSeat c.args.to.now c.loop-robot.robot (slice_index c.args.to.now low)) was (i.seats (slice_index c.args.to.now low)));
    }

pub loop-robot-preserved : goal.loop-robot-preserved
loop-robot-preserved g c =
    let i = c.loop-robot.invariant in
    let low = c.loop-robot.robot - 1 in
    let step : low + 1 ≡ c.loop-robot.robot = omega (arith, c.loop-robot-test.true) in
    let inside : low < length c.args.to.now = omega (arith, c.loop-robot-test.true, i.within) in
    let u = c.in-Ok.ensures.updates in
    let was : get nat_cmp c.loop-robot.seats (slice_index c.args.to.now low) ≡ None = sym c.in-Ok.ensures.old ∙ none_left c.in-Ok.other c.in_default-other.not-Some in
    record {
      within = omega (arith, inside);
      seats = seat_more c.args.to.now low c.loop-robot.robot step inside (get nat_cmp c.loop-robot.seats) (get nat_cmp c.insert.new.self) i.seats u.1 (λ q ne. u.2 q (is_other (slice_index c.args.to.now low) q ne));
      shared = shared_same c.args.to.now low c.loop-robot.robot step inside c.loop-robot.shared (subst (IsSeat c.args.to.now c.loop-robot.robot (slice_index c.args.to.now low)) was (i.seats (slice_index c.args.to.now low))) i.shared;
    }

pub returns-in-Some-shared : goal.returns-in-Some-shared
returns-in-Some-shared g c =
    let to = c.args.to.now in
    let p = c.in-Some-shared in
    let none : c.loop-robot.robot ≡ 0 = omega arith in
    let s = subst (λ (o : Option (ℕ × ℕ)). IsShared to c.loop-robot.robot o) p.is c.loop-robot.invariant.shared in
    first_shared to p.first p.second (subst (λ (low : ℕ). IsShared to low (Some (p.first, p.second))) none s)
