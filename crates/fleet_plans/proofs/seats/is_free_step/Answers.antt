-- Each robot may go, and is on its new cell.
use Rattle.std.proofs.Common.{refl}
use Rattle.fleet_plans.proofs.Seatings.{all_may, all_sat, free}
use Rattle.fleet_plans.proofs.seats.is_free_step.Goals as goal

pub returns-clause-free : goal.returns-clause-free
returns-clause-free c = λ m placed edges t.
    let robots = c.args.robots.now in
    let last = c.args.last.now in
    let place = c.args.place.now in
    let changed = c.requires.changed in
    free m c.args.seats.now c.sit_all.new.seats last place c.requires.each_one placed edges c.requires.seated (all_may robots last place changed c.args.seats.now (c.if-not-may_all.ensures refl))
    (all_sat robots last place changed c.args.seats.now c.sit_all.new.seats c.requires.each_one c.requires.seated (c.sit_all.ensures.kept t) (c.sit_all.ensures.sat t))

pub returns-clause-seated : goal.returns-clause-seated
returns-clause-seated c = λ t.
    all_sat c.args.robots.now c.args.last.now c.args.place.now c.requires.changed c.args.seats.now c.sit_all.new.seats c.requires.each_one c.requires.seated (c.sit_all.ensures.kept t) (c.sit_all.ensures.sat t)
