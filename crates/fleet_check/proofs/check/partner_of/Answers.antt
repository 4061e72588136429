use Rattle.std.proofs.Common.{◌≡◌, slice_index, sym, ap, ◌∙◌, arith}
use Rattle.std.specs.Ordering.{nat_cmp}
use Rattle.std.specs.BTreeMap.{get}
use Rattle.fleet_check.proofs.Seating.{one_partner}
use Rattle.fleet_check.proofs.check.partner_of.Goals as goal
use Rattle.fleet_check.proofs.check.partner_of.Goals.{else-robot-at-via-then-robot-at+else-from-at, else-robot-at-via-else-robot-at}

pub bounds-from-at : goal.bounds-from-at
bounds-from-at g c =
    let inside = c.requires.seats.only (slice_index c.args.from.now c.args.robot) c.in-Some.other (sym c.in-Some.ensures) in
    omega (arith, c.requires.equal, inside.0)

pub returns-else-robot-at : goal.returns-else-robot-at
returns-else-robot-at g c = λ j less inner e. (
    let one : j ≡ c.in-Some.other = one_partner c.args.from.now c.args.to.now (get nat_cmp c.args.seats.now) c.requires.seats c.args.robot c.in-Some.other (sym c.in-Some.ensures) j inner e in
    elim c.else-robot-at.branch [
      | else-robot-at-via-then-robot-at+else-from-at w ↦ absurd (w.if-from-at.false (ap (slice_index c.args.from.now) (sym one) ∙ sym e.0))
      | else-robot-at-via-else-robot-at w ↦ absurd (omega (arith, w.if-robot-at.false, less, one))
    ])
