-- One choice of a robot.
use Rattle.std.proofs.Common.{◌≡◌, ◌<◌, ℕ, ◌+◌, ap, refl, sym, subst, ◌∙◌, length, slice_index, slice_set, Some, None, arith}
use Rattle.fleet_shield.specs.Wishes.{wishes, preference}
use Rattle.fleet_shield.specs.inside.Board.{IsHolding}
use Rattle.fleet_shield.specs.inside.Board.Chooses.{stays}
use Rattle.fleet_shield.proofs.Holding.{hold_more, reserving}
use Rattle.fleet_shield.proofs.plan.choose.Goals as goal

pub returns-then-place-from-clause-chooses : goal.returns-then-place-from-clause-chooses
returns-then-place-from-clause-chooses c =
    let place = c.first_open-place in
    let all : place.result ≡ c.args.scene.now.preferences.each = omega (arith, place.ensures.high, c.if-place-from.true, c.from.ensures) in
    stays (record {
      shut = λ j low less. place.ensures.shut j low (omega (arith, less, all));
      tried_is = ap (λ (x : ℕ). slice_set c.args.tried.now c.args.robot (x + 1)) all;
      next_is = c.stay.ensures.yields;
    })

pub returns-in_default-clause-chooses : goal.returns-in_default-clause-chooses
returns-in_default-clause-chooses c =
    let w = wishes c.args.scene.now.from.now c.args.scene.now.preferences in
    let to = c.args.to.now in
    let place = c.first_open-place in
    let within : place.result < w.each = omega (arith, c.if-place-from.false, c.from.ensures) in
    reserving w to c.args.tried.now c.args.robot place.result c.reserve.new.to None within place.ensures.low place.ensures.shut (place.ensures.open within)
    (c.reserve.ensures.to ∙ ap (slice_set to c.args.robot) c.get-cell.ensures)
    (λ q known here u. c.in_default.ensures q known (here ∙ sym c.get-cell.ensures))

pub returns-then-to-other-clause-chooses : goal.returns-then-to-other-clause-chooses
returns-then-to-other-clause-chooses c =
    let w = wishes c.args.scene.now.from.now c.args.scene.now.preferences in
    let to = c.args.to.now in
    let place = c.first_open-place in
    let within : place.result < w.each = omega (arith, c.if-place-from.false, c.from.ensures) in
    reserving w to c.args.tried.now c.args.robot place.result c.reserve.new.to (Some c.in-Some.other) within place.ensures.low place.ensures.shut (place.ensures.open within)
    (c.reserve.ensures.to ∙ ap (slice_set to c.args.robot) c.get-cell.ensures)
    (c.in-Some.ensures.0, c.in-Some.ensures.1 ∙ c.get-cell.ensures, c.if-to-other.true)

pub returns-else-to-other-clause-chooses : goal.returns-else-to-other-clause-chooses
returns-else-to-other-clause-chooses c =
    let w = wishes c.args.scene.now.from.now c.args.scene.now.preferences in
    let to = c.args.to.now in
    let place = c.first_open-place in
    let within : place.result < w.each = omega (arith, c.if-place-from.false, c.from.ensures) in
    reserving w to c.args.tried.now c.args.robot place.result c.reserve.new.to None within place.ensures.low place.ensures.shut (place.ensures.open within)
    (c.reserve.ensures.to ∙ ap (slice_set to c.args.robot) c.get-cell.ensures)
    (λ q known here u. c.if-to-other.false (ap (slice_index c.reserve.new.to)
    (c.requires.seated.distinct c.in-Some.other q c.in-Some.ensures.0 known (c.in-Some.ensures.1 ∙ (c.get-cell.ensures ∙ sym here))) ∙ u))

pub returns-else-to-other-clause-holding : goal.returns-else-to-other-clause-holding
returns-else-to-other-clause-holding c =
    let w = wishes c.args.scene.now.from.now c.args.scene.now.preferences in
    let place = c.first_open-place in
    let within : place.result < w.each = omega (arith, c.if-place-from.false, c.from.ensures) in
    let inside : c.get-cell.result < length c.args.scene.now.standing.now =
    omega (arith, c.get-cell.ensures, c.requires.seated.within c.args.robot place.result c.requires.known within) in
    rw (c.reserve.ensures.to, c.reserve.ensures.holder)
    (hold_more (length c.args.scene.now.from.now) (length c.args.scene.now.standing.now) c.args.to.now c.args.holder.now c.args.robot c.get-cell.result
    c.requires.holding c.requires.known inside (λ q known e. (place.ensures.open within).free q known (e ∙ c.get-cell.ensures)))
