-- One robot more.
use Rattle.std.proofs.Common.{◌≡◌, ◌∙◌, ap, sym}
use Rattle.fleet_refit.specs.Site.{is_moving}
use Rattle.fleet_refit.proofs.Seats.{numbers-moving, numbers-other}
use Rattle.fleet_refit.proofs.opening.moving_numbers.Goals as goal
use Rattle.fleet_refit.proofs.opening.moving_numbers.Goals.{then-is_moving+in_ok-push, else-is_moving}

pub loop-place-preserved : goal.loop-place-preserved
loop-place-preserved g c = elim c.if-is_moving.branch [
  | then-is_moving+in_ok-push w ↦ ap (λ v. v.items) w.numbers-is ∙ w.in_ok-push.ensures.items ∙
      numbers-moving c.loop-place.numbers.items c.args.seats.now c.loop-place.place c.index-seats-place.result c.loop-place.invariant c.loop-place-test.true c.index-seats-place.is
      (ap (λ y. is_moving y.standing) c.index-seats-place.is ∙ sym c.is_moving.ensures ∙ w.if-is_moving.true)
  | else-is_moving w ↦ ap (λ v. v.items) w.numbers-is ∙
      numbers-other c.loop-place.numbers.items c.args.seats.now c.loop-place.place c.index-seats-place.result c.loop-place.invariant c.loop-place-test.true c.index-seats-place.is
      (ap (λ y. is_moving y.standing) c.index-seats-place.is ∙ sym c.is_moving.ensures ∙ w.if-is_moving.false)
]
