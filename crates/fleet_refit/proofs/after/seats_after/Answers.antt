-- One robot more.
use Rattle.std.proofs.Common.{◌∙◌, ◌+◌, ◌++◌, ◌∷◌, [], ap, length, subst, sym}
use Rattle.fleet_refit.specs.Site.{is_moving}
use Rattle.fleet_refit.proofs.SeatsAfter.{IsLeft, after-length, left-all, left-moving, left-none, left-other, next-inside}
use Rattle.fleet_refit.proofs.after.seats_after.Goals as goal
use Rattle.fleet_refit.proofs.after.seats_after.Goals.{then-is_moving+in_ok-moving+in_ok-push, else-is_moving+in_ok-copied_seat+in_ok-push-2}

pub loop-place-init : goal.loop-place-init
loop-place-init g c = subst (λ l. IsLeft c.args.seats.now c.args.robots.now 0 0 l) (sym c.in_ok-after.ensures.items) (left-all c.args.seats.now c.args.robots.now c.requires)

pub bounds-robots-next : goal.bounds-robots-next
bounds-robots-next g c =
    next-inside c.args.seats.now c.args.robots.now c.loop-place.place c.loop-place.next c.loop-place.after.items c.index-seats-place.result c.loop-place.invariant c.loop-place-test.true c.index-seats-place.is
    (sym c.is_moving.ensures ∙ c.if-is_moving.true)

pub loop-place-preserved : goal.loop-place-preserved
loop-place-preserved g c =
    let seats = c.args.seats.now in
    let robots = c.args.robots.now in
    let x = c.index-seats-place.result in
    elim c.if-is_moving.branch [
      | then-is_moving+in_ok-moving+in_ok-push w ↦
          subst (λ n. IsLeft seats robots (c.loop-place.place + 1) n c.if-is_moving.after.items) (sym w.next-is)
          (subst (λ v. IsLeft seats robots (c.loop-place.place + 1) (c.loop-place.next + 1) v.items) (sym w.after-is)
          (subst (λ l. IsLeft seats robots (c.loop-place.place + 1) (c.loop-place.next + 1) l) (sym w.in_ok-push.ensures.items)
          (subst (λ y. IsLeft seats robots (c.loop-place.place + 1) (c.loop-place.next + 1) (c.loop-place.after.items ++ y ∷ [])) (sym w.in_ok-moving.ensures)
          (left-moving seats robots c.loop-place.place c.loop-place.next c.loop-place.after.items x w.index-robots-next.result c.loop-place.invariant c.loop-place-test.true c.index-seats-place.is
          (sym c.is_moving.ensures ∙ w.if-is_moving.true) w.index-robots-next.is))))
      | else-is_moving+in_ok-copied_seat+in_ok-push-2 w ↦
          subst (λ n. IsLeft seats robots (c.loop-place.place + 1) n c.if-is_moving.after.items) (sym w.next-is)
          (subst (λ v. IsLeft seats robots (c.loop-place.place + 1) c.loop-place.next v.items) (sym w.after-is)
          (subst (λ l. IsLeft seats robots (c.loop-place.place + 1) c.loop-place.next l) (sym w.in_ok-push-2.ensures.items)
          (subst (λ y. IsLeft seats robots (c.loop-place.place + 1) c.loop-place.next (c.loop-place.after.items ++ y ∷ [])) (sym w.in_ok-copied_seat.ensures)
          (left-other seats robots c.loop-place.place c.loop-place.next c.loop-place.after.items x c.loop-place.invariant c.loop-place-test.true c.index-seats-place.is
          (sym c.is_moving.ensures ∙ w.if-is_moving.false)))))
    ]

pub returns-clause-exact : goal.returns-clause-exact
returns-clause-exact g c = left-none c.args.seats.now c.args.robots.now c.loop-place.place c.loop-place.next c.loop-place.after.items c.loop-place.invariant c.loop-place-test.false

pub returns-clause-length : goal.returns-clause-length
returns-clause-length g c = ap length (returns-clause-exact g c) ∙ after-length c.args.seats.now c.args.robots.now
