-- One robot more.
use Rattle.std.proofs.Common.{◌≡◌, ◌∙◌, ap, sym}
use Rattle.fleet_refit.proofs.Seats.{walled-held, walled-other}
use Rattle.fleet_refit.proofs.map.walled.Goals as goal
use Rattle.fleet_refit.proofs.map.walled.Goals.{then-is_held, else-is_held}

pub loop-place-preserved : goal.loop-place-preserved
loop-place-preserved g c = elim c.if-is_held.branch [
  | then-is_held w ↦ ap (λ v. v.items) w.copy-is ∙ w.put.ensures ∙
      walled-held c.args.letters.now c.loop-place.copy.items c.args.seats.now c.loop-place.place c.index-seats-place.result c.loop-place.invariant c.loop-place-test.true c.index-seats-place.is
      (sym c.is_held.ensures ∙ w.if-is_held.true)
  | else-is_held w ↦ ap (λ v. v.items) w.copy-is ∙
      walled-other c.args.letters.now c.loop-place.copy.items c.args.seats.now c.loop-place.place c.index-seats-place.result c.loop-place.invariant c.loop-place-test.true c.index-seats-place.is
      (sym c.is_held.ensures ∙ w.if-is_held.false)
]
