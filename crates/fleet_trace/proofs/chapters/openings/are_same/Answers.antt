-- They are the same if their items are.
use Rattle.std.proofs.Common.{refl, arith}
use Rattle.fleet_trace.proofs.AllItems.{same-items}
use Rattle.fleet_trace.proofs.chapters.openings.are_same.Goals as goal

pub returns : goal.returns
returns g c = (
  λ same. same-items c.args.items.now c.args.others.now c.loop-place.place c.if-items-others.false (omega (arith, c.loop-place.auto.place-end, c.loop-place-test.false)) c.loop-place.invariant,
  λ e. refl,
)
