-- The core at its opening.
use Rattle.std.proofs.Common.{refl, sym, subst}
use Rattle.fleet_history.specs.History.{start}
use Rattle.fleet_core.specs.Hooks.{HookLaws}
use Rattle.fleet_core.specs.inside.Kept.{IsKept}
use Rattle.fleet_core.proofs.kernel.Core.open.Goals as goal

pub invariant_of-result : goal.invariant_of-result
invariant_of-result g c =
    let b = c.in-Ok.begun in
    rw c.new.ensures.items (subst (λ (laws : HookLaws). IsKept c.args.grid c.args.limits laws.ties 0 (start b.opening) b.state b.planner b.mailboxes) (sym c.laws.view_is) c.in-Ok.ensures.kept)

pub returns-in-Ok : goal.returns-in-Ok
returns-in-Ok g c = rw (c.new.ensures.items, c.in-Ok.ensures.opening, c.as_slice.ensures.value, c.in-Ok.ensures.mailboxes, c.in-Ok.ensures.plain, ← c.laws.view_is) refl
