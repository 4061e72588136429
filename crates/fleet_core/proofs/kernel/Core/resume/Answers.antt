-- The core that goes on.
use Rattle.std.proofs.Common.{refl, sym, subst}
use Rattle.fleet_history.specs.History.{start}
use Rattle.fleet_core.specs.Hooks.{HookLaws}
use Rattle.fleet_core.specs.inside.Kept.{IsKept}
use Rattle.fleet_core.proofs.ResumingFacts.{kept-resumed}
use Rattle.fleet_core.proofs.kernel.Core.resume.Goals as goal

pub resumed_at-requires : goal.resumed_at-requires
resumed_at-requires g c = (c.args.number, c.args.laws, c.requires)

pub invariant_of-result : goal.invariant_of-result
invariant_of-result g c =
    let b = c.in-Ok.resumed in
    rw c.new.ensures.items
    (subst (λ (laws : HookLaws). IsKept c.args.grid c.args.limits laws.ties c.args.number (start c.args.opening) b.state b.planner b.mailboxes) (sym c.laws.view_is)
    (kept-resumed c.args.grid c.args.number c.args.opening c.args.limits c.args.laws b.state b.planner b.mailboxes c.requires c.in-Ok.ensures))

pub returns-in-Ok : goal.returns-in-Ok
returns-in-Ok g c = rw (c.new.ensures.items, c.in-Ok.ensures.boxes, c.in-Ok.ensures.plain, ← c.laws.view_is) refl
