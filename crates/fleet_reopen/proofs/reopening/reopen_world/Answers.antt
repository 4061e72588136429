use Rattle.std.proofs.Common.{◌+◌, refl, subst}
use Rattle.fleet_core.specs.Hooks.{laws_of, HookLaws}
use Rattle.fleet_history.specs.History.{history_of}
use Rattle.fleet_reopen.specs.Reopening.{CanReopen}
use Rattle.fleet_reopen.proofs.Ends.{can-reopened}
use Rattle.fleet_reopen.proofs.reopening.reopen_world.Goals as goal

pub resume-requires : goal.resume-requires
resume-requires g c =
    can-reopened c.args.grid c.args.chapter.now.number (c.args.chapter.now.number + 1) (history_of c.args.chapter.now) c.in_ok-opening.opening c.args.limits (laws_of c.args.hooks) refl
    c.in_ok-opening.ensures.next (subst (λ (laws : HookLaws). CanReopen c.args.grid c.args.chapter.now.number (history_of c.args.chapter.now) c.args.limits laws) c.in_ok-laws.ensures.ok c.in_ok-opening.ensures.can)
