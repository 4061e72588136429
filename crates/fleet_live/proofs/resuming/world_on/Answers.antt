-- Nothing was done yet in a world that goes on.
use Rattle.std.proofs.Common.{◌≡◌, refl, sym, subst}
use Rattle.std.specs.declared.alloc.Global.{Global}
use Rattle.fleet_core.specs.Core.{World}
use Rattle.fleet_talk.specs.Manners.{IsFresh}
use Rattle.std.proofs.lemmas.Result.{IfOk-weaker}
use Rattle.fleet_live.proofs.resuming.world_on.Goals as goal

pub returns-clause-fresh : goal.returns-clause-fresh
returns-clause-fresh g c = IfOk-weaker c.world_with_door.result _ _ (λ r same. subst (λ (w : World Global). IsFresh w) (sym same) (record { entries = refl; plain = refl })) c.world_with_door.ensures.ok
