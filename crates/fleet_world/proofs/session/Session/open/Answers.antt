-- A session of a world that was opened, and of one that was not.
use Rattle.std.proofs.Common.{◌≡◌, ◌∙◌, sym, refl, ap}
use Rattle.std.proofs.lemmas.List.{length-replicate}
use Rattle.fleet_history.specs.History.{clients, unknown_client}
use Rattle.fleet_core.proofs.OpeningRefusals.{refused-memory, refused-ok}
use Rattle.fleet_core.specs.Core.{World}
use Rattle.fleet_core.specs.Hooks.{laws_of}
use Rattle.fleet_world.proofs.Refusals.{fault-at}
use Rattle.fleet_world.proofs.session.Session.open.Goals as goal

pub invariant_of-result : goal.invariant_of-result
invariant_of-result g c =
    let known : clients c.in-Ok.world.core.history ≡ c.args.clients = ap (λ (w : World _). clients w.history) c.in-Ok.ensures.ok ∙ length-replicate c.args.clients unknown_client in
    record { count = c.in-Ok-nothing_waits.ensures.len ∙ sym known }

pub returns-in-Ok-nothing_waits-clause-refused : goal.returns-in-Ok-nothing_waits-clause-refused
returns-in-Ok-nothing_waits-clause-refused g c f named =
    refused-ok c.args.grid c.args.starts.items c.args.clients c.args.limits (laws_of c.args.hooks) _ f c.in-Ok.ensures.can

pub returns-in-Err-clause-refused : goal.returns-in-Err-clause-refused
returns-in-Err-clause-refused g c f named = fault-at (c.in-Err.ensures.refused f named)

pub returns-in-Err-clause-can : goal.returns-in-Err-clause-can
returns-in-Err-clause-can g c = tt

pub returns-in-Err-clause-orderly : goal.returns-in-Err-clause-orderly
returns-in-Err-clause-orderly g c = tt

pub returns-in-Err-clause-ok : goal.returns-in-Err-clause-ok
returns-in-Err-clause-ok g c = tt

pub returns-in-Ok-nothing_waits-clause-can : goal.returns-in-Ok-nothing_waits-clause-can
returns-in-Ok-nothing_waits-clause-can g c = c.in-Ok.ensures.can

pub returns-in-Ok-nothing_waits-clause-orderly : goal.returns-in-Ok-nothing_waits-clause-orderly
returns-in-Ok-nothing_waits-clause-orderly g c = c.in-Ok.ensures.orderly

pub returns-in-Ok-nothing_waits-clause-ok : goal.returns-in-Ok-nothing_waits-clause-ok
returns-in-Ok-nothing_waits-clause-ok g c = rw (c.in-Ok.ensures.ok, c.in-Ok-nothing_waits.ensures.items) refl

pub returns-in-Err-nothing_waits-clause-refused : goal.returns-in-Err-nothing_waits-clause-refused
returns-in-Err-nothing_waits-clause-refused g c f named = refused-memory c.args.grid c.args.starts.items c.args.clients c.args.limits (laws_of c.args.hooks) f named c.in-Ok.ensures.can

pub returns-in-Err-nothing_waits-clause-can : goal.returns-in-Err-nothing_waits-clause-can
returns-in-Err-nothing_waits-clause-can g c = tt

pub returns-in-Err-nothing_waits-clause-orderly : goal.returns-in-Err-nothing_waits-clause-orderly
returns-in-Err-nothing_waits-clause-orderly g c = tt

pub returns-in-Err-nothing_waits-clause-ok : goal.returns-in-Err-nothing_waits-clause-ok
returns-in-Err-nothing_waits-clause-ok g c = tt
