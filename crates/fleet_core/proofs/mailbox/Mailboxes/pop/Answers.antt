use Rattle.std.proofs.Common.{◌∙◌, ◌<◌, length, ap, sym, subst, arith}
use Rattle.std.specs.Prelude.{slice_get, drop}
use Rattle.std.proofs.lemmas.List.{length-set}
use Rattle.fleet_core.specs.inside.Mailboxes.{Mailboxes, box_at, with_box}
use Rattle.fleet_core.specs.Pending.{Pending}
use Rattle.fleet_core.proofs.OneMailbox.{box-there, box-put}
use Rattle.fleet_core.proofs.mailbox.Mailboxes.pop.Goals as goal

pub index_mut-mailbox-requires : goal.index_mut-mailbox-requires
index_mut-mailbox-requires g c =
    let known = subst (λ (x : Mailboxes). c.args.client < length x.boxes) (sym c.self.view_is) c.requires in
    omega (arith, known, c.self.inside.boxes.ok.0)

pub invariant_of-self : goal.invariant_of-self
invariant_of-self g c = c.self.invariant ∙ sym (length-set c.self.inside.boxes.items c.args.client c.pop.new.self)

pub returns-clause-first : goal.returns-clause-first
returns-clause-first g c =
    let known = subst (λ (x : Mailboxes). c.args.client < length x.boxes) (sym c.self.view_is) c.requires in
    c.pop.ensures.first ∙ ap (λ (b : Pending). slice_get b.notices 0) (box-there c.self.inside.boxes.items c.args.client c.index_mut-mailbox.result.now known c.index_mut-mailbox.ensures.value)
    ∙ ap (λ (x : Mailboxes). slice_get (box_at x.boxes c.args.client).notices 0) c.self.view_is

pub returns-clause-rest : goal.returns-clause-rest
returns-clause-rest g c =
    let known = subst (λ (x : Mailboxes). c.args.client < length x.boxes) (sym c.self.view_is) c.requires in
    let popped : Pending → Pending = λ b. record { notices = drop 1 b.notices; limit = b.limit } in
    box-put c.self.inside.boxes.items c.self.inside.noticed.items c.args.client popped c.index_mut-mailbox.result.now c.pop.new.self
    (box-there c.self.inside.boxes.items c.args.client c.index_mut-mailbox.result.now known c.index_mut-mailbox.ensures.value) c.pop.ensures.rest
    ∙ ap (λ (x : Mailboxes). with_box x c.args.client (popped (box_at x.boxes c.args.client))) c.self.view_is
