use Rattle.std.proofs.Common.{◌∙◌, ◌<◌, ◌≤◌, ◌+◌, ◌^◌, length, ap, sym, subst, arith}
use Rattle.std.proofs.lemmas.List.{length-set}
use Rattle.fleet_core.specs.inside.Mailboxes.{Mailboxes, box_at, with_box}
use Rattle.fleet_core.specs.Pending.{Pending}
use Rattle.fleet_core.proofs.OneMailbox.{box-there, box-put, box-kept}
use Rattle.fleet_core.proofs.Refusals.{on_ok_map, on_err_map}
use Rattle.fleet_core.proofs.mailbox.Mailboxes.widen.Goals as goal

pub index_mut-mailbox-requires : goal.index_mut-mailbox-requires
index_mut-mailbox-requires g c =
    let known = subst (λ (x : Mailboxes). c.args.client < length x.boxes) (sym c.self.view_is) c.requires.known in
    omega (arith, known, c.self.inside.boxes.ok.0)

pub widen-requires : goal.widen-requires
widen-requires g c =
    let known = subst (λ (x : Mailboxes). c.args.client < length x.boxes) (sym c.self.view_is) c.requires.known in
    let small = subst (λ (x : Mailboxes). (box_at x.boxes c.args.client).limit + c.args.extra ≤ 2 ^ 60) (sym c.self.view_is) c.requires.small in
    subst (λ (b : Pending). b.limit + c.args.extra ≤ 2 ^ 60) (sym (box-there c.self.inside.boxes.items c.args.client c.index_mut-mailbox.result.now known c.index_mut-mailbox.ensures.value)) small

pub invariant_of-self : goal.invariant_of-self
invariant_of-self g c = c.self.invariant ∙ sym (length-set c.self.inside.boxes.items c.args.client c.widen.new.self)

pub returns-clause-ok : goal.returns-clause-ok
returns-clause-ok g c =
    let known = subst (λ (x : Mailboxes). c.args.client < length x.boxes) (sym c.self.view_is) c.requires.known in
    let wider : Pending → Pending = λ b. record { notices = b.notices; limit = b.limit + c.args.extra } in
    on_ok_map c.widen.result
    (λ e. box-put c.self.inside.boxes.items c.self.inside.noticed.items c.args.client wider c.index_mut-mailbox.result.now c.widen.new.self
    (box-there c.self.inside.boxes.items c.args.client c.index_mut-mailbox.result.now known c.index_mut-mailbox.ensures.value) e
    ∙ ap (λ (x : Mailboxes). with_box x c.args.client (wider (box_at x.boxes c.args.client))) c.self.view_is)
    c.widen.ensures.ok

pub returns-clause-err : goal.returns-clause-err
returns-clause-err g c =
    let known = subst (λ (x : Mailboxes). c.args.client < length x.boxes) (sym c.self.view_is) c.requires.known in
    on_err_map c.widen.result
    (λ e. box-kept c.self.inside.boxes.items c.self.inside.noticed.items c.args.client c.index_mut-mailbox.result.now c.widen.new.self
    (box-there c.self.inside.boxes.items c.args.client c.index_mut-mailbox.result.now known c.index_mut-mailbox.ensures.value) e ∙ c.self.view_is)
    c.widen.ensures.err
