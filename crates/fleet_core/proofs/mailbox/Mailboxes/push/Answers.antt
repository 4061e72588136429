use Rattle.std.proofs.Common.{◌∙◌, ◌<◌, ◌+◌, ◌^◌, length, ap, sym, subst, arith}
use Rattle.std.specs.Prelude.{slice_index}
use Rattle.std.proofs.lemmas.List.{length-set, get_or_default}
use Rattle.fleet_core.specs.inside.Mailboxes.{Mailboxes, box_at, with_notice}
use Rattle.fleet_core.specs.Pending.{Pending}
use Rattle.fleet_core.proofs.OneMailbox.{box-there, notice-put}
use Rattle.fleet_core.proofs.mailbox.Mailboxes.push.Goals as goal

pub index_mut-mailbox-requires : goal.index_mut-mailbox-requires
index_mut-mailbox-requires g c =
    let known = subst (λ (x : Mailboxes). c.args.client < length x.boxes) (sym c.self.view_is) c.requires.known in
    omega (arith, known, c.self.inside.boxes.ok.0)

pub index_mut-requires : goal.index_mut-requires
index_mut-requires g c =
    let known = subst (λ (x : Mailboxes). c.args.client < length x.boxes) (sym c.self.view_is) c.requires.known in
    omega (arith, known, c.self.invariant, c.self.inside.noticed.ok.0)

pub push-requires : goal.push-requires
push-requires g c =
    let known = subst (λ (x : Mailboxes). c.args.client < length x.boxes) (sym c.self.view_is) c.requires.known in
    let room = subst (λ (x : Mailboxes). length (box_at x.boxes c.args.client).notices < (box_at x.boxes c.args.client).limit) (sym c.self.view_is) c.requires.room in
    subst (λ (b : Pending). length b.notices < b.limit) (sym (box-there c.self.inside.boxes.items c.args.client c.index_mut-mailbox.result.now known c.index_mut-mailbox.ensures.value)) room

pub overflow_add-index_mut : goal.overflow_add-index_mut
overflow_add-index_mut g c =
    let known = subst (λ (x : Mailboxes). c.args.client < length x.boxes) (sym c.self.view_is) c.requires.known in
    let small = subst (λ (x : Mailboxes). slice_index x.noticed c.args.client + 1 < 2 ^ 64) (sym c.self.view_is) c.requires.small in
    let there : c.args.client < length c.self.inside.noticed.items = omega (arith, known, c.self.invariant) in
    omega (arith, small, c.index_mut.ensures.value ∙ get_or_default c.self.inside.noticed.items c.args.client c.index_mut.result.now 0 there)

pub invariant_of-self : goal.invariant_of-self
invariant_of-self g c =
    length-set c.self.inside.noticed.items c.args.client (c.index_mut.result.now + 1) ∙ c.self.invariant ∙ sym (length-set c.self.inside.boxes.items c.args.client c.push.new.self)

pub returns : goal.returns
returns g c =
    let known = subst (λ (x : Mailboxes). c.args.client < length x.boxes) (sym c.self.view_is) c.requires.known in
    let there : c.args.client < length c.self.inside.noticed.items = omega (arith, known, c.self.invariant) in
    notice-put c.self.inside.boxes.items c.self.inside.noticed.items c.args.client c.args.notice c.index_mut-mailbox.result.now c.push.new.self c.index_mut.result.now
    (box-there c.self.inside.boxes.items c.args.client c.index_mut-mailbox.result.now known c.index_mut-mailbox.ensures.value)
    (c.index_mut.ensures.value ∙ get_or_default c.self.inside.noticed.items c.args.client c.index_mut.result.now 0 there) c.push.ensures
    ∙ ap (λ (x : Mailboxes). with_notice x c.args.client c.args.notice) c.self.view_is
