use Rattle.std.proofs.Common.{◌≡◌, ◌++◌, ◌∷◌, [], length, sym, ap, ◌∙◌, arith, append_assoc, drop}
use Rattle.std.proofs.Math.ListN.{length-set}
use Rattle.fleet_history.specs.History.{clients}
use Rattle.fleet_core.specs.Core.{pending, without_first}
use Rattle.fleet_core.specs.Pending.{Pending}
use Rattle.fleet_core.proofs.Fronts.{nil_from_none}
use Rattle.fleet_office.specs.Hall.{handed}
use Rattle.fleet_office.proofs.GiveSteps.{handed_again, box_handed, head_split, popped}
use Rattle.fleet_office.proofs.leftovers.move_mailbox.Goals as goal

pub loop-notice-preserved : goal.loop-notice-preserved
loop-notice-preserved g c =
    let i = c.loop-notice.invariant in
    let n = c.args.number in
    let v = c.loop-notice.core in
    let u = c.give.new.self in
    let out = c.loop-notice.out.items in
    let notice = c.in-Some.notice in
    let was = (pending v n).notices in
    let now = (pending u n).notices in
    let rest : u ≡ without_first v n = c.give.ensures.rest in
    let p = c.push_reserved.ensures in
    let left : now ≡ drop 1 was = ap (λ x. (pending x n).notices) rest ∙ ap (λ (b : Pending). b.notices) (box_handed v n (drop 1 was) (omega (arith, i.4, c.requires.there))) in
    let all : was ≡ notice ∷ now = sym (head_split was notice (sym c.in-Some.ensures.notice)) ∙ ap (λ t. notice ∷ t) (sym left) in (
      ap (λ xs. xs ++ now) p.items ∙ append_assoc out (notice ∷ []) now ∙ ap (λ xs. out ++ xs) (sym all) ∙ i.0,
      rest ∙ ap (handed v n) (sym left) ∙ ap (λ w. handed w n now) i.1 ∙ handed_again c.args.core.now n was now c.requires.there,
      omega (arith, p.len, i.2, ap length all),
      p.capacity ∙ i.3,
      ap (λ w. length w.mailboxes) rest ∙ length-set v.mailboxes n (popped (pending v n)) ∙ i.4,
      ap (λ w. clients w.history) rest ∙ i.5,
    )

pub returns-clause-core : goal.returns-clause-core
returns-clause-core g c =
    let i = c.loop-notice.invariant in
    let n = c.args.number in
    let v = c.loop-notice.core in
    let was = (pending v n).notices in
    let none : was ≡ [] = nil_from_none was (sym c.in_default.ensures.notice) in
    c.give.ensures.rest ∙ ap (λ ps. handed v n (drop 1 ps)) none ∙ ap (λ w. handed w n []) i.1 ∙ handed_again c.args.core.now n was [] c.requires.there
