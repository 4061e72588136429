use Rattle.std.proofs.Common.{◌≡◌, refl, ap, sym, ◌∙◌, subst, length, inl}
use Rattle.std.proofs.Math.ListN.{length-set}
use Rattle.fleet_history.specs.History.{clients}
use Rattle.fleet_core.specs.Core.{pending, without_first}
use Rattle.fleet_core.proofs.Fronts.{nil_from_none}
use Rattle.fleet_office.specs.Hall.{Gives}
use Rattle.fleet_office.proofs.GiveSteps.{gives_none, gives_more, popped}
use Rattle.fleet_office.proofs.giving.give_from.Goals as goal

pub loop-notice-preserved : goal.loop-notice-preserved
loop-notice-preserved g c =
    let i = c.loop-notice.invariant in
    let v = c.loop-notice.core in
    let u = c.give-in-Some.new.self in
    let rest : u ≡ without_first v c.args.client = c.give-in-Some.ensures.rest in (
      gives_more c.args.core.now v u c.args.end.now c.loop-notice.end c.give.new.self c.args.client c.loop-notice.count c.in-Some.notice c.requires.there i.1 i.0 (sym c.in-Some.ensures) rest c.in_default-give.ensures.ok.0,
      ap (λ w. length w.mailboxes) rest ∙ length-set v.mailboxes c.args.client (popped (pending v c.args.client)) ∙ i.1,
      ap (λ w. clients w.history) rest ∙ i.2,
    )

pub returns-clause-until : goal.returns-clause-until
returns-clause-until g c = inl (nil_from_none (pending c.loop-notice.core c.args.client).notices (sym c.in_default.ensures))

pub loop-notice-init : goal.loop-notice-init
loop-notice-init g c = (gives_none c.args.core.now c.args.end.now c.args.client c.requires.there, refl, refl)

pub returns-in-Err-clause-gives : goal.returns-in-Err-clause-gives
returns-in-Err-clause-gives g c =
    subst (λ d. Gives c.args.core.now c.loop-notice.core c.args.end.now d c.args.client c.loop-notice.count) (sym c.in-Err.ensures.err.1) c.loop-notice.invariant.0

pub returns-clause-gives : goal.returns-clause-gives
returns-clause-gives g c = c.loop-notice.invariant.0
