use Rattle.std.proofs.Common.{◌∙◌, ap, subst, sym}
use Rattle.fleet_survey.specs.Peeled.{SaysAround, with_next}
use Rattle.fleet_survey.specs.declared.around.Around.{Around}
use Rattle.fleet_survey.proofs.Peels.{says_around}
use Rattle.fleet_survey.proofs.around.marked_around.Goals as goal

pub returns : goal.returns
returns c =
    let all =
    c.with.ensures ∙ ap (λ (f : Around). with_next f c.marked_at-west.result) (c.with-third.ensures ∙ ap (λ (f : Around). with_next f c.marked_at-south.result) (c.with-second.ensures ∙ ap (λ (f : Around). with_next f c.marked_at-east.result) c.with-first.ensures)) in
    subst (SaysAround c.args.grid.now c.args.marks.now c.args.cell) (sym all)
    (says_around c.args.grid.now c.args.marks.now c.args.cell c.marked_at-north.result c.marked_at-east.result c.marked_at-south.result c.marked_at-west.result c.marked_at-north.ensures c.marked_at-east.ensures c.marked_at-south.ensures c.marked_at-west.ensures)
