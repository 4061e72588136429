-- The page of the run.
use Rattle.std.proofs.lemmas.Result.{IfOk-weaker}
use Rattle.fleet_map.specs.Grammar.{view}
use Rattle.fleet_view.proofs.Told.{paged}
use Rattle.fleet_view.proofs.many.studied_page.Goals as goal

pub returns : goal.returns
returns c =
    IfOk-weaker c.runs_page.result _ _
    (λ page is. paged c.args.bytes.now c.args.plan.now (view c.args.floor.now) c.args.study.now.answer c.args.study.now.places c.in_ok-made.made.items c.deref.result.now page.items c.in_ok-made.ensures c.deref.ensures.value is)
    c.runs_page.ensures
