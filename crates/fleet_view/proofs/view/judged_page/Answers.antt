-- The page with the verdicts.
use Rattle.std.proofs.Common.{map, subst}
use Rattle.std.proofs.lemmas.Result.{IfOk-weaker}
use Rattle.fleet_grid.specs.Floor.{Floor}
use Rattle.fleet_map.specs.Grammar.{view}
use Rattle.fleet_trace.specs.Trace.{trace_of}
use Rattle.fleet_view.specs.Verdicts.{AreVerdicts}
use Rattle.fleet_view.proofs.Made.{judged-made}
use Rattle.fleet_view.proofs.view.judged_page.Goals as goal

pub returns : goal.returns
returns c =
    let judged = subst (λ (m : Floor). AreVerdicts m (map trace_of c.args.chapters.now) c.in_ok-verdicts.verdicts.items) c.requires.grid c.in_ok-verdicts.ensures in
    IfOk-weaker c.page_of.result _ _ (λ page is. judged-made (view c.args.ground.now.floor) (map trace_of c.args.chapters.now) c.in_ok-verdicts.verdicts.items c.deref.result.now page.items
    judged c.deref.ensures.value is) c.page_of.ensures
