-- The page of the log's text.
use Rattle.std.proofs.lemmas.Result.{IfOk-weaker}
use Rattle.fleet_map.specs.Grammar.{view}
use Rattle.fleet_view.proofs.Paired.{log-made}
use Rattle.fleet_view.proofs.logs.log_on.Goals as goal

pub returns : goal.returns
returns c =
    IfOk-weaker c.runs_page.result _ _ (λ page is. log-made (view c.args.floor.now) c.args.text.now c.in_ok-made.made.items c.deref.result.now page.items c.in_ok-made.ensures c.deref.ensures.value is) c.runs_page.ensures
