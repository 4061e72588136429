use Rattle.std.proofs.Common.{string_bytes}
use Rattle.std.proofs.lemmas.Result.{on_ok_weaker}
use Rattle.fleet_stats.specs.Text.{run_text, orders_text, refusals_below, fleet_text, robots_text}
use Rattle.fleet_stats.proofs.Lists.{five_parts}
use Rattle.fleet_stats.proofs.pages.write_figures.Goals as goal

pub returns : goal.returns
returns c =
    let style = c.args.style in
    let s = c.args.s.now in
    let kinds = c.args.kinds.now in
    on_ok_weaker c.write_robots.result
    (λ h. five_parts (string_bytes c.args.out.now) (run_text style s) (orders_text style kinds) (refusals_below style kinds 10) (fleet_text style s) (robots_text style s) _ _ _ _ _
    c.in_ok-write_run.ensures c.in_ok-write_orders.ensures c.in_ok-write_refusals.ensures c.in_ok-write_errands.ensures h)
    c.write_robots.ensures
