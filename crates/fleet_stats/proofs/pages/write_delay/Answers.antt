use Rattle.std.proofs.Common.{◌-◌, codes, string_bytes}
use Rattle.std.proofs.lemmas.Result.{on_ok_weaker}
use Rattle.fleet_stats.specs.Text.{ratio_line}
use Rattle.fleet_stats.proofs.Lists.{one_more}
use Rattle.fleet_stats.proofs.pages.write_delay.Goals as goal

pub returns : goal.returns
returns c =
    let late = ratio_line c.args.style (codes "") (codes "delay") (c.args.travel - c.args.distance) c.args.errands in
    let share = ratio_line c.args.style (codes "") (codes "delay_ratio") c.args.travel c.args.distance in
    on_ok_weaker c.write_ratio.result
    (λ h. one_more (string_bytes c.args.out.now) late share _ _ c.in_ok-write_late.ensures h)
    c.write_ratio.ensures
