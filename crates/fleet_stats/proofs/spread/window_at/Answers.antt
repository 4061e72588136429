use Rattle.fleet_stats.proofs.Lists.{short_window}
use Rattle.fleet_stats.proofs.spread.window_at.Goals as goal

pub returns-then-numbers-start-le100 : goal.returns-then-numbers-start-le100
returns-then-numbers-start-le100 c = short_window c.args.numbers.now c.args.start c.if-numbers-start-le100.true
