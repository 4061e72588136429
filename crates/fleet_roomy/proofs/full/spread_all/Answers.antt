use Rattle.fleet_roomy.proofs.Fullness.{all-ways, ok-with}
use Rattle.fleet_roomy.proofs.full.spread_all.Goals as goal

pub returns-clause-on : goal.returns-clause-on
returns-clause-on g c =
    ok-with c.spread-4.result _ _ _ c.spread-4.ensures.on c.spread-4.ensures.more
    (λ goes_on west more going y step.
    all-ways c.args.grid.now c.args.cells.now c.args.edge.from c.args.edge.to c.args.cell c.spread.new.found.robots.items c.spread-2.new.found.robots.items c.spread-3.new.found.robots.items c.spread-4.new.found.robots.items
    (c.in_ok-spread.ensures.on c.if-not-branch.false) (c.in_ok-spread-2.ensures.on c.if-not-branch-2.false) (c.in_ok-spread-3.ensures.on c.if-not-branch-3.false) (west going)
    c.in_ok-spread-2.ensures.more c.in_ok-spread-3.ensures.more more y step)
