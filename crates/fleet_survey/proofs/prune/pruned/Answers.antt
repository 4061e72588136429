use Rattle.std.proofs.Common.{◌∙◌, sym}
use Rattle.fleet_survey.proofs.Prunes.{pruned_at, spares_none, spares_unroomy}
use Rattle.fleet_survey.proofs.prune.pruned.Goals as goal

pub without-requires : goal.without-requires
without-requires c = spares_none c.args.robots c.args.grid.now c.none.result.marks.items c.none.ensures

pub returns-then-count-eq0 : goal.returns-then-count-eq0
returns-then-count-eq0 c = pruned_at c.args.robots c.args.grid.now c.loop.map c.in_ok-unroomy.unroomy.marks.items c.loop.invariant c.in_ok-unroomy.ensures (sym c.count.ensures ∙ c.if-count-eq0.true)

pub without-requires-in-loop : goal.without-requires-in-loop
without-requires-in-loop c = spares_unroomy c.args.robots c.loop.map c.in_ok-unroomy.unroomy.marks.items c.in_ok-unroomy.ensures
