use Rattle.std.proofs.Common.{sym, ◌∙◌}
use Rattle.fleet_bridge.proofs.Listing.{hung_up, hung_down}
use Rattle.fleet_bridge.proofs.listed.hangs_by.Goals as goal

pub returns-then-read-b : goal.returns-then-read-b
returns-then-read-b g c = λ is. hung_up c.args.sides.now c.args.tree.now c.args.a c.args.b c.requires.tree c.requires.walk c.requires.edge (sym c.read.ensures ∙ c.if-read-b.true) (c.hangs.ensures.yes is)

pub returns-then-read-a : goal.returns-then-read-a
returns-then-read-a g c = λ is. hung_down c.args.sides.now c.args.tree.now c.args.a c.args.b c.requires.tree c.requires.walk c.requires.edge (sym c.read-2.ensures ∙ c.if-read-a.true) (c.hangs-then-read-a.ensures.yes is)
