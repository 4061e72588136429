use Rattle.std.proofs.Common.{sym, ◌∙◌}
use Rattle.fleet_bridge.proofs.Rounds.{round_up, round_down, round_off}
use Rattle.fleet_grid.proofs.Forms.{floor_inside}
use Rattle.fleet_bridge.proofs.first.is_round.Goals as goal

pub returns-then-read-b : goal.returns-then-read-b
returns-then-read-b g c = λ is. round_up c.args.sides.now c.args.tree.now c.args.a c.args.b c.requires.tree c.requires.edge (sym c.read.ensures ∙ c.if-read-b.true) (c.is_crossed.ensures is)

pub returns-then-read-a : goal.returns-then-read-a
returns-then-read-a g c = λ is. round_down c.args.sides.now c.args.tree.now c.args.a c.args.b c.requires.tree c.requires.edge (sym c.read-2.ensures ∙ c.if-read-a.true) (c.is_crossed-then-read-a.ensures is)

pub returns : goal.returns
returns g c = λ is. round_off c.args.sides.now c.args.tree.now c.args.a c.args.b c.requires.tree c.requires.edge (λ e. c.if-read-b.false (c.read.ensures ∙ e)) (λ e. c.if-read-a.false (c.read-2.ensures ∙ e))

pub is_crossed-requires-clause-inside : goal.is_crossed-requires-clause-inside
is_crossed-requires-clause-inside g c = floor_inside c.args.sides.now c.args.a c.requires.edge.1.from

pub is_crossed-requires-clause-tree : goal.is_crossed-requires-clause-tree
is_crossed-requires-clause-tree g c = c.requires.tree

pub is_crossed-requires-then-read-a-clause-inside : goal.is_crossed-requires-then-read-a-clause-inside
is_crossed-requires-then-read-a-clause-inside g c = floor_inside c.args.sides.now c.args.b c.requires.edge.1.to

pub is_crossed-requires-then-read-a-clause-tree : goal.is_crossed-requires-then-read-a-clause-tree
is_crossed-requires-then-read-a-clause-tree g c = c.requires.tree
