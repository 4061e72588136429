use Rattle.std.proofs.Common.{◌+◌, None, sym, refl, ◌∙◌, arith}
use Rattle.std.proofs.lemmas.List.{length-set}
use Rattle.fleet_turns.proofs.Puts.{turned_next, turned_all}
use Rattle.fleet_turns.proofs.tables.put.Goals as goal

pub loop-at-preserved : goal.loop-at-preserved
loop-at-preserved c = record {
  many = length-set c.loop-at.goals _ _ ∙ c.loop-at.invariant.many;
  rest = c.loop-at.invariant.rest
      ∙ turned_next c.args.turns.now c.loop-at.goals c.loop-at.at (c.loop-at.at + 1) (record { robot = 0; goal = None }) (omega (arith, c.loop-at-test.true, c.loop-at.auto.at-end)) refl;
}

pub returns : goal.returns
returns c = sym (c.loop-at.invariant.rest ∙ turned_all c.args.turns.now c.loop-at.goals c.loop-at.at (omega (arith, c.loop-at-test.false, c.loop-at.auto.at-end)))
