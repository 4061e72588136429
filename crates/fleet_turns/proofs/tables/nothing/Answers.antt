use Rattle.std.proofs.Common.{◌+◌, ◌++◌, ◌∷◌, [], ℕ, List, Option, None, replicate, ap, ◌∙◌, arith}
use Rattle.std.proofs.lemmas.List.{replicate_more}
use Rattle.fleet_turns.proofs.tables.nothing.Goals as goal

pub push_reserved-requires : goal.push_reserved-requires
push_reserved-requires g c = omega (arith, c.loop-robot.invariant.len, c.loop-robot.invariant.room, c.loop-robot-test.true)

pub loop-robot-preserved : goal.loop-robot-preserved
loop-robot-preserved g c = record {
  list = c.push_reserved.ensures.items ∙ (ap (λ (fields : List (Option _)). fields ++ None ∷ []) c.loop-robot.invariant.list ∙ replicate_more c.loop-robot._robot None);
  len = c.push_reserved.ensures.len ∙ ap (λ (n : ℕ). n + 1) c.loop-robot.invariant.len;
  room = omega (arith, c.push_reserved.ensures.capacity, c.loop-robot.invariant.room);
}

pub returns-clause-items : goal.returns-clause-items
returns-clause-items g c =
    c.loop-robot.invariant.list ∙ ap (λ (n : ℕ). replicate n None) (omega (arith, c.loop-robot.auto._robot-end, c.loop-robot-test.false))

pub returns-clause-len : goal.returns-clause-len
returns-clause-len g c = omega (arith, c.loop-robot.invariant.len, c.loop-robot.auto._robot-end, c.loop-robot-test.false)
