use Rattle.std.proofs.Common.{ℕ, ◌+◌, List, [], take, refl, sym, subst, arith}
use Rattle.std.proofs.lemmas.List.{take_all}
use Rattle.fleet_field.specs.inside.Work.{AreMadeOf}
use Rattle.fleet_field.proofs.Made.{made_more}
use Rattle.fleet_field.proofs.work.in_turn.Goals as goal

pub loop-goal-init : goal.loop-goal-init
loop-goal-init g c = record {
  made = subst (λ (xs : List g.row.T.Denot). AreMadeOf (λ at one. g.F.Fn.post c.args.work (at, tt) one) [] xs) (sym c.in_ok-made.ensures.items) tt;
  count = c.in_ok-made.ensures.len;
  room = c.in_ok-made.ensures.capacity;
}

pub push_reserved-requires : goal.push_reserved-requires
push_reserved-requires g c = omega (arith, c.loop-goal-test.true, c.loop-goal.invariant.count, c.loop-goal.invariant.room)

pub loop-goal-preserved : goal.loop-goal-preserved
loop-goal-preserved g c =
    record {
      made = subst (λ (xs : List g.row.T.Denot). AreMadeOf (λ at one. g.F.Fn.post c.args.work (at, tt) one) (take (c.loop-goal.goal-index + 1) c.args.goals.now) xs) (sym c.push_reserved.ensures.items)
          (made_more (λ at one. g.F.Fn.post c.args.work (at, tt) one) c.args.goals.now c.loop-goal.made.items c.loop-goal.goal-index c.in_ok-one.one (omega (arith, c.loop-goal-test.true)) c.loop-goal.invariant.made (_, refl, c.in_ok-one.ensures));
      count = omega (arith, c.push_reserved.ensures.len, c.loop-goal.invariant.count);
      room = omega (arith, c.push_reserved.ensures.capacity, c.loop-goal.invariant.room);
    }

pub returns : goal.returns
returns g c =
    subst (λ (xs : List ℕ). AreMadeOf (λ at one. g.F.Fn.post c.args.work (at, tt) one) xs c.loop-goal.made.items) (take_all c.loop-goal.goal-index c.args.goals.now c.loop-goal-test.false) c.loop-goal.invariant.made
