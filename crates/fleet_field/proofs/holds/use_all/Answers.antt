use Rattle.std.proofs.Common.{◌+◌, slice_index, sym, subst, ◌∙◌, arith}
use Rattle.fleet_field.proofs.Uses.{AreShownTo, used_there, used_more, shown_more, uses_few}
use Rattle.fleet_field.proofs.holds.use_all.Goals as goal

pub use_goal-requires-clause-there : goal.use_goal-requires-clause-there
use_goal-requires-clause-there g c =
    let i = c.loop-goal.goal-index in
    used_there _ c.args.held.now.slots c.loop-goal.held.slots (slice_index c.args.goals.now i) c.loop-goal.invariant.used (c.requires.there i (omega (arith, c.loop-goal-test.true)))

pub use_goal-requires-clause-fewer : goal.use_goal-requires-clause-fewer
use_goal-requires-clause-fewer g c =
    uses_few c.args.goals.now c.loop-goal.goal-index c.args.held.now.slots c.loop-goal.held.slots c.loop-goal.invariant.used (omega (arith, c.loop-goal-test.true)) c.requires.fewer

pub loop-goal-preserved : goal.loop-goal-preserved
loop-goal-preserved g c =
    let n = c.loop-goal.goal-index in
    record {
      used = used_more c.args.goals.now n c.args.held.now.slots c.loop-goal.held.slots c.use_goal.new.held.slots (omega (arith, c.loop-goal-test.true)) c.loop-goal.invariant.used c.use_goal.ensures.used;
      keys = subst (AreShownTo c.args.goals.now (n + 1) c.use_goal.new.held.slots) (sym c.push_reserved.ensures.items)
          (shown_more c.args.goals.now n c.use_goal.result c.loop-goal.held.slots c.use_goal.new.held.slots c.loop-goal.keys.items c.loop-goal.invariant.keys c.use_goal.ensures.used c.use_goal.ensures.shows);
      room = c.push_reserved.ensures.capacity ∙ c.loop-goal.invariant.room;
    }
