use Rattle.std.proofs.Common.{map, slice_index_or}
use Rattle.fleet_hooks.specs.Law.{IsStamp}
use Rattle.fleet_history.specs.declared.history.Bye.{Bye}
use Rattle.fleet_history.specs.Legal.{no_law}
use Rattle.fleet_trace.proofs.AllItems.{all_on, all_fails, all_done}
use Rattle.fleet_trace.proofs.judging.stamps.are_last_stamps.Goals as goal

pub loop-bye-preserved : goal.loop-bye-preserved
loop-bye-preserved g c =
    all_on (λ (b : Bye). IsStamp (slice_index_or (map (λ x. x.farewell_law) c.args.robots.now) b.robot no_law) b.stamp) c.args.farewells.now c.loop-bye.bye-index _ c.is_last_stamp.result
    c.is_last_stamp.ensures c.loop-bye-test.true c.if-not-is_last_stamp.false c.loop-bye.invariant

pub returns-then-not-is_last_stamp : goal.returns-then-not-is_last_stamp
returns-then-not-is_last_stamp g c =
    all_fails (λ (b : Bye). IsStamp (slice_index_or (map (λ x. x.farewell_law) c.args.robots.now) b.robot no_law) b.stamp) c.args.farewells.now c.loop-bye.bye-index _ c.is_last_stamp.result
    c.is_last_stamp.ensures c.loop-bye-test.true c.if-not-is_last_stamp.true

pub returns : goal.returns
returns g c =
    all_done (λ (b : Bye). IsStamp (slice_index_or (map (λ x. x.farewell_law) c.args.robots.now) b.robot no_law) b.stamp) c.args.farewells.now c.loop-bye.bye-index c.loop-bye-test.false c.loop-bye.invariant
