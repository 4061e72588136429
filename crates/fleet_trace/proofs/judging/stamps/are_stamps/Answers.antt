use Rattle.std.proofs.Common.{map, slice_index_or}
use Rattle.fleet_hooks.specs.Law.{IsStamp}
use Rattle.fleet_history.specs.declared.history.Arrival.{Arrival}
use Rattle.fleet_history.specs.Legal.{no_law}
use Rattle.fleet_trace.proofs.AllItems.{all_on, all_fails, all_done}
use Rattle.fleet_trace.proofs.judging.stamps.are_stamps.Goals as goal

pub loop-arrival-preserved : goal.loop-arrival-preserved
loop-arrival-preserved g c =
    all_on (λ (a : Arrival). IsStamp (slice_index_or (map (λ x. x.arrival_law) c.args.robots.now) a.robot no_law) a.stamp) c.args.arrived.now c.loop-arrival.arrival-index _ c.is_arrival_stamp.result
    c.is_arrival_stamp.ensures c.loop-arrival-test.true c.if-not-is_arrival_stamp.false c.loop-arrival.invariant

pub returns-then-not-is_arrival_stamp : goal.returns-then-not-is_arrival_stamp
returns-then-not-is_arrival_stamp g c =
    all_fails (λ (a : Arrival). IsStamp (slice_index_or (map (λ x. x.arrival_law) c.args.robots.now) a.robot no_law) a.stamp) c.args.arrived.now c.loop-arrival.arrival-index _ c.is_arrival_stamp.result
    c.is_arrival_stamp.ensures c.loop-arrival-test.true c.if-not-is_arrival_stamp.true

pub returns : goal.returns
returns g c =
    all_done (λ (a : Arrival). IsStamp (slice_index_or (map (λ x. x.arrival_law) c.args.robots.now) a.robot no_law) a.stamp) c.args.arrived.now c.loop-arrival.arrival-index c.loop-arrival-test.false c.loop-arrival.invariant
