use Rattle.std.proofs.Common.{arith, ◌≡◌, ◌++◌, ◌∙◌, ap, sym, length}
use Rattle.std.specs.Prelude.{slice_get}
use Rattle.fleet_history.specs.Legal.{due_at, robot_if}
use Rattle.fleet_state.specs.inside.Due.{dues, leavers, is_leaver}
use Rattle.fleet_state.specs.Robots.{queue_at}
use Rattle.fleet_state.specs.State.{State}
use Rattle.fleet_state.proofs.Ranges.{flat_map-range_more}
use Rattle.fleet_state.proofs.Dues.{dues-are, leavers-are}
use Rattle.fleet_state.proofs.state.FleetState.landings.Goals as goal

pub land-requires-clause-known : goal.land-requires-clause-known
land-requires-clause-known g c =
    omega (arith, c.loop-r-test.true, c.loop-r.auto.r-end, c.len-r-end.ensures, ap (λ (s : State g.row.A.Denot). length s.queues) c.self.view_is)

pub loop-r-preserved : goal.loop-r-preserved
loop-r-preserved g c =
    let s = c.args.self.now in
    let to = c.args.to.now in
    let r = c.loop-r.r in
    let p = is_leaver s.counts s.queues to in
    record {
      arrives = c.in_ok-land.ensures.arrives ∙ ap (λ t. t ++ due_at to r (slice_get (queue_at s.queues r).items 0)) c.loop-r.invariant.arrives
          ∙ sym (flat_map-range_more (λ r. due_at to r (slice_get (queue_at s.queues r).items 0)) r);
      leaves = c.in_ok-land.ensures.leaves ∙ ap (λ t. t ++ robot_if (p r) r) c.loop-r.invariant.leaves ∙ sym (flat_map-range_more (λ r. robot_if (p r) r) r);
    }

pub returns-clause-arrived : goal.returns-clause-arrived
returns-clause-arrived g c m h k =
    let s = c.args.self.now in
    let last : c.loop-r.r ≡ length s.queues = omega (arith, c.loop-r-test.false, c.loop-r.auto.r-end, c.len-r-end.ensures, ap (λ (s : State g.row.A.Denot). length s.queues) c.self.view_is) in
    c.loop-r.invariant.arrives ∙ ap (dues s.queues c.args.to.now) last ∙ dues-are k c.args.to.now

pub returns-clause-leaving : goal.returns-clause-leaving
returns-clause-leaving g c arrived others m h k shows =
    let s = c.args.self.now in
    let last : c.loop-r.r ≡ length s.queues = omega (arith, c.loop-r-test.false, c.loop-r.auto.r-end, c.len-r-end.ensures, ap (λ (s : State g.row.A.Denot). length s.queues) c.self.view_is) in
    c.loop-r.invariant.leaves ∙ ap (leavers s.counts s.queues c.args.to.now) last ∙ leavers-are k c.args.to.now arrived others shows
