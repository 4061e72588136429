use Rattle.std.proofs.Common.{arith, eqb, false, None, ◌≡◌, ap, subst, slice_index, length}
use Rattle.std.proofs.lemmas.List.{get_or_read}
use Rattle.fleet_state.specs.Robots.{Robots, queue_at}
use Rattle.fleet_state.specs.Landed.{landing}
use Rattle.fleet_state.proofs.Fronts.{ruled-out}
use Rattle.fleet_state.proofs.robots.Robots.may_land.Goals as goal

pub returns : goal.returns
returns g c e =
    let queues = c.self.inside.queues.items in
    let fronts = c.self.inside.fronts.items in
    let many : length queues ≡ length c.args.self.now.queues = ap (λ (x : Robots). length x.queues) c.self.view_is in
    let here : c.index.result.now ≡ slice_index fronts c.args.robot = get_or_read fronts c.args.robot c.index.result.now (omega (arith, c.requires, many, c.self.invariant.2.count)) c.index.ensures 0 in
    subst (λ (x : Robots). landing c.args.cell (queue_at x.queues c.args.robot).items ≡ None) c.self.view_is
    (ruled-out queues fronts c.args.robot c.args.cell c.self.invariant.2 (subst (λ n. eqb n c.args.cell ≡ false) here e))
