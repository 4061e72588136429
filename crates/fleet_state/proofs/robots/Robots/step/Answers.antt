use Rattle.std.proofs.Common.{◌≡◌, ◌∙◌, ◌<◌, None, arith, ap, length, subst, sym}
use Rattle.std.specs.Prelude.{slice_set, slice_index_or}
use Rattle.std.proofs.lemmas.List.{length-set, get_or_read}
use Rattle.fleet_history.specs.Waited.{one_more}
use Rattle.fleet_state.specs.Landed.{landing}
use Rattle.fleet_state.specs.Robots.{Robots, queue_at, stepped}
use Rattle.fleet_state.proofs.Fronts.{stepped-past}
use Rattle.fleet_state.proofs.robots.Robots.step.Goals as goal

pub one_more-requires : goal.one_more-requires
one_more-requires g c = record {
  small = λ w e. c.requires.small w
      (sym (get_or_read c.self.inside.waits.items c.args.robot c.index.result.now (omega (arith, c.requires.known, ap (λ (x : Robots). length x.queues) c.self.view_is, c.self.invariant.1)) c.index.ensures None
      ∙ ap (λ (x : Robots). slice_index_or x.waits c.args.robot None) c.self.view_is) ∙ e);
}

pub invariant_of-self : goal.invariant_of-self
invariant_of-self g c = (
  length-set c.self.inside.cells.items c.args.robot c.args.cell ∙ c.self.invariant.0,
  length-set c.self.inside.waits.items c.args.robot c.one_more.result ∙ c.self.invariant.1,
  c.self.invariant.2,
)

pub returns-clause-stepped : goal.returns-clause-stepped
returns-clause-stepped g c =
    let cells = c.self.inside.cells.items in
    let queues = c.self.inside.queues.items in
    let waits = c.self.inside.waits.items in
    let r = c.args.robot in
    let x : Robots = record { cells = cells; queues = queues; waits = waits } in
    let l : r < length queues = omega (arith, c.requires.known, ap (λ (x : Robots). length x.queues) c.self.view_is) in
    let read : c.index.result.now ≡ slice_index_or waits r None = get_or_read waits r c.index.result.now (omega (arith, l, c.self.invariant.1)) c.index.ensures None in
    let wait : c.one_more.result ≡ one_more (slice_index_or waits r None) = c.one_more.ensures ∙ ap one_more read in
    let past : landing c.args.cell (queue_at queues r).items ≡ None = subst (λ (y : Robots). landing c.args.cell (queue_at y.queues r).items ≡ None) (sym c.self.view_is) (c.may_land.ensures c.if-may_land.false) in
    rw wait
    (subst (λ (y : Robots). ◌≡◌ {A = Robots} (record { cells = slice_set cells r c.args.cell; queues = queues; waits = slice_set waits r (one_more (slice_index_or waits r None)) }) (stepped y r c.args.cell)) c.self.view_is
    (stepped-past x r c.args.cell l past))

pub may_land-requires : goal.may_land-requires
may_land-requires g c = c.requires.known

pub step_on_front-requires-clause-known : goal.step_on_front-requires-clause-known
step_on_front-requires-clause-known g c = c.requires.known

pub step_on_front-requires-clause-small : goal.step_on_front-requires-clause-small
step_on_front-requires-clause-small g c = c.requires.small

pub returns-then-may_land-clause-landing : goal.returns-then-may_land-clause-landing
returns-then-may_land-clause-landing g c = c.step_on_front.ensures.landing

pub returns-then-may_land-clause-stepped : goal.returns-then-may_land-clause-stepped
returns-then-may_land-clause-stepped g c = c.step_on_front.ensures.stepped

pub index_mut-requires : goal.index_mut-requires
index_mut-requires g c = omega (arith, c.requires.known, ap (λ (x : Robots). length x.queues) c.self.view_is, c.self.invariant.0, c.self.inside.cells.ok.0)

pub index-requires : goal.index-requires
index-requires g c = omega (arith, c.requires.known, ap (λ (x : Robots). length x.queues) c.self.view_is, c.self.invariant.1, c.self.inside.waits.ok.0)

pub index_mut-requires-2 : goal.index_mut-requires-2
index_mut-requires-2 g c = omega (arith, c.requires.known, ap (λ (x : Robots). length x.queues) c.self.view_is, c.self.invariant.1, c.self.inside.waits.ok.0)

pub returns-clause-landing : goal.returns-clause-landing
returns-clause-landing g c = sym (c.may_land.ensures c.if-may_land.false)
