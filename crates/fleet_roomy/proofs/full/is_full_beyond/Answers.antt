-- What was found is all that lies beyond the edge.
use Rattle.std.proofs.Common.{◌≡◌, ◌∙◌, ◌+◌, ◌<◌, ◌≤◌, ℕ, List, length, refl, sym, ap, subst, arith}
use Rattle.std.specs.Prelude.{slice_index}
use Rattle.fleet_grid.specs.Floor.{IsNeighbour}
use Rattle.fleet_grid.specs.Walk.{Besides}
use Rattle.fleet_roomy.proofs.Fullness.{closed-more, few-found, full-beyond, has-more, start-found}
use Rattle.fleet_roomy.proofs.full.is_full_beyond.Goals as goal

pub loop-at-init : goal.loop-at-init
loop-at-init g c =
    let (found, start) =
    start-found c.args.grid.now c.args.cells.now c.args.from c.args.to (length c.args.cells.now) c.in-Some.first c.in_ok-found.found.seen.items c.in_ok-found.found.robots.items refl c.in-Some.ensures.0 c.in-Some.ensures.1 c.if-from-to.false
    c.in_ok-found.ensures.seen c.in_ok-found.ensures.robots in
    record { found = found; start = start; closed = λ k below. absurd (omega (arith, below)); within = λ k below. absurd (omega (arith, below)) }

pub returns-then-at-len : goal.returns-then-at-len
returns-then-at-len g c = (
  λ _.
      full-beyond c.args.grid.now c.args.cells.now c.args.from c.args.to c.loop-at.found.seen.items c.loop-at.found.robots.items c.loop-at.invariant.found c.loop-at.invariant.start c.requires
      (λ k within. c.loop-at.invariant.closed k (omega (arith, within, c.if-at-len.true))),
  λ _. refl,
)

pub loop-at-preserved : goal.loop-at-preserved
loop-at-preserved g c = record {
  found = c.in_ok-spread_all.ensures.found;
  start = has-more c.args.cells.now c.loop-at.found.robots.items c.spread_all.new.found.robots.items c.args.to c.in_ok-spread_all.ensures.more c.loop-at.invariant.start;
  closed = closed-more c.args.grid.now c.args.cells.now c.args.from c.args.to c.loop-at.found.robots.items c.spread_all.new.found.robots.items c.loop-at.at (omega (arith, c.if-at-len.false, c.len.ensures)) c.in_ok-spread_all.ensures.more c.loop-at.invariant.closed
      c.loop-at.invariant.within
      (λ y step. c.in_ok-spread_all.ensures.on c.if-not-branch.false y (subst (λ (x : ℕ). Besides (IsNeighbour c.args.grid.now) c.args.from c.args.to x y) (sym (c.cell_of-cell.ensures ∙ ap (λ (r : ℕ). slice_index c.args.cells.now r) c.robot_at.ensures)) step));
  within = λ k below. omega (arith, below, c.if-at-len.false, c.len.ensures, c.in_ok-spread_all.ensures.more.count);
}

pub returns : goal.returns
returns g c = (
  λ _.
      full-beyond c.args.grid.now c.args.cells.now c.args.from c.args.to c.loop-at.found.seen.items c.loop-at.found.robots.items c.loop-at.invariant.found c.loop-at.invariant.start c.requires
      (λ k within. c.loop-at.invariant.closed k (omega (arith, within, c.loop-at-test.false, c.loop-at.auto.at-end, few-found c.args.grid.now c.args.cells.now c.args.from c.args.to c.loop-at.found.seen.items c.loop-at.found.robots.items c.loop-at.invariant.found))),
  λ _. refl,
)
