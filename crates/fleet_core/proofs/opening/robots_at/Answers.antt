use Rattle.std.proofs.Common.{◌≡◌, ◌∙◌, ◌+◌, ℕ, length, map, ap, arith}
use Rattle.std.specs.List.{range_with_len}
use Rattle.std.proofs.lemmas.Result.{IfOk-from_err}
use Rattle.fleet_core.specs.Core.{robot_at}
use Rattle.fleet_core.proofs.OpeningFacts.{robots_more}
use Rattle.fleet_core.proofs.opening.robots_at.Goals as goal

pub bounds-starts-r : goal.bounds-starts-r
bounds-starts-r g c = c.loop-r-test.true

pub bounds-arrivals-r : goal.bounds-arrivals-r
bounds-arrivals-r g c = omega (arith, c.requires.arrivals, c.loop-r-test.true)

pub bounds-farewells-r : goal.bounds-farewells-r
bounds-farewells-r g c = omega (arith, c.requires.farewells, c.loop-r-test.true)

pub push_reserved-requires : goal.push_reserved-requires
push_reserved-requires g c = omega (arith, c.loop-r.invariant.len, c.loop-r.invariant.room, c.loop-r-test.true)

pub returns-in_err-robots : goal.returns-in_err-robots
returns-in_err-robots g c = IfOk-from_err c.from_residual.result _ c.from_residual.ensures.0

pub loop-r-init : goal.loop-r-init
loop-r-init g c = record { robots = c.in_ok-robots.ensures.items; len = c.in_ok-robots.ensures.len; room = c.in_ok-robots.ensures.capacity }

pub loop-r-preserved : goal.loop-r-preserved
loop-r-preserved g c = record {
  robots = robots_more c.args.starts.now c.args.arrivals.now c.args.farewells.now c.loop-r.r c.new.result c.loop-r.robots.items c.push_reserved.new.self.items
      c.loop-r.invariant.robots c.new.ensures c.push_reserved.ensures.items;
  len = c.push_reserved.ensures.len ∙ ap (λ (n : ℕ). n + 1) c.loop-r.invariant.len;
  room = omega (arith, c.push_reserved.ensures.capacity, c.loop-r.invariant.room);
}

pub returns : goal.returns
returns g c =
    let done : c.loop-r.r ≡ length c.args.starts.now = omega (arith, c.loop-r.auto.r-end, c.loop-r-test.false) in
    c.loop-r.invariant.robots ∙ ap (λ (n : ℕ). map (robot_at {A = g.row.A.Denot} c.args.starts.now c.args.arrivals.now c.args.farewells.now) (range_with_len 0 n)) done
