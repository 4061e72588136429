use Rattle.std.proofs.Common.{ℕ, ◌≤◌, below_more, arith}
use Rattle.fleet_bridge.specs.inside.Places.{HasNoneAt}
use Rattle.fleet_bridge.proofs.Squares.{neither}
use Rattle.fleet_bridge.proofs.places.have_bare.Goals as goal

pub loop-at-preserved : goal.loop-at-preserved
loop-at-preserved g c = λ no v ge lt.
    let p = c.args.places.now in
    let both = neither c.loop-at.any c.has_bare-any.result no in
    below_more (λ (u : ℕ). c.args.from ≤ u → HasNoneAt p.grid.now p.stride u) c.loop-at.at (λ u less from. c.loop-at.invariant both.0 u from less) (λ from. c.has_bare-any.ensures.none both.1) v lt ge

pub returns : goal.returns
returns g c = λ no v ge lt. c.loop-at.invariant no v ge (omega (arith, c.loop-at-test.false, lt))

pub loop-at-init : goal.loop-at-init
loop-at-init g c = λ no v ge lt. absurd (omega (arith, ge, lt))

pub has_bare-any-requires-clause-laid_out : goal.has_bare-any-requires-clause-laid_out
has_bare-any-requires-clause-laid_out g c = c.requires.laid_out

pub has_bare-any-requires-clause-inside : goal.has_bare-any-requires-clause-inside
has_bare-any-requires-clause-inside g c = c.requires.inside c.loop-at.at c.loop-at.auto.at c.loop-at-test.true
