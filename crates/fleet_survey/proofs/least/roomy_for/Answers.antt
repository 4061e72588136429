use Rattle.std.proofs.Common.{◌≡◌, ◌<◌, ℕ, length, refl, subst, arith}
use Rattle.std.specs.Prelude.{slice_index}
use Rattle.fleet_survey.proofs.Sets.{AreWithin, within_none, within_more, within_all}
use Rattle.fleet_survey.proofs.least.roomy_for.Goals as goal

pub loop-place-init : goal.loop-place-init
loop-place-init c = within_none c.args.grid.now c.args.cells.now

pub loop-place-preserved : goal.loop-place-preserved
loop-place-preserved c =
    let cells = c.args.cells.now in
    let place = c.loop-place.place in
    let inside : place < length cells = c.loop-place-test.true in
    within_more c.args.grid.now c.args.most.now cells place c.loop-place.least (slice_index c.args.most.now (slice_index cells place)) c.lesser-least.result c.requires.numbers c.requires.floor inside c.loop-place.invariant refl c.lesser-least.ensures.first c.lesser-least.ensures.second c.lesser-least.ensures.either

pub returns : goal.returns
returns c =
    let end : c.loop-place.place ≡ length c.args.cells.now = omega (arith, c.loop-place-test.false, c.loop-place.auto.place-end) in
    within_all c.args.grid.now c.args.cells.now c.loop-place.least (subst (λ (i : ℕ). AreWithin c.args.grid.now c.args.cells.now i c.loop-place.least) end c.loop-place.invariant)
