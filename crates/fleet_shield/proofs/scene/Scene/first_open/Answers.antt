-- The first preference that is open.
use Rattle.std.proofs.Common.{ℕ, subst, arith}
use Rattle.fleet_shield.specs.Wishes.{wishes, preference}
use Rattle.fleet_shield.specs.inside.Board.{IsShut}
use Rattle.fleet_shield.proofs.Listed.{up_more}
use Rattle.fleet_shield.proofs.scene.Scene.first_open.Goals as goal

pub loop-place-preserved : goal.loop-place-preserved
loop-place-preserved c =
    let w = wishes c.args.self.now.from.now c.args.self.now.preferences in
    up_more (λ j. IsShut w c.args.to.now c.args.robot (preference w c.args.robot j)) c.args.start c.loop-place.place c.loop-place.invariant
    (subst (λ (x : ℕ). IsShut w c.args.to.now c.args.robot x) c.get.ensures c.if-is_open.ensures)

pub returns-clause-shut : goal.returns-clause-shut
returns-clause-shut c = λ j low less. c.loop-place.invariant j low
    (omega (arith, less, c.from.ensures, c.loop-place-test.false, c.loop-place.auto.place-end, c.from-place-end.ensures))
