-- The plan of one robot, with those that it pushes.
use Rattle.std.proofs.Common.{ℕ, Option, Some, subst}
use Rattle.fleet_shield.specs.Wishes.{wishes}
use Rattle.fleet_shield.proofs.Choosing.{IsGoing, going_start, going_on, choose_spare}
use Rattle.fleet_shield.proofs.Leading.{Leads, leads_start}
use Rattle.fleet_shield.proofs.Failing.{choose_leads}
use Rattle.fleet_shield.proofs.plan.plan.Goals as goal

pub choose-next-requires-clause-known : goal.choose-next-requires-clause-known
choose-next-requires-clause-known c = (c.loop-next.invariant.going.board.idle c.in-Some.chooser c.in-Some.is).0

pub loop-next-smaller : goal.loop-next-smaller
loop-next-smaller c =
    let w = wishes c.args.scene.now.from.now c.args.scene.now.preferences in
    let l = c.loop-next in
    let going : IsGoing w c.args.to.now c.args.tried.now c.args.robot l.to l.tried (Some c.in-Some.chooser) =
    subst (λ (o : Option ℕ). IsGoing w c.args.to.now c.args.tried.now c.args.robot l.to l.tried o) c.in-Some.is l.invariant.going in
    choose_spare w c.args.scene.now.standing.now c.requires.seated l.to l.tried c.in-Some.chooser going.board
    c.choose-next.new.to c.choose-next.new.tried c.choose-next.result c.choose-next.ensures.chooses

pub loop-next-preserved : goal.loop-next-preserved
loop-next-preserved c =
    let w = wishes c.args.scene.now.from.now c.args.scene.now.preferences in
    let l = c.loop-next in
    let going : IsGoing w c.args.to.now c.args.tried.now c.args.robot l.to l.tried (Some c.in-Some.chooser) =
    subst (λ (o : Option ℕ). IsGoing w c.args.to.now c.args.tried.now c.args.robot l.to l.tried o) c.in-Some.is l.invariant.going in
    record {
      holding = c.choose-next.ensures.holding;
      going = going_on w c.args.scene.now.standing.now c.requires.seated c.args.to.now c.args.tried.now c.args.robot c.requires.board
          l.to l.tried c.in-Some.chooser going c.choose-next.new.to c.choose-next.new.tried c.choose-next.result c.choose-next.ensures.chooses;
      leads = λ blank other is. choose_leads w c.args.scene.now.standing.now c.requires.seated c.args.robot other is l.to l.tried c.in-Some.chooser going.board
          (subst (λ (o : Option ℕ). Leads w c.args.robot l.to l.tried o) c.in-Some.is (l.invariant.leads blank other is))
          c.choose-next.new.to c.choose-next.new.tried c.choose-next.result c.choose-next.ensures.chooses;
    }

pub loop-next-init : goal.loop-next-init
loop-next-init c =
    let w = wishes c.args.scene.now.from.now c.args.scene.now.preferences in
    record {
      holding = c.requires.holding;
      going = going_start w c.args.to.now c.args.tried.now c.args.robot c.requires.board c.requires.known c.requires.idle;
      leads = λ blank other is. leads_start w c.args.robot c.args.to.now c.args.tried.now c.requires.known blank;
    }
