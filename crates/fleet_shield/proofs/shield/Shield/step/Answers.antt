-- A step of all robots.
use Rattle.fleet_shield.specs.Wishes.{wishes}
use Rattle.fleet_shield.proofs.Finished.{finished_best, finished_first}
use Rattle.fleet_shield.proofs.shield.Shield.step.Goals as goal

pub returns-clause-best_left : goal.returns-clause-best_left
returns-clause-best_left g c =
    finished_best (wishes c.args.from.now c.args.preferences.now) c.plan_all.new.to c.plan_all.new.tried c.plan_all.ensures.board c.plan_all.ensures.decided

pub returns-clause-first : goal.returns-clause-first
returns-clause-first g c = λ some. finished_first c.args.grid.now (wishes c.args.from.now c.args.preferences.now) c.plan_all.new.to _ (c.plan_all.ensures.first some)
