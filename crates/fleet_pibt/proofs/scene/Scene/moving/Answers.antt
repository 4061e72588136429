use Rattle.std.proofs.Common.{map}
use Rattle.fleet_pibt.specs.inside.Setting.{Setting, setting}
use Rattle.fleet_pibt.proofs.Beside.{mapped-at, spot-covers, stay-covers, candidate-from}
use Rattle.fleet_pibt.proofs.scene.Scene.moving.Goals as goal

pub returns-then-cell-around-clause-covers : goal.returns-then-cell-around-clause-covers
returns-then-cell-around-clause-covers g c =
    let seen = c.requires.whole.gathered.each c.args.robot c.args.around c.requires.seen in
    stay-covers _ _ _ c.args.dir _ c.beside-cell.result seen c.beside-cell.ensures _ c.if-cell-around.true c.staying.ensures.own

pub returns-clause-candidate : goal.returns-clause-candidate
returns-clause-candidate g c =
    let seen = c.requires.whole.gathered.each c.args.robot c.args.around c.requires.seen in
    let self = c.args.self.now in
    let s : Setting = setting self.grid.now self.from.now (g.G.Guide.goal_of self.goals.now) (g.G.Guide.distance self.goals.now self.grid.now) (map (λ h. h.law) self.ties.now) self.door in
    candidate-from s c.args.robot c.args.dir _ c.beside-cell.result c.cost_beside.result c.rank.result c.rank_beside.result c.number.result c.has.result _ seen c.beside-cell.ensures c.if-cell-around.false
    (c.requires.whole.rated c.args.robot c.args.around c.requires.seen c.args.dir)
    c.has.ensures c.cost_beside.ensures
    c.rank_beside.ensures c.number.ensures c.rank.ensures.law
    (λ l e. mapped-at (λ h. h.law) c.args.self.now.ties.now c.args.robot l c.index-self-robot.result e)

pub returns-clause-covers : goal.returns-clause-covers
returns-clause-covers g c =
    let seen = c.requires.whole.gathered.each c.args.robot c.args.around c.requires.seen in
    spot-covers _ _ _ c.args.dir _ c.beside-cell.result seen c.beside-cell.ensures

pub staying-requires-clause-whole : goal.staying-requires-clause-whole
staying-requires-clause-whole g c = c.requires.whole

pub staying-requires-clause-known : goal.staying-requires-clause-known
staying-requires-clause-known g c = c.requires.known

pub staying-requires-clause-seen : goal.staying-requires-clause-seen
staying-requires-clause-seen g c = c.requires.seen

pub returns-then-cell-around-clause-candidate : goal.returns-then-cell-around-clause-candidate
returns-then-cell-around-clause-candidate g c = c.staying.ensures.candidate
