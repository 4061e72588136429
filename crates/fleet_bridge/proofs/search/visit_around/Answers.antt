use Rattle.std.proofs.Common.{◌∙◌, arith}
use Rattle.fleet_bridge.proofs.Fronts.{all_around, later_on}
use Rattle.fleet_bridge.proofs.search.visit_around.Goals as goal

pub returns-clause-marked : goal.returns-clause-marked
returns-clause-marked g c =
    all_around c.args.grid.now c.args.from c.args.to c.args.cell c.visit_beside.new.seen.items c.visit_beside-2.new.seen.items c.visit_beside-3.new.seen.items c.visit_beside-4.new.seen.items
    c.visit_beside-2.ensures.later.keeps c.visit_beside-3.ensures.later.keeps c.visit_beside-4.ensures.later.keeps
    c.visit_beside.ensures.marked c.visit_beside-2.ensures.marked c.visit_beside-3.ensures.marked c.visit_beside-4.ensures.marked

pub returns-clause-later : goal.returns-clause-later
returns-clause-later g c =
    later_on _ _ _ _ _ _ c.visit_beside.ensures.later (later_on _ _ _ _ _ _ c.visit_beside-2.ensures.later (later_on _ _ _ _ _ _ c.visit_beside-3.ensures.later c.visit_beside-4.ensures.later))

pub visit_beside-requires-clause-reached : goal.visit_beside-requires-clause-reached
visit_beside-requires-clause-reached g c = c.requires.reached

pub visit_beside-requires-clause-front : goal.visit_beside-requires-clause-front
visit_beside-requires-clause-front g c = c.requires.front

pub visit_beside-requires-2-clause-reached : goal.visit_beside-requires-2-clause-reached
visit_beside-requires-2-clause-reached g c = c.visit_beside.ensures.later.keeps c.args.cell c.requires.reached

pub visit_beside-requires-2-clause-front : goal.visit_beside-requires-2-clause-front
visit_beside-requires-2-clause-front g c = c.visit_beside.ensures.front

pub visit_beside-requires-3-clause-reached : goal.visit_beside-requires-3-clause-reached
visit_beside-requires-3-clause-reached g c = c.visit_beside-2.ensures.later.keeps c.args.cell (c.visit_beside.ensures.later.keeps c.args.cell c.requires.reached)

pub visit_beside-requires-3-clause-front : goal.visit_beside-requires-3-clause-front
visit_beside-requires-3-clause-front g c = c.visit_beside-2.ensures.front

pub visit_beside-requires-4-clause-reached : goal.visit_beside-requires-4-clause-reached
visit_beside-requires-4-clause-reached g c = c.visit_beside-3.ensures.later.keeps c.args.cell (c.visit_beside-2.ensures.later.keeps c.args.cell (c.visit_beside.ensures.later.keeps c.args.cell c.requires.reached))

pub visit_beside-requires-4-clause-front : goal.visit_beside-requires-4-clause-front
visit_beside-requires-4-clause-front g c = c.visit_beside-3.ensures.front

pub returns-clause-front : goal.returns-clause-front
returns-clause-front g c = c.visit_beside-4.ensures.front

pub visit_beside-requires-clause-room : goal.visit_beside-requires-clause-room
visit_beside-requires-clause-room g c = c.requires.room

pub visit_beside-requires-2-clause-room : goal.visit_beside-requires-2-clause-room
visit_beside-requires-2-clause-room g c = omega (arith, c.visit_beside.ensures.room, c.requires.room)

pub visit_beside-requires-3-clause-room : goal.visit_beside-requires-3-clause-room
visit_beside-requires-3-clause-room g c = omega (arith, c.visit_beside-2.ensures.room ∙ c.visit_beside.ensures.room, c.requires.room)

pub visit_beside-requires-4-clause-room : goal.visit_beside-requires-4-clause-room
visit_beside-requires-4-clause-room g c = omega (arith, c.visit_beside-3.ensures.room ∙ (c.visit_beside-2.ensures.room ∙ c.visit_beside.ensures.room), c.requires.room)

pub returns-clause-room : goal.returns-clause-room
returns-clause-room g c = c.visit_beside-4.ensures.room ∙ (c.visit_beside-3.ensures.room ∙ (c.visit_beside-2.ensures.room ∙ c.visit_beside.ensures.room))
