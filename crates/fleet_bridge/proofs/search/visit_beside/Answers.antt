use Rattle.std.proofs.Common.{refl}
use Rattle.fleet_grid.proofs.Forms.{floor_inside}
use Rattle.fleet_bridge.proofs.Fronts.{later_same, step_joined, crossed_out, marked_beside}
use Rattle.fleet_bridge.proofs.search.visit_beside.Goals as goal

pub visit-requires-clause-joined : goal.visit-requires-clause-joined
visit-requires-clause-joined g c =
    step_joined c.args.grid.now c.args.from c.args.to c.args.cell c.args.dir c.in-Some.next c.args.seen.now.items c.args.queue.now.items c.requires.front c.requires.reached c.in-Some.ensures (c.is_across.ensures.no c.if-is_across.false)

pub visit-requires-clause-inside : goal.visit-requires-clause-inside
visit-requires-clause-inside g c = floor_inside c.args.grid.now c.in-Some.next c.in-Some.ensures.to

pub returns-in_default-clause-front : goal.returns-in_default-clause-front
returns-in_default-clause-front g c = c.requires.front

pub returns-in_default-clause-later : goal.returns-in_default-clause-later
returns-in_default-clause-later g c = later_same c.args.seen.now.items c.args.queue.now.items

pub returns-in_default-clause-marked : goal.returns-in_default-clause-marked
returns-in_default-clause-marked g c = λ d n edge. absurd (c.in_default.ensures d n)

pub returns-then-is_across-clause-front : goal.returns-then-is_across-clause-front
returns-then-is_across-clause-front g c = c.requires.front

pub returns-then-is_across-clause-later : goal.returns-then-is_across-clause-later
returns-then-is_across-clause-later g c = later_same c.args.seen.now.items c.args.queue.now.items

pub returns-then-is_across-clause-marked : goal.returns-then-is_across-clause-marked
returns-then-is_across-clause-marked g c = λ d n edge.
    absurd (crossed_out c.args.grid.now c.args.from c.args.to c.args.cell c.in-Some.next d c.args.dir c.in-Some.ensures n (c.is_across.ensures.yes c.if-is_across.true) edge)

pub visit-requires-clause-front : goal.visit-requires-clause-front
visit-requires-clause-front g c = c.requires.front

pub returns-clause-front : goal.returns-clause-front
returns-clause-front g c = c.visit.ensures.front

pub returns-clause-later : goal.returns-clause-later
returns-clause-later g c = c.visit.ensures.later

pub returns-clause-marked : goal.returns-clause-marked
returns-clause-marked g c =
    marked_beside c.args.grid.now c.args.from c.args.to c.args.cell c.in-Some.next c.args.dir c.visit.new.seen.items c.in-Some.ensures c.visit.ensures.marked

pub visit-requires-clause-room : goal.visit-requires-clause-room
visit-requires-clause-room g c = c.requires.room

pub returns-in_default-clause-room : goal.returns-in_default-clause-room
returns-in_default-clause-room g c = refl

pub returns-then-is_across-clause-room : goal.returns-then-is_across-clause-room
returns-then-is_across-clause-room g c = refl

pub returns-clause-room : goal.returns-clause-room
returns-clause-room g c = c.visit.ensures.room
