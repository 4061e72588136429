use Rattle.std.specs.Vec.{vec_capacity}
use Rattle.std.proofs.Common.{◌≡◌, ◌<◌, length, true, false, get_or, arith, ◌∙◌, sym, refl}
use Rattle.std.proofs.lemmas.List.{get_or_read_under, get_or-set_same}
use Rattle.fleet_bridge.specs.inside.Search.{NearWithout}
use Rattle.fleet_bridge.proofs.Fronts.{front_more, front_room, later_same, later_more}
use Rattle.fleet_bridge.proofs.search.visit.Goals as goal

pub returns-clause-front : goal.returns-clause-front
returns-clause-front g c =
    let inside : c.args.cell < length c.args.seen.now.items = omega (arith, c.requires.inside, c.requires.front.size) in
    let fresh : get_or c.args.seen.now.items c.args.cell false ≡ false = sym (get_or_read_under _ _ _ _ false c.index.ensures inside refl) ∙ c.if-index.false in
    rw c.push_reserved.ensures.items (front_more (NearWithout c.args.grid.now c.args.from c.args.to) c.args.from (length c.args.grid.now.letters) c.args.seen.now.items c.args.queue.now.items c.args.cell c.requires.inside c.requires.joined fresh c.requires.front)

pub index-requires : goal.index-requires
index-requires g c = omega (arith, c.requires.inside, c.requires.front.size)

pub returns-then-index-clause-front : goal.returns-then-index-clause-front
returns-then-index-clause-front g c = c.requires.front

pub returns-then-index-clause-later : goal.returns-then-index-clause-later
returns-then-index-clause-later g c = later_same c.args.seen.now.items c.args.queue.now.items

pub returns-then-index-clause-marked : goal.returns-then-index-clause-marked
returns-then-index-clause-marked g c =
    let inside : c.args.cell < length c.args.seen.now.items = omega (arith, c.requires.inside, c.requires.front.size) in
    sym (get_or_read_under _ _ _ _ false c.index.ensures inside refl) ∙ c.if-index.true

pub index_mut-requires : goal.index_mut-requires
index_mut-requires g c = omega (arith, c.requires.inside, c.requires.front.size)

pub returns-clause-later : goal.returns-clause-later
returns-clause-later g c =
    let inside : c.args.cell < length c.args.seen.now.items = omega (arith, c.requires.inside, c.requires.front.size) in
    rw c.push_reserved.ensures.items (later_more c.args.seen.now.items c.args.queue.now.items c.args.cell inside)

pub returns-clause-marked : goal.returns-clause-marked
returns-clause-marked g c =
    let inside : c.args.cell < length c.args.seen.now.items = omega (arith, c.requires.inside, c.requires.front.size) in
    get_or-set_same c.args.seen.now.items c.args.cell true false inside

pub push_reserved-requires : goal.push_reserved-requires
push_reserved-requires g c =
    let inside : c.args.cell < length c.args.seen.now.items = omega (arith, c.requires.inside, c.requires.front.size) in
    let fresh : get_or c.args.seen.now.items c.args.cell false ≡ false = sym (get_or_read_under _ _ _ _ false c.index.ensures inside refl) ∙ c.if-index.false in
    let space = front_room (NearWithout c.args.grid.now c.args.from c.args.to) c.args.from (length c.args.grid.now.letters) c.args.seen.now.items c.args.queue.now.items c.args.cell (vec_capacity c.args.queue.now) c.requires.inside c.requires.joined fresh c.requires.front c.requires.room in
    omega (arith, space, c.args.queue.now.ok.0)

pub returns-clause-room : goal.returns-clause-room
returns-clause-room g c = c.push_reserved.ensures.capacity

pub returns-then-index-clause-room : goal.returns-then-index-clause-room
returns-then-index-clause-room g c = refl
