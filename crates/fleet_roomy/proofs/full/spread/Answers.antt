-- What lies in a direction is found, or shows that the side is not full, or that the edge is no bridge.
use Rattle.std.proofs.Common.{◌≡◌, ◌≢◌, ◌∙◌, ℕ, ◌<◌, Bool, List, ◌∷◌, [], ◌++◌, length, sym, ap, subst}
use Rattle.std.specs.Prelude.{slice_index}
use Rattle.fleet_grid.specs.Floor.{IsNeighbour, IsNeighbourIn}
use Rattle.fleet_grid.specs.Walk.{IsOnSide}
use Rattle.fleet_roomy.specs.inside.Found.{AreFound, Has}
use Rattle.fleet_roomy.proofs.Fullness.{at-cell, found-more, has-last, next-beyond, not-bridge, not-full, one-neighbour}
use Rattle.fleet_roomy.proofs.full.spread.Goals as goal

pub returns-then-next-edge-clause-open : goal.returns-then-next-edge-clause-open
returns-then-next-edge-clause-open g c _ full =
    let m = c.args.grid.now in
    let (on, other) = at-cell m c.args.cells.now c.args.edge.from c.args.edge.to c.args.found.now.seen.items c.args.found.now.robots.items c.args.cell c.requires.found c.requires.at in
    not-bridge m c.args.cells.now c.args.edge.from c.args.edge.to c.args.cell on other (c.args.dir, subst (λ (x : ℕ). IsNeighbourIn m c.args.dir c.args.cell x) c.if-next-edge.true c.in-Some.ensures) c.if-cell-edge.false full

pub returns-in_default-robot_on-clause-open : goal.returns-in_default-robot_on-clause-open
returns-in_default-robot_on-clause-open g c _ full =
    let m = c.args.grid.now in
    let (on, other) = at-cell m c.args.cells.now c.args.edge.from c.args.edge.to c.args.found.now.seen.items c.args.found.now.robots.items c.args.cell c.requires.found c.requires.at in
    not-full m c.args.cells.now c.args.edge.from c.args.edge.to c.in-Some.next
    (next-beyond m c.args.cells.now c.args.edge.from c.args.edge.to c.args.cell c.in-Some.next on other (c.args.dir, c.in-Some.ensures) c.if-next-edge.false) c.in_default-robot_on.ensures full

pub returns-clause-found : goal.returns-clause-found
returns-clause-found g c =
    let m = c.args.grid.now in
    let cells = c.args.cells.now in
    let u = c.args.edge.from in
    let v = c.args.edge.to in
    let (on, other) = at-cell m cells u v c.args.found.now.seen.items c.args.found.now.robots.items c.args.cell c.requires.found c.requires.at in
    let (inside, at) = c.in-Some-robot_on.ensures in
    let beyond = subst (λ (x : ℕ). IsOnSide (IsNeighbour m) u v x) (sym at) (next-beyond m cells u v c.args.cell c.in-Some.next on other (c.args.dir, c.in-Some.ensures) c.if-next-edge.false) in
    let f = found-more m cells u v c.args.found.now.seen.items c.args.found.now.robots.items c.requires.found c.in-Some-robot_on.robot inside (sym c.is_found.ensures ∙ c.if-is_found.false) beyond (λ e. c.if-next-edge.false (sym at ∙ e)) in
    subst (λ (xs : List ℕ). AreFound m cells u v c.note.new.found.seen.items xs) (sym c.in_ok-note.ensures.robots)
    (subst (λ (bs : List Bool). AreFound m cells u v bs (c.args.found.now.robots.items ++ c.in-Some-robot_on.robot ∷ [])) (sym c.in_ok-note.ensures.seen) f)

pub returns-clause-on : goal.returns-clause-on
returns-clause-on g c _ y near free =
    let m = c.args.grid.now in
    let cells = c.args.cells.now in
    let u = c.args.edge.from in
    let v = c.args.edge.to in
    let (on, other) = at-cell m cells u v c.args.found.now.seen.items c.args.found.now.robots.items c.args.cell c.requires.found c.requires.at in
    let (inside, at) = c.in-Some-robot_on.ensures in
    let beyond = subst (λ (x : ℕ). IsOnSide (IsNeighbour m) u v x) (sym at) (next-beyond m cells u v c.args.cell c.in-Some.next on other (c.args.dir, c.in-Some.ensures) c.if-next-edge.false) in
    let has = has-last m cells u v c.args.found.now.seen.items c.args.found.now.robots.items c.requires.found c.in-Some-robot_on.robot inside (sym c.is_found.ensures ∙ c.if-is_found.false) beyond (λ e. c.if-next-edge.false (sym at ∙ e)) in
    subst (λ (xs : List ℕ). Has cells xs y) (sym c.in_ok-note.ensures.robots)
    (subst (λ (x : ℕ). Has cells (c.args.found.now.robots.items ++ c.in-Some-robot_on.robot ∷ []) x) (at ∙ one-neighbour m c.args.cell c.in-Some.next y c.args.dir c.in-Some.ensures near) has)
