-- Whether a cell is open.
use Rattle.std.proofs.Common.{slice_index}
use Rattle.fleet_shield.specs.Wishes.{wishes, cell_of}
use Rattle.fleet_shield.specs.inside.Board.{IsOpen, IsShut}
use Rattle.fleet_shield.specs.inside.Board.IsShut.{meets}
use Rattle.fleet_shield.proofs.Listed.{told}
use Rattle.fleet_shield.proofs.Holding.{shut_held, free_found, open_if}
use Rattle.fleet_shield.proofs.scene.Scene.is_open.Goals as goal

pub returns-then-is_some : goal.returns-then-is_some
returns-then-is_some c =
    let s = c.args.self.now in
    shut_held (wishes s.from.now s.preferences) c.args.to.now c.args.robot c.args.cell c.place_of.result c.requires.holding.news c.if-is_some.ensures c.place_of.ensures

pub returns-in-Some : goal.returns-in-Some
returns-in-Some c =
    let s = c.args.self.now in
    let w = wishes s.from.now s.preferences in
    let to = c.args.to.now in
    let other = c.in-Some.other in
    let free = free_found w to c.args.cell c.place_of.result c.requires.holding.news c.if-is_some.ensures c.place_of.ensures in
    told (slice_index to other) (cell_of w c.args.robot) (IsOpen w to c.args.robot c.args.cell) (IsShut w to c.args.robot c.args.cell)
    (λ ne. open_if w s.standing.now to c.args.robot c.args.cell other c.requires.seated free c.in-Some.ensures.0 c.in-Some.ensures.1 ne)
    (λ e. meets other c.in-Some.ensures.0 c.in-Some.ensures.1 e)
