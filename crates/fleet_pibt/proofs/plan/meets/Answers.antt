-- Whether the robot on the cell comes the other way.
use Rattle.fleet_pibt.proofs.Planning.{meets_tells}
use Rattle.std.proofs.Common.{sym, arith}
use Rattle.fleet_pibt.proofs.plan.meets.Goals as goal

pub returns-in-Some : goal.returns-in-Some
returns-in-Some g c =
    meets_tells (g.S.Sight.setting c.args.scene.now) c.args.board.now.seats.standing c.args.board.now.target c.args.robot c.args.cell c.in-Some.other c.cell_of.result c.get.result c.eq.result
    (g.met.S.Sight.is_scene c.args.scene.now c.requires.whole) c.requires.standing c.in-Some.ensures c.get.ensures c.cell_of.ensures c.eq.ensures

pub stander-requires : goal.stander-requires
stander-requires g c = omega (arith, c.requires.inside, c.requires.standing.all)

pub get-requires : goal.get-requires
get-requires g c =
    let stands = c.requires.standing.stands c.args.cell c.in-Some.other (sym c.in-Some.ensures) in
    omega (arith, stands.0, c.requires.targets)

pub cell_of-requires-clause-whole : goal.cell_of-requires-clause-whole
cell_of-requires-clause-whole g c = c.requires.whole

pub cell_of-requires-clause-known : goal.cell_of-requires-clause-known
cell_of-requires-clause-known g c = c.requires.known
