-- The table as the robots leave it, one after another.
use Rattle.std.proofs.Common.{refl, arith, ◌∙◌}
use Rattle.fleet_pibt.proofs.Entries.{lift-next, lift-done}
use Rattle.fleet_pibt.proofs.tables.lift.Goals as goal

pub loop-cell-init : goal.loop-cell-init
loop-cell-init g c = record { same_length = refl; rests = λ a r e. (let p = c.requires.placed.stands a r e in (omega arith, p.0, p.1)); holder = refl }

pub loop-cell-preserved : goal.loop-cell-preserved
loop-cell-preserved g c =
    let next = lift-next c.args.from.now c.loop-cell.seats.standing c.leave.new.self.standing c.args.seats.now.standing c.loop-cell.cell-index c.loop-cell.invariant.same_length c.loop-cell.invariant.rests c.leave.ensures.standing in
    record { same_length = next.0; rests = next.1; holder = c.leave.ensures.holder ∙ c.loop-cell.invariant.holder }

pub returns-clause-empty : goal.returns-clause-empty
returns-clause-empty g c = lift-done c.args.from.now c.loop-cell.seats.standing c.loop-cell.cell-index c.loop-cell-test.false c.loop-cell.invariant.rests

pub leave-requires : goal.leave-requires
leave-requires g c = omega (arith, c.requires.inside c.loop-cell.cell-index c.loop-cell-test.true, c.loop-cell.invariant.same_length)

pub returns-clause-same_length : goal.returns-clause-same_length
returns-clause-same_length g c = c.loop-cell.invariant.same_length

pub returns-clause-holder : goal.returns-clause-holder
returns-clause-holder g c = c.loop-cell.invariant.holder
