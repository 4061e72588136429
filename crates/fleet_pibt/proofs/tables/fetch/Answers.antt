use Rattle.std.proofs.Common.{◌∙◌, get_or, refl, arith}
use Rattle.fleet_pibt.specs.declared.around.Around.{Around}
use Rattle.fleet_pibt.proofs.Entries.{cleared-next}
use Rattle.fleet_pibt.proofs.Seen.{seen-at}
use Rattle.fleet_pibt.proofs.tables.fetch.Goals as goal

abbrev nowhere : Around
nowhere = record { own = 0; north = 0; east = 0; south = 0; west = 0; nearer = record { byte = 0 }; exits = record { byte = 0 } }

pub loop-around-preserved : goal.loop-around-preserved
loop-around-preserved g c =
    let north = cleared-next c.loop-around.seats.standing c.leave.new.self.standing _ _ c.loop-around.invariant.same_length c.loop-around.invariant.blank c.leave.ensures.standing in
    let south = cleared-next c.leave.new.self.standing c.leave-in-loop-around.new.self.standing _ _ north.0 north.1 c.leave-in-loop-around.ensures.standing in
    record { same_length = south.0; blank = south.1; holder = c.leave-in-loop-around.ensures.holder ∙ c.leave.ensures.holder ∙ c.loop-around.invariant.holder }

pub returns-then-len-le-NEAR-clause-same_length : goal.returns-then-len-le-NEAR-clause-same_length
returns-then-len-le-NEAR-clause-same_length g c = refl

pub returns-then-len-le-NEAR-clause-empty : goal.returns-then-len-le-NEAR-clause-empty
returns-then-len-le-NEAR-clause-empty g c = c.requires.empty

pub returns-then-len-le-NEAR-clause-holder : goal.returns-then-len-le-NEAR-clause-holder
returns-then-len-le-NEAR-clause-holder g c = refl

pub loop-around-init : goal.loop-around-init
loop-around-init g c = record { same_length = refl; blank = c.requires.empty; holder = refl }

pub leave-requires : goal.leave-requires
leave-requires g c =
    let sides = c.requires.inside c.loop-around.around-index (get_or c.args.arounds.now c.loop-around.around-index nowhere) (seen-at c.args.arounds.now c.loop-around.around-index nowhere (omega (arith, c.loop-around-test.true))) in
    omega (arith, sides.0, c.loop-around.invariant.same_length)

pub leave-requires-in-loop-around : goal.leave-requires-in-loop-around
leave-requires-in-loop-around g c =
    let sides = c.requires.inside c.loop-around.around-index (get_or c.args.arounds.now c.loop-around.around-index nowhere) (seen-at c.args.arounds.now c.loop-around.around-index nowhere (omega (arith, c.loop-around-test.true))) in
    let north = cleared-next c.loop-around.seats.standing c.leave.new.self.standing _ _ c.loop-around.invariant.same_length c.loop-around.invariant.blank c.leave.ensures.standing in
    omega (arith, sides.1, north.0)

pub returns-clause-same_length : goal.returns-clause-same_length
returns-clause-same_length g c = c.loop-around.invariant.same_length

pub returns-clause-empty : goal.returns-clause-empty
returns-clause-empty g c = c.loop-around.invariant.blank

pub returns-clause-holder : goal.returns-clause-holder
returns-clause-holder g c = c.loop-around.invariant.holder
