use Rattle.std.proofs.Common.{arith}
use Rattle.fleet_field.proofs.keyed.key_among.Goals as goal

pub returns : goal.returns
returns g c = λ key at e is.
    let b = c.requires key at e in
    c.loop-key.invariant key (omega (arith, b.0, c.loop-key-test.false)) at e is
