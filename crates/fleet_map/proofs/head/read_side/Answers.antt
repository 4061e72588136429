-- The fault of a line that does not give the side.
use Rattle.std.proofs.Common.{◌≡◌, None, refl, sym}
use Rattle.fleet_map.specs.Grammar.{side_on, side_at}
use Rattle.fleet_map.proofs.head.read_side.Goals as goal

pub returns-in-None : goal.returns-in-None
unfolding side_at
returns-in-None c =
    let none : side_on c.args.name.now c.in_ok-line.line.now ≡ None = sym c.in-None.ensures in
    rw (c.in_ok-line.ensures, none) refl
