-- The test of a letter that is neither `.` nor `G`.
use Rattle.std.proofs.Common.{◌≡◌, eqb, false, refl, ne_eqb}
use Rattle.fleet_grid.proofs.letters.is_floor_byte.Goals as goal

pub returns-else-letter-eq71 : goal.returns-else-letter-eq71
returns-else-letter-eq71 c =
    let dot : eqb c.args.letter 46 ≡ false = ne_eqb c.args.letter 46 c.if-letter-eq71.false.0 in
    let g : eqb c.args.letter 71 ≡ false = ne_eqb c.args.letter 71 c.if-letter-eq71.false.1 in
    rw (dot, g) refl
