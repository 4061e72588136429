-- The tests of a byte for a blank and a tab.
use Rattle.std.proofs.Common.{◌≡◌, eqb, false, refl, ne_eqb}
use Rattle.fleet_map.proofs.text.is_blank_byte.Goals as goal

pub returns-then-byte-eq32 : goal.returns-then-byte-eq32
returns-then-byte-eq32 c = rw c.if-byte-eq32.true refl

pub returns-else-byte-eq32 : goal.returns-else-byte-eq32
returns-else-byte-eq32 c = let e : eqb c.args.byte 32 ≡ false = ne_eqb c.args.byte 32 c.if-byte-eq32.false in rw e refl
