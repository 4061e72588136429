-- The sides of a whole head, and the text after it.
use Rattle.std.proofs.Common.{◌≡◌, leb, true, refl, sym, arith, le-leb}
use Rattle.fleet_map.specs.Grammar.{is_type_line, is_map_line, head_at}
use Rattle.fleet_map.proofs.head.read_head.Goals as goal

pub returns-clause-exact : goal.returns-clause-exact
unfolding head_at
returns-clause-exact c =
    let typed : is_type_line c.in_ok-line.line.now ≡ true = sym c.if-not-is_type.ensures in
    let named : is_map_line c.in_ok-line-2.line.now ≡ true = sym c.if-not-is_map.ensures in
    let h1 : leb 1 c.in_ok-height.height ≡ true = le-leb _ _ (omega arith) in
    let h2 : leb c.in_ok-height.height 1024 ≡ true = le-leb _ _ (omega arith) in
    let w1 : leb 1 c.in_ok-height.width ≡ true = le-leb _ _ (omega arith) in
    let w2 : leb c.in_ok-height.width 1024 ≡ true = le-leb _ _ (omega arith) in
    rw (c.in_ok-line.ensures, typed, c.in_ok-height.ensures, c.in_ok-line-2.ensures, named, h1, h2, w1, w2) refl

pub returns-clause-sides : goal.returns-clause-sides
returns-clause-sides c = (omega arith, omega arith)
