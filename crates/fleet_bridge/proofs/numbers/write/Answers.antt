use Rattle.std.proofs.Common.{refl, sym, arith}
use Rattle.std.proofs.lemmas.List.{set_past}
use Rattle.fleet_bridge.proofs.numbers.write.Goals as goal

pub index_mut-requires : goal.index_mut-requires
index_mut-requires g c = omega (arith, c.if-at-len.true, c.len.ensures)

pub returns-then-at-len : goal.returns-then-at-len
returns-then-at-len g c = refl

pub returns-else-at-len : goal.returns-else-at-len
returns-else-at-len g c = sym (set_past c.args.list.now.items c.args.at c.args.value (omega (arith, c.if-at-len.false, c.len.ensures, c.args.list.now.ok.0)))
