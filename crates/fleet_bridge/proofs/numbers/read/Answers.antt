use Rattle.std.proofs.Common.{◌<◌, length, refl, sym, arith}
use Rattle.std.proofs.lemmas.List.{get_or_past, get_or_read_under}
use Rattle.fleet_bridge.proofs.numbers.read.Goals as goal

pub index-requires : goal.index-requires
index-requires g c = omega (arith, c.if-at-len.true, c.len.ensures)

pub returns-then-at-len : goal.returns-then-at-len
returns-then-at-len g c =
    let inside : c.args.at < length c.args.list.now.items = omega (arith, c.if-at-len.true, c.len.ensures, c.args.list.now.ok.0) in
    get_or_read_under _ _ _ _ 0 c.index.ensures inside refl

pub returns-else-at-len : goal.returns-else-at-len
returns-else-at-len g c = sym (get_or_past c.args.list.now.items c.args.at 0 (omega (arith, c.if-at-len.false, c.len.ensures, c.args.list.now.ok.0)))
