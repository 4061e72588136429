-- The values of a list, item by item.
use Rattle.std.proofs.Common.{◌∙◌, ap, map, arith, List}
use Rattle.std.proofs.lemmas.List.{take_all}
use Rattle.serde_json.specs.View.{view}
use Rattle.fleet_trace.specs.Text.{listed}
use Rattle.fleet_trace.proofs.Lists.{written_more}
use Rattle.fleet_site.proofs.parts.write_list.Goals as goal

pub loop-item-preserved : goal.loop-item-preserved
loop-item-preserved g c =
    let xs = c.args.items.now in
    let i = c.loop-item.item-index in
    let x = c.item-item.result in
    record {
      values = written_more view g.T.Item.written xs i x c.in_ok-write.field-0 c.loop-item.values.items c.push_reserved.new.self.items
          c.loop-item-test.true c.item-item.is c.in_ok-write.ensures c.loop-item.invariant.values c.push_reserved.ensures.items;
      len = omega (arith, c.loop-item.invariant.len, c.push_reserved.ensures.len);
      room = omega (arith, c.loop-item.invariant.room, c.push_reserved.ensures.capacity);
    }

pub push_reserved-requires : goal.push_reserved-requires
push_reserved-requires g c = omega (arith, c.loop-item.invariant.len, c.loop-item.invariant.room, c.loop-item-test.true)

pub returns : goal.returns
returns g c =
    let whole = take_all c.loop-item.item-index c.args.items.now c.loop-item-test.false in
    c.array.ensures ∙ ap listed (c.loop-item.invariant.values ∙ ap (λ (xs : List _). map g.T.Item.written xs) whole)
