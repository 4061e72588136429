-- The values of a list, item by item.
use Rattle.std.proofs.Common.{◌∙◌, ap, map, subst, arith, List}
use Rattle.std.proofs.lemmas.List.{take_all}
use Rattle.std.specs.List.{AllByRecursion}
use Rattle.serde_json.specs.View.{view}
use Rattle.fleet_trace.specs.Text.{listed}
use Rattle.fleet_trace.proofs.Lists.{written_more, fits_more}
use Rattle.fleet_trace.proofs.write.values.write_list.Goals as goal

pub loop-item-preserved : goal.loop-item-preserved
loop-item-preserved g c =
    let xs = c.args.items.now in
    let i = c.loop-item.item-index in
    let x = c.item-item.result in
    record {
      values = written_more view g.T.WriteValue.written xs i x c.in_ok-write_value.field-0 c.loop-item.values.items c.push_reserved.new.self.items
          c.loop-item-test.true c.item-item.is c.in_ok-write_value.ensures.value c.loop-item.invariant.values c.push_reserved.ensures.items;
      fits = fits_more g.T.WriteValue.fits xs i x c.loop-item-test.true c.item-item.is c.in_ok-write_value.ensures.fits c.loop-item.invariant.fits;
      len = omega (arith, c.loop-item.invariant.len, c.push_reserved.ensures.len);
      room = omega (arith, c.loop-item.invariant.room, c.push_reserved.ensures.capacity);
    }

pub push_reserved-requires : goal.push_reserved-requires
push_reserved-requires g c = omega (arith, c.loop-item.invariant.len, c.loop-item.invariant.room, c.loop-item-test.true)

pub returns-clause-value : goal.returns-clause-value
returns-clause-value g c =
    let whole = take_all c.loop-item.item-index c.args.items.now c.loop-item-test.false in
    c.array.ensures ∙ ap listed (c.loop-item.invariant.values ∙ ap (λ (xs : List _). map g.T.WriteValue.written xs) whole)

pub returns-clause-fits : goal.returns-clause-fits
returns-clause-fits g c = subst (λ (xs : List _). AllByRecursion g.T.WriteValue.fits xs) (take_all c.loop-item.item-index c.args.items.now c.loop-item-test.false) c.loop-item.invariant.fits
