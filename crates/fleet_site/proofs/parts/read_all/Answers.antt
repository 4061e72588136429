use Rattle.std.proofs.Common.{◌+◌, ◌∙◌, ap, map, drop, arith, sym, List}
use Rattle.serde_json.specs.View.{view}
use Rattle.fleet_trace.specs.Told.{all_in}
use Rattle.fleet_trace.proofs.Lists.{with_front, goes_on, is_done}
use Rattle.fleet_site.proofs.parts.read_all.Goals as goal

pub loop-value-preserved : goal.loop-value-preserved
loop-value-preserved g c =
    let told = g.T.Item.told in
    let xs = c.args.values.now in
    let i = c.loop-value.value-index in
    record {
      told = ap (λ (l : List _). with_front told l (all_in told (map view (drop (i + 1) xs)))) c.push_reserved.ensures.items
          ∙ goes_on told view c.loop-value.items.items xs i c.value-item.result c.in_ok-found.field-0 (all_in told (map view xs)) c.loop-value-test.true c.value-item.is (sym c.read.ensures ∙ c.in_ok-found.ensures) c.loop-value.invariant.told;
      len = omega (arith, c.loop-value.invariant.len, c.push_reserved.ensures.len);
      room = omega (arith, c.loop-value.invariant.room, c.push_reserved.ensures.capacity);
    }

pub returns : goal.returns
returns g c =
    let told = g.T.Item.told in
    let xs = c.args.values.now in
    is_done told view c.loop-value.items.items xs c.loop-value.value-index (all_in told (map view xs)) c.loop-value-test.false c.loop-value.invariant.told
