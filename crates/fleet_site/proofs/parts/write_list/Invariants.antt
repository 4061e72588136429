use Rattle.std.proofs.Common.{◌≡◌, ◌≤◌, length, map, take, vec_len, vec_capacity}
use Rattle.serde_json.specs.View.{view}
use Rattle.fleet_site.proofs.parts.write_list.Given as goal

abbrev pub invariant-loop-item : goal.invariant-loop-item
invariant-loop-item g l = record {
  values : map view l.values.items ≡ map g.T.Item.written (take l.item-index l.items);
  len : vec_len l.values ≡ l.item-index;
  room : length l.items ≤ vec_capacity l.values;
}
