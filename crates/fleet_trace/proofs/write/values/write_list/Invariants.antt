use Rattle.std.proofs.Common.{◌≡◌, ◌≤◌, length, map, take, vec_len, vec_capacity}
use Rattle.std.specs.List.{AllByRecursion}
use Rattle.serde_json.specs.View.{view}
use Rattle.fleet_trace.proofs.write.values.write_list.Given as goal

abbrev pub invariant-loop-item : goal.invariant-loop-item
invariant-loop-item g l = record {
  values : map view l.values.items ≡ map g.T.WriteValue.written (take l.item-index l.items);
  fits : AllByRecursion g.T.WriteValue.fits (take l.item-index l.items);
  len : vec_len l.values ≡ l.item-index;
  room : length l.items ≤ vec_capacity l.values;
}
