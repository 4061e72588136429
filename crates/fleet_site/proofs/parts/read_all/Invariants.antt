use Rattle.std.proofs.Common.{◌≡◌, ◌≤◌, length, map, drop, vec_len, vec_capacity}
use Rattle.serde_json.specs.View.{view}
use Rattle.fleet_trace.specs.Told.{all_in}
use Rattle.fleet_trace.proofs.Lists.{with_front}
use Rattle.fleet_site.proofs.parts.read_all.Given as goal

abbrev pub invariant-loop-value : goal.invariant-loop-value
invariant-loop-value g l = record {
  told : with_front g.T.Item.told l.items.items (all_in g.T.Item.told (map view (drop l.value-index l.values))) ≡ all_in g.T.Item.told (map view l.values);
  len : vec_len l.items ≡ l.value-index;
  room : length l.values ≤ vec_capacity l.items;
}
