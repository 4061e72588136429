use Rattle.std.proofs.Common.{◌≡◌, ◌++◌, take, drop, map, string_bytes, false}
use Rattle.std.specs.List.{AllByRecursion}
use Rattle.serde_json.specs.View.{items_of}
use Rattle.serde_json.specs.Written.{has_float, items_text}
use Rattle.fleet_trace.proofs.write.texts.push_items.Given as goal

abbrev pub invariant-loop-item : goal.invariant-loop-item
invariant-loop-item g l = record {
  text : ((x : _) → has_float (g.T.WriteValue.written x) ≡ false)
      → string_bytes l.text ++ items_text l.later (items_of (map g.T.WriteValue.written (drop l.item-index l.items))) ≡ string_bytes l.fn.text ++ items_text false (items_of (map g.T.WriteValue.written l.items));
  fits : AllByRecursion g.T.WriteValue.fits (take l.item-index l.items);
}
