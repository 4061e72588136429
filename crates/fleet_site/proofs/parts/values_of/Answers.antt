use Rattle.std.proofs.Common.{sym, map}
use Rattle.serde_json.specs.View.{view}
use Rattle.fleet_trace.proofs.Lists.{items_none, items_some}
use Rattle.fleet_site.proofs.parts.values_of.Goals as goal

pub returns-in-None : goal.returns-in-None
returns-in-None c = sym (items_none (view c.args.value.now) (sym c.in-None.ensures))

pub returns-in-Some : goal.returns-in-Some
returns-in-Some c = rw c.as_slice.ensures.value (sym (items_some (map view c.in-Some.values.now.items) (view c.args.value.now) (sym c.in-Some.ensures)))
