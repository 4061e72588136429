use Rattle.std.proofs.Common.{map, take}
use Rattle.std.specs.Prelude.{◌≢◌, None}
use Rattle.std.specs.declared.alloc.Global.{Global}
use Rattle.serde_json.specs.View.{view}
use Rattle.fleet_trace.specs.Told.{all_in, entry_in}
use Rattle.fleet_trace.proofs.read.form.first_untold.Given as goal

abbrev pub invariant-loop-at : goal.invariant-loop-at
invariant-loop-at l = all_in (entry_in {A = Global} l.version) (map view (take l.at l.values)) ≢ None
