-- What stands at a place of a trace.
use Rattle.std.specs.Prelude.{ℕ, ◌-◌, List, Option, Some, None, slice_get, ◌==◌, if◌then◌else◌}
use Rattle.fleet_history.specs.declared.history.Entry.{Entry}
use Rattle.fleet_history.specs.declared.history.Entry.TheVariants as entry
use Rattle.fleet_explain.specs.declared.entry.EntryKind.{EntryKind}
use Rattle.fleet_explain.specs.declared.entry.EntryKind.TheVariants.{Opening, Take, Tick, Shut}

-- of which kind an entry is, with its client or its robot
abbrev pub kind_of : {A : Type 0} → Entry A → EntryKind
kind_of (entry.Take client order verdict) = Take client
kind_of (entry.Tick to arrived farewells) = Tick
kind_of (entry.Shut robot farewell) = Shut robot

-- of which kind an entry is; the opening where there is none
abbrev pub kind_in : {A : Type 0} → Option (Entry A) → EntryKind
kind_in None = Opening
kind_in (Some e) = kind_of e

-- at this place, from 1; at 0 the opening
abbrev pub kind_at : {A : Type 0} → List (Entry A) → ℕ → EntryKind
kind_at entries at = if at == 0 then Opening else kind_in (slice_get entries (at - 1))
