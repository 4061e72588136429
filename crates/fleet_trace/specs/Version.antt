-- The version of the form in which a trace is written.
use Rattle.std.specs.Prelude.{◌==◌, ℤ, pos, negsuc, Bool, true, false, codes, Option, Some, None, option_and_then, if◌then◌else◌}
use Rattle.serde_json.specs.Data.{Data}
use Rattle.serde_json.specs.Find.{get, as_number, as_integer}
use Rattle.fleet_trace.specs.declared.version.Version.{Version}
use Rattle.fleet_trace.specs.declared.version.Version.TheVariants.{First, Second}

-- the number under `version`
abbrev pub version_number : Data → Option ℤ
version_number d = option_and_then as_integer (option_and_then as_number (get (codes "version") d))

-- the version that has a number
abbrev pub version_of : ℤ → Option Version
version_of (pos n) = if n == 1 then Some First else if n == 2 then Some Second else None
version_of (negsuc n) = None

-- whether errands may be withdrawn
abbrev pub has_withdrawal : Version → Bool
has_withdrawal First = false
has_withdrawal Second = true
