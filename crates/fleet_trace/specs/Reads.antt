-- What reading answers.
use Rattle.std.specs.Prelude.{⊤, ◌≡◌, ◌≢◌, ℤ, List, ℕ, Option, Some, None, option_and_then, Result, Ok, Err, IsUtf8}
use Rattle.std.specs.declared.alloc.Global.{Global}
use Rattle.serde_json.specs.Data.{Data}
use Rattle.serde_json.specs.Read.{read}
use Rattle.fleet_trace.specs.declared.fault.TraceFault.{TraceFault}
use Rattle.fleet_trace.specs.declared.fault.TraceFault.TheVariants.{NotJson, Version, Shape, NoMemory}
use Rattle.fleet_trace.specs.declared.version.Version.{Version as TheVersion}
use Rattle.fleet_trace.specs.Trace.{Trace}
use Rattle.fleet_trace.specs.Version.{version_number, version_of}
use Rattle.fleet_trace.specs.Told.{trace_in}

-- what is read, unless memory ran out; a value of another form is a fault
abbrev pub Gives : {X Y : Type 0} → (X → Y) → Result X TraceFault → Option Y → Type 0
Gives see (Ok x) told = told ≡ Some (see x)
Gives see (Err Shape) told = told ≡ None
Gives see (Err NotJson) told = ⊥
Gives see (Err Version) told = ⊥
Gives see (Err NoMemory) told = ⊤

-- the bytes are a JSON value's text
abbrev pub IsJson : List ℕ → Data → Type 0
IsJson bytes d = IsUtf8 bytes × (read bytes ≡ Some d)

-- the bytes tell the trace: they are a JSON value's text, which has a known version's form
abbrev pub Tells : {A : Type 0} → List ℕ → Trace A → Type 0
Tells bytes t = (d : Data) × (IsJson bytes d × (trace_in d ≡ Some t))

-- no number is under `version`, or that of a known version
abbrev pub IsVersionKnown : Option ℤ → Type 0
IsVersionKnown None = ⊤
IsVersionKnown (Some n) = version_of n ≢ None

-- the number under `version` is that of no known version
abbrev pub IsVersionUnknown : Option ℤ → Type 0
IsVersionUnknown None = ⊥
IsVersionUnknown (Some n) = version_of n ≡ None

-- the version that has the number, or why there is none
abbrev pub IsVersionOf : Option ℤ → Result TheVersion TraceFault → Type 0
IsVersionOf n (Ok v) = option_and_then version_of n ≡ Some v
IsVersionOf n (Err Version) = IsVersionUnknown n
IsVersionOf n (Err Shape) = n ≡ None
IsVersionOf n (Err NotJson) = ⊥
IsVersionOf n (Err NoMemory) = ⊥

-- why the bytes tell no trace, unless memory ran out
abbrev pub IsTraceFault : List ℕ → TraceFault → Type 0
IsTraceFault bytes NotJson = (d : Data) → IsJson bytes d → ⊥
IsTraceFault bytes Version = (d : Data) × (IsJson bytes d × IsVersionUnknown (version_number d))
IsTraceFault bytes Shape = (d : Data) × (IsJson bytes d × (IsVersionKnown (version_number d) × (trace_in {A = Global} d ≡ None)))
IsTraceFault bytes NoMemory = ⊤
