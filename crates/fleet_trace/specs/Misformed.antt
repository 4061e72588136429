-- The first part of a JSON text that is not in the form of a trace.
use Rattle.std.specs.Prelude.{ℕ, ◌+◌, ◌≡◌, ◌≢◌, List, ◌∷◌, ◌++◌, codes, Option, Some, None, true, length, option_and_then}
use Rattle.std.specs.declared.alloc.Global.{Global}
use Rattle.serde_json.specs.Data.{Data}
use Rattle.serde_json.specs.Find.{get}
use Rattle.fleet_history.specs.declared.history.Opening.{Opening}
use Rattle.fleet_trace.specs.declared.part.FormPart.{FormPart}
use Rattle.fleet_trace.specs.declared.part.FormPart.TheVariants as part
use Rattle.fleet_trace.specs.declared.version.Version.{Version}
use Rattle.fleet_trace.specs.Version.{version_number, version_of}
use Rattle.fleet_trace.specs.Told.{all_in, count_in, entry_in, has_members, items_in, opening_in}
use Rattle.fleet_trace.specs.Reads.{IsJson}

-- an object of four members with these keys; a value that names a version has `version` as the fourth
pub record HasKeys (d : Data) : Type 0 where
  pub four : has_members 4 d ≡ true
  pub chapter : get (codes "chapter") d ≢ None
  pub opening : get (codes "opening") d ≢ None
  pub entries : get (codes "entries") d ≢ None

-- the value of this number, counted from 1, is the first that tells no entry
pub record IsFirstUntold (v : Version) (ds : List Data) (number : ℕ) : Type 0 where
  pub before : List Data
  pub value : Data
  pub behind : List Data
  pub splits : ds ≡ before ++ value ∷ behind
  pub place : number ≡ length before + 1
  pub told : all_in (entry_in {A = Global} v) before ≢ None
  pub untold : entry_in {A = Global} v value ≡ None

-- the number of the chapter, as told under its key; `None` where that tells none
abbrev pub chapter_under : Data → Option ℕ
chapter_under d = option_and_then count_in (get (codes "chapter") d)

-- the opening, as told under its key; `None` where that tells none
abbrev pub opening_under : Data → Option (Opening Global)
opening_under d = option_and_then opening_in (get (codes "opening") d)

-- the values of the entries, under their key; `None` where that is no array
abbrev pub entries_under : Data → Option (List Data)
entries_under d = option_and_then items_in (get (codes "entries") d)

-- the part of a value is the first that is not in this version's form
abbrev pub IsMisformedIn : Version → Data → FormPart → Type 0
IsMisformedIn v d part.Value = ⊥
IsMisformedIn v d part.Members = HasKeys d → ⊥
IsMisformedIn v d part.Chapter = HasKeys d × (chapter_under d ≡ None)
IsMisformedIn v d part.Opening = HasKeys d × (chapter_under d ≢ None) × (opening_under d ≡ None)
IsMisformedIn v d part.Entries = HasKeys d × (chapter_under d ≢ None) × (opening_under d ≢ None) × (entries_under d ≡ None)
IsMisformedIn v d (part.Entry n) = HasKeys d × (chapter_under d ≢ None) × (opening_under d ≢ None) × (ds : List Data) × ((entries_under d ≡ Some ds) × IsFirstUntold v ds n)

-- the version that a value names
abbrev pub Names : Data → Version → Type 0
Names d v = option_and_then version_of (version_number d) ≡ Some v

-- the part of a value is the first that is not in the form of the version that it names, or it names none
abbrev pub IsMisformed : Data → FormPart → Type 0
IsMisformed d part.Value = version_number d ≡ None
IsMisformed d p = (v : Version) × (Names d v × IsMisformedIn v d p)

-- the bytes are a JSON value's text, and its first part that is not in the form of a trace is this
abbrev pub IsFormFault : List ℕ → FormPart → Type 0
IsFormFault bytes p = (d : Data) × (IsJson bytes d × IsMisformed d p)
