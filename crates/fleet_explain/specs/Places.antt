-- Where a fault is: the file, and the place in it.
use Rattle.std.specs.Prelude.{⊤, ℕ, ◌^◌, ◌<◌}
use Rattle.fleet_map.specs.declared.fault.MapFault.{MapFault}
use Rattle.fleet_map.specs.declared.fault.MapFault.TheVariants as map
use Rattle.fleet_trace.specs.declared.part.FormPart.{FormPart}
use Rattle.fleet_trace.specs.declared.part.FormPart.TheVariants as form
use Rattle.fleet_explain.specs.declared.explanation.Explanation.{Explanation}
use Rattle.fleet_explain.specs.declared.explanation.Explanation.TheVariants as explanation

-- which of the files the fault is in, or none
pub data File : Type 0 where
  no_file : File
  map_file : File
  script_file : File
  trace_file : File

-- the whole file, a line, a row of a map, a row and a column, or an entry of a trace
pub data Place : Type 0 where
  whole : Place
  line : ℕ → Place
  row : ℕ → Place
  letter : ℕ → ℕ → Place
  entry : ℕ → Place

-- the file that an explanation is about; none where all is in order for `run`
abbrev pub file_of : Explanation → File
file_of explanation.Fine = no_file
file_of (explanation.Map f) = map_file
file_of (explanation.Letter r column l) = map_file
file_of (explanation.Script n f) = script_file
file_of (explanation.Unserved n clients) = no_file
file_of (explanation.Start f width) = script_file
file_of (explanation.NotJson position) = trace_file
file_of explanation.Version = trace_file
file_of (explanation.Form part) = trace_file
file_of (explanation.Illegal at rule kind detail) = trace_file

-- where a map is at fault; of a letter the row
abbrev pub map_place : MapFault → Place
map_place (map.Header n) = line n
map_place map.Size = whole
map_place (map.Row r) = row r
map_place (map.Cell r column) = row r
map_place (map.Trailing n) = line n
map_place map.NoMemory = whole

-- where a text is not in the form of a trace: the whole text, or an entry
abbrev pub form_place : FormPart → Place
form_place form.Value = whole
form_place form.Members = whole
form_place form.Chapter = whole
form_place form.Opening = whole
form_place form.Entries = whole
form_place (form.Entry n) = entry n

-- the place that an explanation is about
abbrev pub place_of : Explanation → Place
place_of explanation.Fine = whole
place_of (explanation.Map f) = map_place f
place_of (explanation.Letter r column l) = letter r column
place_of (explanation.Script n f) = line n
place_of (explanation.Unserved n clients) = line n
place_of (explanation.Start f width) = whole
place_of (explanation.NotJson position) = whole
place_of explanation.Version = whole
place_of (explanation.Form part) = form_place part
place_of (explanation.Illegal at rule kind detail) = entry at

-- its numbers are below 2^64
abbrev pub IsInRange : Place → Type 0
IsInRange whole = ⊤
IsInRange (line n) = n < 2 ^ 64
IsInRange (row r) = r < 2 ^ 64
IsInRange (letter r column) = (r < 2 ^ 64) × (column < 2 ^ 64)
IsInRange (entry n) = n < 2 ^ 64
