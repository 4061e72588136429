-- The lines of a journal: the opening, and the entries in the words of traces.
use Rattle.std.specs.Prelude.{ℕ, List, [], ◌∷◌, ◌++◌, codes}
use Rattle.serde_json.specs.Data.{Data, object, member, no_members}
use Rattle.serde_json.specs.Written.{compact_text}
use Rattle.fleet_history.specs.declared.history.Entry.{Entry}
use Rattle.fleet_history.specs.declared.history.Opening.{Opening}
use Rattle.fleet_trace.specs.Text.{counted, opening_data, entry_data}
use Rattle.fleet_trace.specs.Trace.{Trace}

-- the first line as a JSON value: the number of the chapter, its opening, and the version of the form of traces
abbrev pub head_data : {A : Type 0} → ℕ → Opening A → Data
head_data n o = object (member (codes "chapter") (counted n) (member (codes "opening") (opening_data o) (member (codes "version") (counted 2) no_members)))

-- the first line, with its line feed
abbrev pub head_line : {A : Type 0} → ℕ → Opening A → List ℕ
head_line n o = compact_text (head_data n o) ++ 10 ∷ []

-- the line of an entry, with its line feed
abbrev pub entry_line : {A : Type 0} → Entry A → List ℕ
entry_line e = compact_text (entry_data e) ++ 10 ∷ []

-- the lines of the entries, in order
abbrev pub entry_lines : {A : Type 0} → List (Entry A) → List ℕ
entry_lines [] = []
entry_lines (e ∷ es) = entry_line e ++ entry_lines es

-- the whole journal of a chapter
abbrev pub journal_text : {A : Type 0} → Trace A → List ℕ
journal_text t = head_line t.number t.history.opening ++ entry_lines t.history.entries
