-- The text of the page.
use Rattle.std.specs.Prelude.{ℕ, zero, suc, List, [], ◌++◌, codes, take, drop}
use Rattle.std.specs.List.{flat_map}
use Rattle.fleet_map.specs.Grammar.{Map}
use Rattle.fleet_trace.specs.Trace.{Trace}
use Rattle.fleet_trace.specs.Text.{trace_text}
use Rattle.fleet_view.specs.declared.frame.TheConstants.{HEAD, VERDICTS, TRACES}
use Rattle.fleet_view.specs.declared.script.TheConstants.{TAIL}
use Rattle.fleet_view.specs.declared.ending.TheConstants.{END}
use Rattle.fleet_view.specs.declared.verdict.ChapterVerdict.{ChapterVerdict}
use Rattle.fleet_view.specs.Verdicts.{verdicts_text}

-- n rows of this width, a line each
abbrev pub rows_text : ℕ → ℕ → List ℕ → List ℕ
rows_text zero width cells = []
rows_text (suc rows) width cells = take width cells ++ codes "\n" ++ rows_text rows width (drop width cells)

-- the rows of a map
abbrev pub map_text : Map → List ℕ
map_text m = rows_text m.height m.width m.cells

-- the text of each trace, a line each
abbrev pub chapters_text : {A : Type 0} → List (Trace A) → List ℕ
chapters_text ts = flat_map (λ t. trace_text t ++ codes "\n") ts

-- the page of a map and of traces on it, with these verdicts
abbrev pub page_text : {A : Type 0} → Map → List ChapterVerdict → List (Trace A) → List ℕ
page_text m vs ts = HEAD.now ++ map_text m ++ VERDICTS.now ++ verdicts_text vs ++ TRACES.now ++ chapters_text ts ++ TAIL.now ++ END.now
