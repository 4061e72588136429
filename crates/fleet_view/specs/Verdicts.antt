-- What the judge says of chapters on a map.
use Rattle.std.specs.Prelude.{ℕ, List, [], ◌∷◌, ◌++◌, codes, decimal}
use Rattle.std.specs.List.{flat_map}
use Rattle.fleet_map.specs.Grammar.{Map}
use Rattle.fleet_grid.specs.Floor.{Floor, floor_of_map}
use Rattle.fleet_history.specs.History.{History}
use Rattle.fleet_history.specs.Legal.{IsLegal}
use Rattle.fleet_trace.specs.Judged.{IsFirstIllegal}
use Rattle.fleet_trace.specs.Trace.{Trace}
use Rattle.fleet_view.specs.declared.verdict.ChapterVerdict.{ChapterVerdict}
use Rattle.fleet_view.specs.declared.verdict.ChapterVerdict.TheVariants.{Legal, Illegal}

-- the judge's verdict on a history
abbrev pub IsVerdictOn : {A : Type 0} → Floor → History A → ChapterVerdict → Type 0
IsVerdictOn m h Legal = IsLegal m h
IsVerdictOn m h (Illegal at rule) = IsFirstIllegal m h at rule

-- a verdict for each trace, in order
abbrev pub AreVerdicts : {A : Type 0} → Floor → List (Trace A) → List ChapterVerdict → Type 0
AreVerdicts m [] [] = Unit {0}
AreVerdicts m (t ∷ ts) (v ∷ vs) = IsVerdictOn m t.history v × AreVerdicts m ts vs
AreVerdicts m [] (v ∷ vs) = ⊥
AreVerdicts m (t ∷ ts) [] = ⊥

-- a verdict's line
abbrev pub verdict_text : ChapterVerdict → List ℕ
verdict_text Legal = codes "legal\n"
verdict_text (Illegal at rule) = codes "illegal " ++ decimal at ++ codes " " ++ decimal rule ++ codes "\n"

-- a line for each verdict
abbrev pub verdicts_text : List ChapterVerdict → List ℕ
verdicts_text vs = flat_map verdict_text vs
