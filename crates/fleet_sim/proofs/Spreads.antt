-- The cells of columns, one column after the other.
use Rattle.std.proofs.Common.{◌≡◌, ◌∙◌, ◌+◌, ℕ, ◌<◌, ◌≤◌, List, [], ◌∷◌, ◌++◌, Result, Ok, Err, length, get_or, drop, sym, ap}
use Rattle.std.proofs.lemmas.List.{append_assoc, append-nil, drop_more, drop_all}
use Rattle.std.specs.Prelude.{is_ok, OnOk, if◌then◌else◌}
use Rattle.fleet_sim.specs.declared.cell.Cell.{Cell}
use Rattle.fleet_sim.specs.declared.column.Column.{Column}
use Rattle.fleet_sim.specs.declared.run.Run.{Run}
use Rattle.fleet_sim.specs.Table.{AreSpreads, IsSpread, values_of}

-- what is written of the columns that are left completes what is written of all
abbrev pub Completes : List Column → List Run → List Cell → List Column → List Cell → Type 0
Completes cs runs fn left cells = (rest : List Cell) → AreSpreads left runs rest → (all : List Cell) × AreSpreads cs runs all × (fn ++ all ≡ cells ++ rest)

-- the cells of one more column
abbrev pub IsMore : Column → List Run → List Cell → List Cell → Type 0
IsMore x runs old more = (mean : Cell) × (deviation : Cell) × IsSpread (values_of x runs) mean deviation × (more ≡ old ++ mean ∷ deviation ∷ [])

pub next : (cs : List Column) (i : ℕ) (d x : Column) (runs : List Run) (fn old more : List Cell) → i < length cs → get_or cs i d ≡ x → IsMore x runs old more → Completes cs runs fn (drop i cs) old → Completes cs runs fn (drop (i + 1) cs) more
next cs i d x runs fn old more less is made before =
    let split : drop i cs ≡ x ∷ drop (i + 1) cs = drop_more cs i d less ∙ ap (λ (y : Column). y ∷ drop (i + 1) cs) is in
    λ rest h.
    let found = before (made.0 ∷ made.1 ∷ rest) (rw split (made.2, h)) in
    (found.0, found.1, found.2 ∙ sym (append_assoc old (made.0 ∷ made.1 ∷ []) rest) ∙ ap (λ (some : List Cell). some ++ rest) (sym made.3))

pub finished : (cs : List Column) (i : ℕ) (runs : List Run) (fn cells : List Cell) → length cs ≤ i → Completes cs runs fn (drop i cs) cells → (all : List Cell) × AreSpreads cs runs all × (cells ≡ fn ++ all)
finished cs i runs fn cells past before =
    let none : drop i cs ≡ [] = drop_all i cs past in
    let found = before [] (rw none tt) in
    (found.0, found.1, sym (append-nil cells) ∙ sym found.2)

-- what a call adds where it succeeds
pub added : {X E : Type 0} (r : Result X E) (ys xs zs : List Cell) → ys ≡ (if is_ok r then xs else zs) → OnOk r (ys ≡ xs)
added (Ok x) ys xs zs e = e
added (Err f) ys xs zs e = tt
