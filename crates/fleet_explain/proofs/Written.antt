-- Sentences whose parts are written one after the other.
use Rattle.std.proofs.Common.{◌≡◌, ℕ, List, ◌++◌, codes, decimal, sym, subst}
use Rattle.std.proofs.lemmas.List.{append_assoc}
use Rattle.fleet_check.specs.declared.fault.StepFault.{StepFault}
use Rattle.fleet_check.specs.declared.fault.StepFault.TheVariants as step
use Rattle.fleet_explain.specs.declared.arrival.ArrivalName.{ArrivalName}
use Rattle.fleet_explain.specs.declared.limits.LimitFault.{LimitFault}
use Rattle.fleet_explain.specs.declared.opening.StartFault.{StartFault}
use Rattle.fleet_explain.specs.declared.opening.StartFault.TheVariants as start
use Rattle.fleet_explain.specs.declared.explanation.Explanation.{Explanation}
use Rattle.fleet_explain.specs.declared.explanation.Explanation.TheVariants as explanation
use Rattle.fleet_explain.specs.Limits.{least_of, most_of, name_of}
use Rattle.fleet_explain.specs.Sentences.{cell_text, limit_text, start_text, step_text, arrival_text, letter_text, sentence}

five : (a b c d e : List ℕ) → a ++ (b ++ (c ++ (d ++ e))) ≡ a ++ b ++ c ++ d ++ e
five a b c d e = simp append_assoc

six : (a b c d e f : List ℕ) → a ++ (b ++ (c ++ (d ++ (e ++ f)))) ≡ a ++ b ++ c ++ d ++ e ++ f
six a b c d e f = simp append_assoc

seven : (a b c d e f g : List ℕ) → a ++ (b ++ (c ++ (d ++ (e ++ (f ++ g))))) ≡ a ++ b ++ c ++ d ++ e ++ f ++ g
seven a b c d e f g = simp append_assoc

pub limit_written : (f : LimitFault) (name : List ℕ) (least most : ℕ) → name ≡ name_of f.kind → least ≡ least_of f.kind → most ≡ most_of f.kind
    → name ++ (codes " is " ++ (decimal f.value ++ (codes ", which is not from " ++ (decimal least ++ (codes " to " ++ decimal most))))) ≡ limit_text f
limit_written f name least most a b d = rw (a, b, d) (seven (name_of f.kind) (codes " is ") (decimal f.value) (codes ", which is not from ") (decimal (least_of f.kind)) (codes " to ") (decimal (most_of f.kind)))

pub off_floor_written : (width : ℕ) (f : StartFault) (robot cell : ℕ) → f ≡ start.OffFloor robot cell
    → codes "in its line `robots`, robot " ++ (decimal robot ++ (codes " starts on " ++ (cell_text width cell ++ codes ", which is no floor"))) ≡ start_text width f
off_floor_written width f robot cell is =
    subst (λ (x : StartFault). codes "in its line `robots`, robot " ++ (decimal robot ++ (codes " starts on " ++ (cell_text width cell ++ codes ", which is no floor"))) ≡ start_text width x) (sym is)
    (five (codes "in its line `robots`, robot ") (decimal robot) (codes " starts on ") (cell_text width cell) (codes ", which is no floor"))

pub shared_written : (width : ℕ) (f : StartFault) (first second cell : ℕ) → f ≡ start.Shared first second cell
    → codes "in its line `robots`, robots " ++ (decimal first ++ (codes " and " ++ (decimal second ++ (codes " both start on " ++ cell_text width cell)))) ≡ start_text width f
shared_written width f first second cell is =
    subst (λ (x : StartFault). codes "in its line `robots`, robots " ++ (decimal first ++ (codes " and " ++ (decimal second ++ (codes " both start on " ++ cell_text width cell)))) ≡ start_text width x) (sym is)
    (six (codes "in its line `robots`, robots ") (decimal first) (codes " and ") (decimal second) (codes " both start on ") (cell_text width cell))

pub outside_written : (width : ℕ) (f : StartFault) (robot cell cells : ℕ) → f ≡ start.Outside robot cell cells
    → codes "in its line `robots`, robot " ++ (decimal robot ++ (codes " starts on cell " ++ (decimal cell ++ (codes ", which is outside of the map: its cells are below " ++ decimal cells)))) ≡ start_text width f
outside_written width f robot cell cells is =
    subst (λ (x : StartFault). codes "in its line `robots`, robot " ++ (decimal robot ++ (codes " starts on cell " ++ (decimal cell ++ (codes ", which is outside of the map: its cells are below " ++ decimal cells)))) ≡ start_text width x) (sym is)
    (six (codes "in its line `robots`, robot ") (decimal robot) (codes " starts on cell ") (decimal cell) (codes ", which is outside of the map: its cells are below ") (decimal cells))

pub letter_written : (e : Explanation) (row column letter : ℕ) → e ≡ explanation.Letter row column letter
    → codes "the map: row " ++ (decimal row ++ (codes ", column " ++ (decimal column ++ (codes " has " ++ (letter_text letter ++ codes ", which is no letter of a map"))))) ≡ sentence e
letter_written e row column letter is =
    subst (λ (x : Explanation). codes "the map: row " ++ (decimal row ++ (codes ", column " ++ (decimal column ++ (codes " has " ++ (letter_text letter ++ codes ", which is no letter of a map"))))) ≡ sentence x) (sym is)
    (seven (codes "the map: row ") (decimal row) (codes ", column ") (decimal column) (codes " has ") (letter_text letter) (codes ", which is no letter of a map"))

pub vertex_written : (f : StepFault) (i j : ℕ) → f ≡ step.Vertex i j → codes "robots " ++ (decimal i ++ (codes " and " ++ (decimal j ++ codes " come to one cell"))) ≡ step_text f
vertex_written f i j is =
    subst (λ (x : StepFault). codes "robots " ++ (decimal i ++ (codes " and " ++ (decimal j ++ codes " come to one cell"))) ≡ step_text x) (sym is)
    (five (codes "robots ") (decimal i) (codes " and ") (decimal j) (codes " come to one cell"))

pub swap_written : (f : StepFault) (i j : ℕ) → f ≡ step.Swap i j → codes "robots " ++ (decimal i ++ (codes " and " ++ (decimal j ++ codes " exchange their cells"))) ≡ step_text f
swap_written f i j is =
    subst (λ (x : StepFault). codes "robots " ++ (decimal i ++ (codes " and " ++ (decimal j ++ codes " exchange their cells"))) ≡ step_text x) (sym is)
    (five (codes "robots ") (decimal i) (codes " and ") (decimal j) (codes " exchange their cells"))

pub arrival_written : (d : ArrivalName) → codes "robot " ++ (decimal d.robot ++ (codes "'s with errand " ++ (decimal d.number ++ (codes " of client " ++ decimal d.client)))) ≡ arrival_text d
arrival_written d = six (codes "robot ") (decimal d.robot) (codes "'s with errand ") (decimal d.number) (codes " of client ") (decimal d.client)
