-- The line of a number among lines.
use Rattle.std.proofs.Common.{◌≡◌, ℕ, ◌-◌, ◌≤◌, List, [], length, take, slice_index_or, arith}
use Rattle.std.specs.Borrow.{Bor}
use Rattle.std.proofs.lemmas.Bool.{le-leb}
use Rattle.std.proofs.lemmas.List.{length-map, take-map}
use Rattle.fleet_map.specs.Text.{words_of}
use Rattle.fleet_explain.specs.declared.line.LineFault.{LineFault}
use Rattle.fleet_explain.specs.Lines.{texts, line_fault, fault_at}

pub among : (lines : List (Bor (List ℕ))) (n : ℕ) (line : List ℕ) (r : LineFault) → 1 ≤ n → n ≤ length lines → line ≡ slice_index_or (texts lines) (n - 1) [] → r ≡ line_fault (texts (take (n - 1) lines)) (words_of line) → r ≡ fault_at (texts lines) n
among lines n line r low high is fault =
    let long = length-map lines (λ x. x.now) in
    rw (le-leb 1 n low, le-leb n (length (texts lines)) (omega (arith, long, high)), take-map (λ x. x.now) (n - 1) lines, ← is) fault
