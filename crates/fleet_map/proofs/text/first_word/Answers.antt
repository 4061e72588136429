-- The cut of a line's last word.
use Rattle.std.proofs.Common.{◌≡◌, length, sym, ◌∙◌, arith, false-eqb}
use Rattle.fleet_map.proofs.TextLemmas.{words_last}
use Rattle.fleet_map.proofs.text.first_word.Goals as goal

pub returns-in-None-clause-cut : goal.returns-in-None-clause-cut
returns-in-None-clause-cut c =
    let line = c.from_word-line.result.now in
    let full : length line ≡ 0 → ⊥ = false-eqb (length line) 0 c.if-is_empty.ensures in
    sym c.from_word-line.ensures.words ∙ words_last line (omega arith) (sym c.in-None.ensures)
