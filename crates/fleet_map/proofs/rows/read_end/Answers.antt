-- The fault of a line that is not blank.
use Rattle.std.proofs.Common.{◌≡◌, false, refl, sym, ◌∙◌, rules, tests}
use Rattle.fleet_map.specs.Text.{trimmed, is_empty}
use Rattle.fleet_map.specs.Grammar.{end_at}
use Rattle.fleet_map.proofs.rows.read_end.Goals as goal

pub returns-then-not-is_empty : goal.returns-then-not-is_empty
unfolding end_at
returns-then-not-is_empty c =
    let full : is_empty (trimmed c.in-Some.line.now) ≡ false = search (tests, rules) in
    sym c.loop-line.invariant.rest ∙ rw (c.in-Some.ensures.cut, full) refl
