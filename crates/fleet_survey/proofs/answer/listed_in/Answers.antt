use Rattle.std.proofs.Common.{◌≡◌, ◌∙◌, List, ℕ, length, sym, subst}
use Rattle.fleet_bridge.specs.Roominess.{AreRoomyFor}
use Rattle.fleet_survey.specs.Survey.{IsGreatestFor}
use Rattle.fleet_survey.proofs.answer.listed_in.Goals as goal

pub roomy_for-requires-clause-numbers : goal.roomy_for-requires-clause-numbers
roomy_for-requires-clause-numbers c = subst (λ (xs : List ℕ). AreRoomyFor c.args.grid.now xs) (sym c.deref.ensures.value) c.requires

pub returns-clause-listed : goal.returns-clause-listed
returns-clause-listed c =
    let cells = c.in_ok-cells.cells in
    let count : c.len.result ≡ length cells.items = c.len.ensures ∙ cells.ok.0 in
    record { cells = cells.items; read = c.in_ok-cells.ensures.cells; count = count; greatest = subst (λ (xs : List ℕ). IsGreatestFor c.args.grid.now xs c.roomy_for.result) c.deref-2.ensures.value c.roomy_for.ensures }
