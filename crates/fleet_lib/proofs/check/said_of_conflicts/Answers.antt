-- The lines of the conflicts.
use Rattle.std.proofs.Common.{◌≡◌, ℕ, List, ◌++◌, ap, ◌∙◌}
use Rattle.std.proofs.lemmas.Result.{IfOk-weaker}
use Rattle.fleet_conflicts.specs.declared.conflicts.Conflict.{Conflict}
use Rattle.fleet_lib.specs.Check.{good, conflicts_text}
use Rattle.fleet_lib.proofs.check.said_of_conflicts.Goals as goal

pub returns : goal.returns
returns c =
    let conflicts = c.in_ok-conflicts.conflicts.items in
    let empty = ap (λ (l : List ℕ). l ++ conflicts_text c.deref.result.now) c.new-text.ensures.bytes in
    let lines = c.in_ok-write_conflicts.ensures ∙ (empty ∙ ap (λ (l : List Conflict). conflicts_text l) c.deref.ensures.value) in
    IfOk-weaker c.invalid.result _ _
    (λ s e. (conflicts, c.in_ok-conflicts.ensures, e ∙ ap (λ (t : List ℕ). good t 6) (c.deref-2.ensures ∙ lines)))
    c.invalid.ensures
