-- The tables once the other robot stays.
use Rattle.std.proofs.Common.{ℕ, List, Option, Some, slice_set, ap, ◌∙◌}
use Rattle.fleet_pibt.proofs.board.Board.hand_back.Goals as goal

pub returns-clause-target : goal.returns-clause-target
returns-clause-target g c = c.reserve.ensures.target ∙ ap (λ (xs : List (Option ℕ)). slice_set xs c.args.other (Some c.args.cell)) c.clear.ensures

pub returns-clause-holder : goal.returns-clause-holder
returns-clause-holder g c = c.reserve.ensures.holder
