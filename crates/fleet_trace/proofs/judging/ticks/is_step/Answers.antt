use Rattle.std.proofs.Common.{sym, subst, List, ℕ}
use Rattle.fleet_grid.specs.Step.{IsPlacement}
use Rattle.fleet_history.proofs.Legal.{legal-placement}
use Rattle.fleet_trace.proofs.judging.ticks.is_step.Goals as goal

pub check_step-requires : goal.check_step-requires
check_step-requires g c =
    let k = c.requires.1 in
    subst (λ (xs : List ℕ). IsPlacement c.args.grid.now xs) (sym (c.place.ensures.of c.args.grid.now c.requires.0 k)) (legal-placement c.args.grid.now c.requires.0 k.legal)
