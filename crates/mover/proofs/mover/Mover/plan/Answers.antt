use Rattle.std.proofs.Common.{ap, sym, subst}
use Rattle.fleet_planner.specs.Aimed.{MayPlan}
use Rattle.mover.specs.Moving.{Mover}
use Rattle.mover.proofs.Seen.{seen-plain, seen-turns}
use Rattle.mover.proofs.mover.Mover.plan.Goals as goal

pub plan-requires-clause-may : goal.plan-requires-clause-may
plan-requires-clause-may g c =
    let v = seen-plain c.self.inside.kind c.in-Plain.planner c.args.self.now c.in-Plain.is c.self.view_is in
    subst (λ (q : Mover). MayPlan c.args.grid.now c.args.state.now q.planner) (sym v) c.requires.may

pub plan-requires-in-Turns-clause-may : goal.plan-requires-in-Turns-clause-may
plan-requires-in-Turns-clause-may g c =
    let v = seen-turns c.self.inside.kind c.in-Turns.fleet c.args.self.now c.in-Turns.is c.self.view_is in
    subst (λ (q : Mover). MayPlan c.args.grid.now c.args.state.now q.planner) (sym v) c.requires.may

pub plan-requires-in-Turns-clause-turns : goal.plan-requires-in-Turns-clause-turns
plan-requires-in-Turns-clause-turns g c =
    let v = seen-turns c.self.inside.kind c.in-Turns.fleet c.args.self.now c.in-Turns.is c.self.view_is in
    c.requires.turns c.in-Turns.fleet.turns (sym (ap (λ (q : Mover). q.turns) v))
