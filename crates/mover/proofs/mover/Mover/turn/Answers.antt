use Rattle.std.proofs.Common.{ap, sym, subst}
use Rattle.fleet_planner.specs.Aimed.{MayPlan}
use Rattle.mover.specs.Moving.{Mover}
use Rattle.mover.proofs.Seen.{seen-plain, seen-turns}
use Rattle.mover.proofs.mover.Mover.turn.Goals as goal

pub turn-requires-clause-may : goal.turn-requires-clause-may
turn-requires-clause-may g c =
    let v = seen-plain c.self.inside.kind c.in-Plain.planner c.args.self.now c.in-Plain.is c.self.view_is in
    subst (λ (q : Mover). MayPlan c.args.grid.now c.args.state.now q.planner) (sym v) c.requires.may

pub turn-requires-in-Turns-clause-may : goal.turn-requires-in-Turns-clause-may
turn-requires-in-Turns-clause-may g c =
    let v = seen-turns c.self.inside.kind c.in-Turns.fleet c.args.self.now c.in-Turns.is c.self.view_is in
    subst (λ (q : Mover). MayPlan c.args.grid.now c.args.state.now q.planner) (sym v) c.requires.may

pub turn-requires-in-Turns-clause-turns : goal.turn-requires-in-Turns-clause-turns
turn-requires-in-Turns-clause-turns g c =
    let v = seen-turns c.self.inside.kind c.in-Turns.fleet c.args.self.now c.in-Turns.is c.self.view_is in
    c.requires.turns c.in-Turns.fleet.turns (sym (ap (λ (q : Mover). q.turns) v))
