use Rattle.std.proofs.Common.{ap, sym, subst}
use Rattle.fleet_planner.specs.Aimed.{MayBegin}
use Rattle.mover.specs.Moving.{Mover}
use Rattle.mover.proofs.Seen.{seen-plain, seen-turns}
use Rattle.mover.proofs.mover.Mover.begin.Goals as goal
use Rattle.mover.proofs.mover.Mover.begin.Goals.{in-Plain, in-Turns}

pub begin-requires : goal.begin-requires
begin-requires g c =
    let v = seen-plain c.self.inside.kind c.in-Plain.planner c.args.self.now c.in-Plain.is c.self.view_is in
    subst (λ (q : Mover). MayBegin c.args.grid.now c.args.state.now q.planner c.args.order c.args.verdict) (sym v) c.requires.may

pub begin-requires-in-Turns-clause-may : goal.begin-requires-in-Turns-clause-may
begin-requires-in-Turns-clause-may g c =
    let v = seen-turns c.self.inside.kind c.in-Turns.fleet c.args.self.now c.in-Turns.is c.self.view_is in
    subst (λ (q : Mover). MayBegin c.args.grid.now c.args.state.now q.planner c.args.order c.args.verdict) (sym v) c.requires.may

pub begin-requires-in-Turns-clause-turns : goal.begin-requires-in-Turns-clause-turns
begin-requires-in-Turns-clause-turns g c =
    let v = seen-turns c.self.inside.kind c.in-Turns.fleet c.args.self.now c.in-Turns.is c.self.view_is in
    c.requires.turns c.in-Turns.fleet.turns (sym (ap (λ (q : Mover). q.turns) v))

pub returns-clause-on : goal.returns-clause-on
returns-clause-on g c = elim c.match-self.branch [
  | in-Plain w ↦ rw w.self-inside-is w.begin.ensures.on
  | in-Turns w ↦ rw w.self-inside-is w.begin-in-Turns.ensures.on
]

pub returns-clause-keeps : goal.returns-clause-keeps
returns-clause-keeps g c = elim c.match-self.branch [
  | in-Plain w ↦ rw w.self-inside-is w.begin.ensures.keeps
  | in-Turns w ↦ rw w.self-inside-is w.begin-in-Turns.ensures.keeps
]
