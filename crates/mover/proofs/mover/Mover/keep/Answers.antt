use Rattle.std.proofs.Common.{sym, subst}
use Rattle.fleet_field.specs.Store.{Keeps}
use Rattle.mover.specs.Moving.{Mover}
use Rattle.mover.proofs.Seen.{seen-plain, seen-turns}
use Rattle.mover.proofs.mover.Mover.keep.Goals as goal
use Rattle.mover.proofs.mover.Mover.keep.Goals.{in-Plain, in-Turns}

pub returns-clause-keeps : goal.returns-clause-keeps
returns-clause-keeps g c = elim c.match-self.branch [
  | in-Plain w ↦ λ m keeps.
      let v = seen-plain c.self.inside.kind w.in-Plain.planner c.args.self.now w.in-Plain.is c.self.view_is in
      rw w.self-inside-is (w.keep.ensures.keeps m (subst (λ (q : Mover). Keeps m q.planner.kept) (sym v) keeps))
  | in-Turns w ↦ λ m keeps.
      let v = seen-turns c.self.inside.kind w.in-Turns.fleet c.args.self.now w.in-Turns.is c.self.view_is in
      rw w.self-inside-is (w.keep-in-Turns.ensures.keeps m (subst (λ (q : Mover). Keeps m q.planner.kept) (sym v) keeps))
]
