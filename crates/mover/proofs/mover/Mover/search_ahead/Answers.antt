use Rattle.std.proofs.Common.{◌∙◌, ap, sym, subst}
use Rattle.fleet_field.specs.Store.{Keeps}
use Rattle.fleet_planner.proofs.Refused.{all_err, on_err_map}
use Rattle.mover.specs.Moving.{Mover}
use Rattle.mover.specs.inside.Turning.{TurnFleet, moved}
use Rattle.mover.proofs.Seen.{plain, seen-plain, seen-turns}
use Rattle.mover.proofs.mover.Mover.search_ahead.Goals as goal
use Rattle.mover.proofs.mover.Mover.search_ahead.Goals.{in-Plain, in-Turns}

pub returns-clause-turns : goal.returns-clause-turns
returns-clause-turns g c = elim c.match-self.branch [
  | in-Plain w ↦ rw w.self-inside-is (ap (λ (q : Mover). q.turns) (seen-plain c.self.inside.kind w.in-Plain.planner c.args.self.now w.in-Plain.is c.self.view_is))
  | in-Turns w ↦ rw w.self-inside-is (ap (λ (q : Mover). q.turns) (ap moved w.search_ahead-in-Turns.ensures ∙ seen-turns c.self.inside.kind w.in-Turns.fleet c.args.self.now w.in-Turns.is c.self.view_is))
]

pub returns-clause-aims : goal.returns-clause-aims
returns-clause-aims g c = elim c.match-self.branch [
  | in-Plain w ↦ rw w.self-inside-is (w.search_ahead.ensures.aims ∙ ap (λ (q : Mover). q.planner.aims) (seen-plain c.self.inside.kind w.in-Plain.planner c.args.self.now w.in-Plain.is c.self.view_is))
  | in-Turns w ↦ rw w.self-inside-is (ap (λ (q : Mover). q.planner.aims) (ap moved w.search_ahead-in-Turns.ensures ∙ seen-turns c.self.inside.kind w.in-Turns.fleet c.args.self.now w.in-Turns.is c.self.view_is))
]

pub returns-clause-size : goal.returns-clause-size
returns-clause-size g c = elim c.match-self.branch [
  | in-Plain w ↦ rw w.self-inside-is (w.search_ahead.ensures.size ∙ ap (λ (q : Mover). q.planner.size) (seen-plain c.self.inside.kind w.in-Plain.planner c.args.self.now w.in-Plain.is c.self.view_is))
  | in-Turns w ↦ rw w.self-inside-is (ap (λ (q : Mover). q.planner.size) (ap moved w.search_ahead-in-Turns.ensures ∙ seen-turns c.self.inside.kind w.in-Turns.fleet c.args.self.now w.in-Turns.is c.self.view_is))
]

pub returns-clause-bridge : goal.returns-clause-bridge
returns-clause-bridge g c = elim c.match-self.branch [
  | in-Plain w ↦ rw w.self-inside-is (w.search_ahead.ensures.bridge ∙ ap (λ (q : Mover). q.planner.bridgeless) (seen-plain c.self.inside.kind w.in-Plain.planner c.args.self.now w.in-Plain.is c.self.view_is))
  | in-Turns w ↦ rw w.self-inside-is (ap (λ (q : Mover). q.planner.bridgeless) (ap moved w.search_ahead-in-Turns.ensures ∙ seen-turns c.self.inside.kind w.in-Turns.fleet c.args.self.now w.in-Turns.is c.self.view_is))
]

pub returns-clause-keeps : goal.returns-clause-keeps
returns-clause-keeps g c = elim c.match-self.branch [
  | in-Plain w ↦ rw w.self-inside-is (w.search_ahead.ensures.keeps)
  | in-Turns w ↦ rw w.self-inside-is (subst (λ (q : Mover). Keeps c.args.grid.now q.planner.kept) (sym (ap moved w.search_ahead-in-Turns.ensures ∙ seen-turns c.self.inside.kind w.in-Turns.fleet c.args.self.now w.in-Turns.is c.self.view_is)) c.requires)
]

pub returns-clause-refused : goal.returns-clause-refused
returns-clause-refused g c = elim c.match-self.branch [
  | in-Plain w ↦ rw (w.self-inside-is, w.result-is) (on_err_map w.search_ahead.result (λ e. ap plain e ∙ seen-plain c.self.inside.kind w.in-Plain.planner c.args.self.now w.in-Plain.is c.self.view_is) w.search_ahead.ensures.refused)
  | in-Turns w ↦ rw (w.self-inside-is, w.result-is) (all_err w.search_ahead-in-Turns.result (ap moved w.search_ahead-in-Turns.ensures ∙ seen-turns c.self.inside.kind w.in-Turns.fleet c.args.self.now w.in-Turns.is c.self.view_is))
]
