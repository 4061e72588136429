-- The opening and the state at it.
use Rattle.std.proofs.lemmas.Result.{IfOk-from_err}
use Rattle.fleet_history.specs.declared.history.Opening.{Opening}
use Rattle.fleet_history.specs.History.{start}
use Rattle.fleet_history.specs.Legal.{IsInOrder}
use Rattle.fleet_history.proofs.Legal.{legal-opening}
use Rattle.fleet_core.specs.Core.{opening_of}
use Rattle.fleet_core.proofs.OpeningFacts.{legal-opened}
use Rattle.fleet_core.proofs.opening.opened.Goals as goal

pub opening_at-requires : goal.opening_at-requires
opening_at-requires g c = c.requires.1.hooks

pub open-requires : goal.open-requires
open-requires g c =
    let m = c.requires.0 in
    let o : Opening g.row.A.Denot = opening_of c.args.starts.now c.args.clients c.args.limits c.args.laws.now in
    let i : IsInOrder m o = legal-opening m (start o) (legal-opened m c.args.starts.now c.args.clients c.args.limits c.args.laws.now c.requires.1 c.in_ok-opening.ensures.orderly) in
    record {
      order = (m, rw c.in_ok-opening.ensures.ok i);
      room = rw c.in_ok-opening.ensures.ok (λ k d l. (i.robots k d l).room);
    }

pub returns-in_err-opening : goal.returns-in_err-opening
returns-in_err-opening g c = IfOk-from_err c.from_residual.result _ c.from_residual.ensures.0

pub returns-in_err-state : goal.returns-in_err-state
returns-in_err-state g c = IfOk-from_err c.from_residual-in_err-state.result _ c.from_residual-in_err-state.ensures.0

pub returns : goal.returns
returns g c = record {
  opening = c.in_ok-opening.ensures.ok;
  orderly = c.in_ok-opening.ensures.orderly;
  of = c.in_ok-state.ensures.of;
  full = c.in_ok-state.ensures.full;
}
