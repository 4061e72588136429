-- The state at an opening, from its robots and its clients.
use Rattle.std.proofs.Common.{refl}
use Rattle.std.proofs.lemmas.Result.{IfOk-from_err}
use Rattle.fleet_history.specs.History.{start}
use Rattle.fleet_state.proofs.Opened.{opened-is}
use Rattle.fleet_state.proofs.NextOpening.{opened-next}
use Rattle.fleet_state.proofs.state.FleetState.open_within.Goals as goal

pub invariant_of-result : goal.invariant_of-result
invariant_of-result g c = record {
  floor = c.requires.order.0;
  history = start c.args.opening.now;
  is = rw (c.in_ok-open.ensures, c.in_ok-open-2.ensures, c.as_slice.ensures, c.deref.ensures.value) (opened-is c.requires.order.1 c.args.rooms.items);
}

pub returns-clause-of : goal.returns-clause-of
returns-clause-of g c m i = rw (c.in_ok-open.ensures, c.in_ok-open-2.ensures, c.as_slice.ensures, c.deref.ensures.value) (opened-is i c.args.rooms.items)

pub returns-clause-goes_on : goal.returns-clause-goes_on
returns-clause-goes_on g c m h legal e = rw (c.in_ok-open.ensures, c.in_ok-open-2.ensures, c.as_slice.ensures, c.deref.ensures.value) (opened-next c.requires.order.1 c.args.rooms.items m h legal e)

pub open-requires : goal.open-requires
open-requires g c = rw (c.as_slice.ensures, c.deref.ensures.value) c.requires.rooms

pub open-requires-2 : goal.open-requires-2
open-requires-2 g c = c.requires.order

pub returns-clause-rooms : goal.returns-clause-rooms
returns-clause-rooms g c = refl

pub returns-in_err-open-clause-of : goal.returns-in_err-open-clause-of
returns-in_err-open-clause-of g c = IfOk-from_err c.from_residual.result _ c.from_residual.ensures.0

pub returns-in_err-open-clause-goes_on : goal.returns-in_err-open-clause-goes_on
returns-in_err-open-clause-goes_on g c = IfOk-from_err c.from_residual.result _ c.from_residual.ensures.0

pub returns-in_err-open-clause-rooms : goal.returns-in_err-open-clause-rooms
returns-in_err-open-clause-rooms g c = IfOk-from_err c.from_residual.result _ c.from_residual.ensures.0

pub returns-in_err-open-2-clause-of : goal.returns-in_err-open-2-clause-of
returns-in_err-open-2-clause-of g c = IfOk-from_err c.from_residual-in_err-open-2.result _ c.from_residual-in_err-open-2.ensures.0

pub returns-in_err-open-2-clause-goes_on : goal.returns-in_err-open-2-clause-goes_on
returns-in_err-open-2-clause-goes_on g c = IfOk-from_err c.from_residual-in_err-open-2.result _ c.from_residual-in_err-open-2.ensures.0

pub returns-in_err-open-2-clause-rooms : goal.returns-in_err-open-2-clause-rooms
returns-in_err-open-2-clause-rooms g c = IfOk-from_err c.from_residual-in_err-open-2.result _ c.from_residual-in_err-open-2.ensures.0
