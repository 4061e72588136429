-- The next order is taken, where there is room for it.
use Rattle.std.proofs.Common.{◌<◌, ap, refl, rules, subst, sym}
use Rattle.std.proofs.lemmas.Result.{err_from_is_err_and}
use Rattle.fleet_history.specs.History.{clients}
use Rattle.fleet_office.proofs.Never.{not_refused, not_full, not_held}
use Rattle.fleet_office.proofs.taking.take_left_from.Goals as goal

pub returns-in_err-make_room : goal.returns-in_err-make_room
returns-in_err-make_room g c =
    let p = err_from_is_err_and c.from_residual.result c.from_residual.ensures.1 in
    rw (p.1, p.2) record { ok = tt; full = λ e. not_full e; err = (c.make_room.ensures.widens, refl); room = λ e. not_held e }

pub take-requires : goal.take-requires
take-requires g c = subst (λ n. c.args.client < n) (sym (ap (λ w. clients w.history) c.make_room.ensures.widens.world)) c.requires.client

pub returns-clause-ok : goal.returns-clause-ok
returns-clause-ok g c = (
  record {
    wide = c.make_room.new.core;
    widens = c.make_room.ensures.widens;
    order = c.peek_known-order.result;
    verdict = c.in_ok-take.field-0;
    takes = c.in_ok-take.ensures.ok;
  },
  search rules,
  search rules,
)

pub returns-clause-full : goal.returns-clause-full
returns-clause-full g c = λ e. not_refused e

pub returns-clause-room : goal.returns-clause-room
returns-clause-room g c = λ e. not_refused e
