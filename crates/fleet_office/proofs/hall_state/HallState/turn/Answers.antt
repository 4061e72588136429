use Rattle.std.proofs.Common.{◌≡◌, arith, length, refl, sym, subst, inl, inr}
use Rattle.fleet_office.specs.inside.Causes.{cause_of}
use Rattle.fleet_office.specs.Hall.{given_count, TakesFirst, IsTickCause}
use Rattle.fleet_office.proofs.Counted.{first-given, ticks-given}
use Rattle.fleet_office.proofs.TurnSteps.{cause-met}
use Rattle.fleet_office.proofs.hall_state.HallState.turn.Goals as goal

pub overflow_add-result : goal.overflow_add-result
overflow_add-result g c =
    let first = c.give_all-given in
    let more = c.give_all-more in
    let taken : given_count c.take_all.new.self ≡ given_count first.new.self = first-given (length first.new.self.ends) first.new.self c.take_all.new.self c.in-Ok.counts.0 c.in-Ok.counts.1 c.in-Ok.ensures.ok in
    let ticked : given_count c.tick_with.new.self ≡ given_count c.take_all.new.self = ticks-given c.take_all.new.self c.tick_with.new.self c.in-Ok-tick_with.report c.in-Ok-tick_with.ensures.ok.0 in
    omega (arith, first.ensures.counted, more.ensures.counted, more.ensures.few, taken, ticked)

pub returns-in-Ok-tick_with-clause-given : goal.returns-in-Ok-tick_with-clause-given
returns-in-Ok-tick_with-clause-given g c =
    let first = c.give_all-given in
    let more = c.give_all-more in
    let taken : given_count c.take_all.new.self ≡ given_count first.new.self = first-given (length first.new.self.ends) first.new.self c.take_all.new.self c.in-Ok.counts.0 c.in-Ok.counts.1 c.in-Ok.ensures.ok in
    let ticked : given_count c.tick_with.new.self ≡ given_count c.take_all.new.self = ticks-given c.take_all.new.self c.tick_with.new.self c.in-Ok-tick_with.report c.in-Ok-tick_with.ensures.ok.0 in
    omega (arith, first.ensures.counted, more.ensures.counted, taken, ticked)

pub returns-in-Err : goal.returns-in-Err
returns-in-Err g c = record {
  ok = tt;
  given = tt;
  ticker = tt;
  err = rw c.so_far.ensures record {
    given = c.give_all-given.new.self;
    gives = c.give_all-given.ensures.all;
    stops = inl c.in-Err.ensures.err;
    none_arrived = refl;
    no_tick = refl;
  };
  kept = refl;
}

pub returns-in-Ok-tick_with-clause-ok : goal.returns-in-Ok-tick_with-clause-ok
returns-in-Ok-tick_with-clause-ok g c =
    let first = c.give_all-given in
    let more = c.give_all-more in
    let n = c.in-Ok.counts in
    record {
      given = first.new.self;
      first = first.result;
      gives = first.ensures.all;
      taken = c.take_all.new.self;
      takes = subst (λ k. TakesFirst k first.new.self n.0 n.1 c.take_all.new.self) first.ensures.as_many c.in-Ok.ensures.ok;
      ticked = c.tick_with.new.self;
      tick = c.in-Ok-tick_with.report;
      ticks = c.in-Ok-tick_with.ensures.ok.0;
      last = more.result;
      gives_again = more.ensures.all;
      count = refl;
      arrived = refl;
      shown = refl;
    }

pub returns-in-Ok-tick_with-clause-ticker : goal.returns-in-Ok-tick_with-clause-ticker
returns-in-Ok-tick_with-clause-ticker g c = let t = c.in-Ok-tick_with.ensures.ok in (t.1, t.2)

pub returns-in-Ok-tick_with-clause-err : goal.returns-in-Ok-tick_with-clause-err
returns-in-Ok-tick_with-clause-err g c = tt

pub returns-in-Ok-tick_with-clause-kept : goal.returns-in-Ok-tick_with-clause-kept
returns-in-Ok-tick_with-clause-kept g c = tt

pub returns-in-Err-tick_with : goal.returns-in-Err-tick_with
returns-in-Err-tick_with g c =
    let first = c.give_all-given in
    let n = c.in-Ok.counts in
    let t = c.in-Err-tick_with in
    let g0 = c.take_all.new.self in
    let same = t.ensures.err.0 in
    let takes = subst (λ k. TakesFirst k first.new.self n.0 n.1 g0) first.ensures.as_many c.in-Ok.ensures.ok in
    let cause = cause-met g0 t.fault c.tick_with.result t.is c.tick_with.ensures.clock_spent c.tick_with.ensures.chapter_full in
    record {
      ok = tt;
      given = tt;
      ticker = tt;
      err = rw (c.so_far-in-Err-tick_with.ensures, c.cause_of.ensures) record {
        given = first.new.self;
        gives = first.ensures.all;
        stops = inr (subst (λ x. TakesFirst (length c.args.self.now.ends) first.new.self n.0 n.1 x × IsTickCause x (cause_of t.fault)) (sym same) (takes, cause));
        none_arrived = refl;
        no_tick = refl;
      };
      kept = t.ensures.err.1;
    }
