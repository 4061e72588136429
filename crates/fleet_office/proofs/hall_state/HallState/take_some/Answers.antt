use Rattle.std.proofs.Common.{◌≡◌, ◌<◌, ◌∙◌, refl, sym, ap, subst, arith, inl, inr}
use Rattle.std.specs.Prelude.{Err}
use Rattle.fleet_office.specs.Hall.{TakesOne, TakesOrder, TakesNone, TakesMany}
use Rattle.fleet_office.proofs.ManySteps.{as_many-order, as_many-looks, limits-order, many-more}
use Rattle.fleet_office.proofs.hall_state.HallState.take_some.Goals as goal

pub loop-taken-init : goal.loop-taken-init
loop-taken-init g c = (refl, refl, refl)

pub take_one-requires : goal.take_one-requires
take_one-requires g c = subst (λ n. c.args.client < n) (sym c.loop-taken.invariant.1) c.requires

pub loop-taken-preserved : goal.loop-taken-preserved
loop-taken-preserved g c =
    let i = c.loop-taken.invariant in
    let s = c.in-Ok-Some in
    let t : TakesOrder c.loop-taken.self c.args.client s.field-0-0 c.take_one.new.self = subst (λ r. TakesOne c.loop-taken.self c.args.client r c.take_one.new.self) s.field-0-is s.ensures.ok in (
      many-more c.loop-taken.taken c.args.self.now c.loop-taken.self c.take_one.new.self c.args.client s.field-0-0 i.0 t,
      as_many-order c.loop-taken.self c.take_one.new.self c.args.client s.field-0-0 t ∙ i.1,
      limits-order c.loop-taken.self c.take_one.new.self c.args.client s.field-0-0 t ∙ i.2,
    )

pub returns-in-Ok-None : goal.returns-in-Ok-None
returns-in-Ok-None g c =
    let i = c.loop-taken.invariant in
    let s = c.in-Ok-None in
    let t : TakesNone c.loop-taken.self c.args.client c.take_one.new.self = subst (λ r. TakesOne c.loop-taken.self c.args.client r c.take_one.new.self) s.field-0-is s.ensures.ok in
    record {
      ok = record {
        most = omega (arith, c.loop-taken-test.true, c.lane-lane.ensures.value);
        mid = c.loop-taken.self;
        takes = i.0;
        enough = inr t;
      };
      small = omega (arith, c.loop-taken-test.true, c.lane-lane.ensures.small);
      err = tt;
      small_err = tt;
      as_many = as_many-looks c.loop-taken.self c.take_one.new.self t.looks ∙ i.1;
    }

pub returns-in-Err-MailboxFull : goal.returns-in-Err-MailboxFull
returns-in-Err-MailboxFull g c =
    let i = c.loop-taken.invariant in
    let s = c.in-Err-MailboxFull in
    let full = c.take_one.ensures.mailbox_full.0 (s.is ∙ ap (λ f. Err f) s.field-0-is) in
    record {
      ok = record {
        most = omega (arith, c.loop-taken-test.true, c.lane-lane.ensures.value);
        mid = c.loop-taken.self;
        takes = i.0;
        enough = record {
          fewer = omega (arith, c.loop-taken-test.true, c.lane-lane.ensures.value, ap (λ l. l.lane) i.2);
          shows = full.0;
          full = full.1;
          looks = s.ensures.err;
        };
      };
      small = omega (arith, c.loop-taken-test.true, c.lane-lane.ensures.small);
      err = tt;
      small_err = tt;
      as_many = as_many-looks c.loop-taken.self c.take_one.new.self s.ensures.err ∙ i.1;
    }

pub returns-in-Err-ChapterFull : goal.returns-in-Err-ChapterFull
returns-in-Err-ChapterFull g c =
    let i = c.loop-taken.invariant in
    let s = c.in-Err-ChapterFull in
    let full = c.take_one.ensures.chapter_full.0 (s.is ∙ ap (λ f. Err f) s.field-0-is) in
    record {
      ok = tt;
      small = tt;
      err = record {
        fewer = omega (arith, c.loop-taken-test.true, c.lane-lane.ensures.value);
        mid = c.loop-taken.self;
        takes = i.0;
        cause = full;
        looks = s.ensures.err;
      };
      small_err = omega (arith, c.loop-taken-test.true, c.lane-lane.ensures.small);
      as_many = as_many-looks c.loop-taken.self c.take_one.new.self s.ensures.err ∙ i.1;
    }

pub returns-in-Err-NoMemory : goal.returns-in-Err-NoMemory
returns-in-Err-NoMemory g c =
    let i = c.loop-taken.invariant in
    let s = c.in-Err-NoMemory in
    record {
      ok = tt;
      small = tt;
      err = record {
        fewer = omega (arith, c.loop-taken-test.true, c.lane-lane.ensures.value);
        mid = c.loop-taken.self;
        takes = i.0;
        cause = tt;
        looks = s.ensures.err;
      };
      small_err = omega (arith, c.loop-taken-test.true, c.lane-lane.ensures.small);
      as_many = as_many-looks c.loop-taken.self c.take_one.new.self s.ensures.err ∙ i.1;
    }

pub returns : goal.returns
returns g c =
    let i = c.loop-taken.invariant in
    let all : c.loop-taken.taken ≡ c.lane-lane.result = omega (arith, c.loop-taken-test.false, c.loop-taken.auto.taken-end) in
    record {
      ok = record {
        most = omega (arith, c.lane-lane.ensures.value);
        mid = c.loop-taken.self;
        takes = subst (λ n. TakesMany n c.args.self.now c.args.client c.loop-taken.self) all i.0;
        enough = inl (c.lane-lane.ensures.value ∙ ap (λ l. l.lane) (sym i.2), refl);
      };
      small = c.lane-lane.ensures.small;
      err = tt;
      small_err = tt;
      as_many = i.1;
    }
