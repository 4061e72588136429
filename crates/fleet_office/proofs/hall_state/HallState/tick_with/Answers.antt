use Rattle.std.proofs.Common.{◌≤◌, arith, refl, sym, subst}
use Rattle.fleet_office.specs.Hall.{IsLawful}
use Rattle.fleet_office.proofs.Laws.{lawful_tick}
use Rattle.fleet_office.proofs.hall_state.HallState.tick_with.Goals as goal

pub count_tick-requires : goal.count_tick-requires
count_tick-requires g c =
    let i = c.self.invariant in
    omega (arith, c.in_ok-report.ensures.early, i.clock, i.valid.clock.1)

pub invariant_of-self-2 : goal.invariant_of-self-2
invariant_of-self-2 g c =
    let s = c.self.inside in
    let t = c.in_ok-report.ensures.ok in
    subst (λ x. IsLawful g.N.OfficeName.rings g.N.OfficeName.start x s.ends.items c.count_tick.new.book.total) (sym t.world)
    (lawful_tick g.N.OfficeName.rings g.N.OfficeName.start s.core s.ends.items s.book.total c.count_tick.new.book.total t.to t.arrived t.farewells t.fits c.count_tick.ensures.book c.self.invariant)

pub returns : goal.returns
returns g c =
    let e = c.in_ok-report.ensures in
    let k = c.count_tick.ensures in
    let few : c.count_tick.new.self.count ≤ c.in_ok-report.report.tick = omega (arith, k.bound, k.book, c.self.invariant.clock, e.ok.tick) in
    rw (← c.self.view_is)
    record {
      ok = (record { ticks = e.ok; ends = refl; total = k.book }, k.ticker, few);
      clock_spent = e.clock_spent;
      chapter_full = e.chapter_full;
      early = e.early;
      entries = e.entries;
      err = tt;
    }

pub invariant_of-self : goal.invariant_of-self
invariant_of-self g c =
    let s = c.self.inside in
    subst (λ x. IsLawful g.N.OfficeName.rings g.N.OfficeName.start x s.ends.items s.book.total) (sym c.in_err-report.ensures.err) c.self.invariant
