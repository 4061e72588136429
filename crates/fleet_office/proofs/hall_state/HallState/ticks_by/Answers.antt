use Rattle.std.proofs.Common.{ℕ, ◌≡◌, ◌++◌, List, length, take, drop, arith, ap, sym, subst, ◌∙◌}
use Rattle.std.proofs.lemmas.Grind.{common_steps}
use Rattle.fleet_office.specs.Hall.{IsLawful}
use Rattle.std.specs.List.{sum_by}
use Rattle.fleet_office.proofs.hall_state.HallState.ticks_by.Goals as goal

pub invariant_of-self : goal.invariant_of-self
invariant_of-self g c =
    let s = c.self.inside in
    subst (λ t. IsLawful g.N.OfficeName.rings g.N.OfficeName.start s.core s.ends.items t) (sym c.ticks_of_all.ensures.total) c.self.invariant

pub returns-clause-same : goal.returns-clause-same
returns-clause-same g c =
    let s = c.self.inside in
    rw (← c.self.view_is) (ap (λ t. record { world = s.core; ends = s.ends.items; total = t }) c.ticks_of_all.ensures.total)

pub ticks_of_all-requires : goal.ticks_of_all-requires
ticks_of_all-requires g c = (c.self.invariant.clock ∙ sym c.clock-clock.ensures, c.clock-clock.type_inv)

-- a list that was lent and came back as it was
handed_back : {X : Type 0} (n : ℕ) (new lent old : List X) → new ≡ lent → lent ≡ old → n ≡ length old → take n (new ++ drop (length new) old) ≡ old
handed_back n new lent old same whole size = grind (arith, common_steps)

pub returns-clause-tickers : goal.returns-clause-tickers
returns-clause-tickers g c = handed_back c.args.tickers.now.len c.ticks_of_all.new.tickers c.as_mut_slice.result.now c.args.tickers.now.items c.ticks_of_all.ensures.tickers c.as_mut_slice.ensures.value c.args.tickers.now.ok.0

pub returns-clause-value : goal.returns-clause-value
returns-clause-value g c = c.ticks_of_all.ensures.value ∙ ap (sum_by (λ t. t.count)) c.as_mut_slice.ensures.value

pub returns-clause-bound : goal.returns-clause-bound
returns-clause-bound g c = rw (← c.self.view_is) (omega (arith, c.ticks_of_all.ensures.bound, c.self.invariant.clock))

pub returns-clause-whole : goal.returns-clause-whole
returns-clause-whole g c all =
    let whole : c.ticks_of_all.result ≡ c.clock-clock.result = c.ticks_of_all.ensures.whole (ap (sum_by (λ t. t.parts)) c.as_mut_slice.ensures.value ∙ all) in
    rw (← c.self.view_is) (whole ∙ c.clock-clock.ensures)
