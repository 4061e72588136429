use Rattle.std.proofs.Common.{◌∙◌, sym, subst, refl, inl, ℕ, List}
use Rattle.std.specs.Prelude.{MatchOption}
use Rattle.std.proofs.lemmas.Result.{IfOk-weaker}
use Rattle.fleet_grid.specs.Step.{IsConflictFree}
use Rattle.fleet_history.specs.declared.history.Entry.{Entry}
use Rattle.fleet_history.specs.History.{place}
use Rattle.fleet_history.specs.Legal.{Fits}
use Rattle.fleet_trace.specs.Judged.{Breaks}
use Rattle.fleet_trace.proofs.ErrandNames.{impossible}
use Rattle.fleet_trace.proofs.EntryByEntry.{as-many, tick_judged, same_tick}
use Rattle.fleet_trace.proofs.judging.broken_rule.Goals as goal

pub broken_take-requires : goal.broken_take-requires
broken_take-requires g c = (c.requires.0, c.requires.1.is)

pub returns-in-Take : goal.returns-in-Take
returns-in-Take g c = λ h of.
    let m = c.args.grid.now in
    subst (λ (e : Entry _). MatchOption c.broken_take.result (Fits m h e) (λ n. Breaks m h e n)) (sym c.in-Take.is) (c.broken_take.ensures h of.is)

pub is_step-requires : goal.is_step-requires
is_step-requires g c = (c.requires.0, c.requires.1.is)

pub returns-then-not-branch : goal.returns-then-not-branch
returns-then-not-branch g c = λ h of.
    let m = c.args.grid.now in
    subst (λ (e : Entry _). Breaks m h e 4) (sym c.in-Tick.is)
    (inl (
      refl,
      λ free. impossible (sym c.if-not-branch.true ∙ (c.in_ok-is_step-in-Tick.ensures h of.is).1
          (subst (λ (to : List ℕ). IsConflictFree m (place h) to) (sym c.as_slice-to.ensures) free)),
    ))

pub broken_shown-requires : goal.broken_shown-requires
broken_shown-requires g c =
    let k = c.requires.1.is in
    as-many c.as_slice-to.result.now k ((c.in_ok-is_step-in-Tick.ensures c.requires.0 k).0 c.if-not-branch.false)

pub returns-else-not-branch : goal.returns-else-not-branch
returns-else-not-branch g c =
    let m = c.args.grid.now in
    let to = c.as_slice-to.result.now in
    let arrived = c.as_slice-arrived.result.now in
    let farewells = c.as_slice-farewells.result.now in
    let same = same_tick to c.in-Tick.to arrived c.in-Tick.arrived farewells c.in-Tick.farewells c.args.entry.now c.as_slice-to.ensures c.as_slice-arrived.ensures c.as_slice-farewells.ensures c.in-Tick.is in
    IfOk-weaker c.broken_shown.result _ _ (λ rule shown h of.
    subst (λ (e : Entry _). MatchOption rule (Fits m h e) (λ n. Breaks m h e n)) same
    (tick_judged m h to arrived farewells ((c.in_ok-is_step-in-Tick.ensures h of.is).0 c.if-not-branch.false) rule (shown m h of.is of.same))) c.broken_shown.ensures

pub returns-in-Shut : goal.returns-in-Shut
returns-in-Shut g c = λ h of.
    let m = c.args.grid.now in
    subst (λ (e : Entry _). MatchOption c.broken_shut.result (Fits m h e) (λ n. Breaks m h e n)) (sym c.in-Shut.is) (c.broken_shut.ensures m h of.is of.same)
