-- One more placement, free of faults or not.
use Rattle.std.proofs.Common.{◌≡◌, ◌≤◌, ℕ, ◌+◌, List, Option, None, Some, refl, ap, ◌∙◌, sym, subst}
use Rattle.std.specs.Option.{MatchOption}
use Rattle.fleet_grid.specs.Step.{IsConflictFree}
use Rattle.fleet_check.specs.Fault.{IsFirstFault}
use Rattle.fleet_check.specs.declared.fault.StepFault.{StepFault}
use Rattle.fleet_plans.specs.declared.judging.PlanFault.{PlanFault}
use Rattle.fleet_plans.specs.Judge.{Judged}
use Rattle.fleet_plans.specs.Valid.{fault_between}
use Rattle.fleet_plans.proofs.Judgings.{judged_at_fault, judged_free, known}
use Rattle.fleet_plans.proofs.judge.PlanJudge.take_next.Goals as goal

pub returns-clause-taken : goal.returns-clause-taken
returns-clause-taken g c = λ m places was.
    let is = c.self.inside in
    let old : Judged = record { floor = is.grid.now; count = is.count; first = is.first.items; last = is.last.items; costs = is.costs.items; fault = is.fault; kept = is.kept } in
    let new : Judged = record { floor = is.grid.now; count = is.count + 1; first = is.first.items; last = c.step.new.last.items; costs = c.step.new.costs.items; fault = is.fault; kept = c.keep.new.kept } in
    let place = c.args.place.now in
    let none : is.fault ≡ None = ap (λ (j : Judged). j.fault) c.self.view_is ∙ c.requires.faultless in
    let some : 1 ≤ is.count = subst (λ (n : ℕ). 1 ≤ n) (sym (ap (λ (j : Judged). j.count) c.self.view_is)) c.requires.later in
    let free : IsConflictFree is.grid.now is.last.items place =
    subst (λ (from : List ℕ). IsConflictFree is.grid.now from place) c.deref.ensures.value
    (subst (λ (o : Option StepFault). MatchOption o (IsConflictFree is.grid.now c.deref.result.now place) (λ f. IsFirstFault is.grid.now c.deref.result.now place f)) c.in_default.is c.in_ok-found.ensures) in
    judged_free m places place old new (known m places old c.args.self.now c.self.view_is was) refl refl c.in_ok-keep.ensures.added some none none refl c.step.ensures.last free c.step.ensures.count c.step.ensures.costs

pub returns-in-Some-clause-taken : goal.returns-in-Some-clause-taken
returns-in-Some-clause-taken g c = λ m places was.
    let is = c.self.inside in
    let old : Judged = record { floor = is.grid.now; count = is.count; first = is.first.items; last = is.last.items; costs = is.costs.items; fault = is.fault; kept = is.kept } in
    let f : PlanFault = fault_between is.count c.in-Some.fault is.last.items c.args.place.now in
    let new : Judged = record { floor = is.grid.now; count = is.count + 1; first = is.first.items; last = is.last.items; costs = is.costs.items; fault = Some c.fault_between.result; kept = c.keep.new.kept } in
    let place = c.args.place.now in
    let none : is.fault ≡ None = ap (λ (j : Judged). j.fault) c.self.view_is ∙ c.requires.faultless in
    let some : 1 ≤ is.count = subst (λ (n : ℕ). 1 ≤ n) (sym (ap (λ (j : Judged). j.count) c.self.view_is)) c.requires.later in
    let first : IsFirstFault is.grid.now c.deref.result.now place c.in-Some.fault =
    subst (λ (o : Option StepFault). MatchOption o (IsConflictFree is.grid.now c.deref.result.now place) (λ f. IsFirstFault is.grid.now c.deref.result.now place f)) c.in-Some.is c.in_ok-found.ensures in
    let its : c.fault_between.result ≡ f = c.fault_between.ensures ∙ ap (λ (from : List ℕ). fault_between is.count c.in-Some.fault from place) c.deref-in-Some.ensures.value in
    let there : IsFirstFault is.grid.now is.last.items place c.in-Some.fault =
    subst (λ (from : List ℕ). IsFirstFault is.grid.now from place c.in-Some.fault) c.deref.ensures.value first in
    judged_at_fault m places place old new (known m places old c.args.self.now c.self.view_is was) refl refl c.in_ok-keep.ensures.added f some none (ap (λ (x : PlanFault). Some x) its) refl there refl refl
