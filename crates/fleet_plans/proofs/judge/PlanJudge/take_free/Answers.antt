-- One more placement, which is free of faults.
use Rattle.std.proofs.Common.{◌≡◌, ◌≤◌, ℕ, ◌+◌, List, None, refl, ap, ◌∙◌, sym, subst}
use Rattle.fleet_grid.specs.Floor.{Floor}
use Rattle.fleet_grid.specs.Step.{IsConflictFree}
use Rattle.fleet_plans.specs.Judge.{Judged}
use Rattle.fleet_plans.proofs.Judgings.{judged_free, known}
use Rattle.fleet_plans.proofs.judge.PlanJudge.take_free.Goals as goal

pub returns-clause-taken : goal.returns-clause-taken
returns-clause-taken g c = λ m places was.
    let is = c.self.inside in
    let old : Judged = record { floor = is.grid.now; count = is.count; first = is.first.items; last = is.last.items; costs = is.costs.items; fault = is.fault; kept = is.kept } in
    let new : Judged = record { floor = is.grid.now; count = is.count + 1; first = is.first.items; last = c.note_some.new.last.items; costs = c.note_some.new.costs.items; fault = is.fault; kept = c.keep.new.kept } in
    let place = c.args.place.now in
    let same = c.self.view_is in
    let none : is.fault ≡ None = ap (λ (j : Judged). j.fault) same ∙ c.requires.faultless in
    let some : 1 ≤ is.count = subst (λ (n : ℕ). 1 ≤ n) (sym (ap (λ (j : Judged). j.count) same)) c.requires.later in
    let free : IsConflictFree is.grid.now is.last.items place =
    subst (λ (m : Floor). IsConflictFree m is.last.items place) (sym (ap (λ (j : Judged). j.floor) same))
    (subst (λ (from : List ℕ). IsConflictFree c.args.self.now.floor from place) (sym (ap (λ (j : Judged). j.last) same)) c.requires.free) in
    judged_free m places place old new (known m places old c.args.self.now same was) refl refl c.in_ok-keep.ensures.added some none none refl c.note_some.ensures.last free c.note_some.ensures.count
    c.note_some.ensures.costs
