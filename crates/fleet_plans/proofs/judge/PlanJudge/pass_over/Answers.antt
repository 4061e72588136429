-- More placements are counted.
use Rattle.std.proofs.Common.{ℕ, ◌+◌, Option, refl, ap, ◌∙◌, sym, subst}
use Rattle.std.specs.Prelude.{IsSome}
use Rattle.fleet_plans.specs.declared.judging.PlanFault.{PlanFault}
use Rattle.fleet_plans.specs.Judge.{Judged}
use Rattle.fleet_plans.proofs.Judgings.{judged_over, known}
use Rattle.fleet_plans.proofs.judge.PlanJudge.pass_over.Goals as goal

pub returns : goal.returns
returns g c = λ m places more many was.
    let is = c.self.inside in
    let old : Judged = record { floor = is.grid.now; count = is.count; first = is.first.items; last = is.last.items; costs = is.costs.items; fault = is.fault; kept = is.kept } in
    let new : Judged = record { floor = is.grid.now; count = is.count + c.args.n; first = is.first.items; last = is.last.items; costs = is.costs.items; fault = is.fault; kept = is.kept } in
    let same = c.self.view_is in
    let some : IsSome is.fault = subst (λ (f : Option PlanFault). IsSome f) (sym (ap (λ (j : Judged). j.fault) same)) c.requires.faulty in
    judged_over m places more old new (known m places old c.args.self.now same was) refl (ap (λ (n : ℕ). is.count + n) (sym many)) is.fault refl some refl
    (ap (λ (j : Judged). j.kept) same ∙ c.requires.unkept)
