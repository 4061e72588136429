use Rattle.std.proofs.Common.{refl, map, ap, ◌∙◌}
use Rattle.fleet_core.proofs.Matches.{arrivals-alike}
use Rattle.fleet_core.proofs.kernel.Core.has_all.Goals as goal

pub returns-clause-arrivals : goal.returns-clause-arrivals
returns-clause-arrivals g c = λ t.
    let h = c.args.self.now.history in
    arrivals-alike h (map (λ x. x.law) c.args.by.now.arrivals.items)
    (rw c.as_slice-2.ensures.value at (c.if-not-are_arrivals.ensures refl) ∙ ap (map (λ x. x.arrival_law)) (c.as_slice-3.ensures ∙ ap (λ x. x.opening.robots) c.chapter.ensures.history))

pub returns-clause-farewells : goal.returns-clause-farewells
returns-clause-farewells g c = λ t. rw c.as_slice-4.ensures.value at (c.has_farewells.ensures t)
