-- A tick counted in the book and here, once.
use Rattle.std.proofs.Common.{◌+◌, refl, ◌∙◌, ap, arith}
use Rattle.fleet_office.proofs.ticker.Ticker.count_tick.Goals as goal

pub overflow_add-self : goal.overflow_add-self
overflow_add-self g c = omega (arith, c.audit.ensures.bound, c.self.invariant.1, c.requires)

pub invariant_of-self : goal.invariant_of-self
invariant_of-self g c = (
  c.add.ensures.parts ∙ c.audit.ensures.parts ∙ c.self.invariant.0,
  c.add.ensures.amount ∙ ap (λ n. n + 1) (c.audit.ensures.amount ∙ c.self.invariant.1),
  c.self.invariant.2,
  c.self.invariant.3,
)

pub returns-clause-book : goal.returns-clause-book
returns-clause-book g c = c.add.ensures.total ∙ ap (λ n. n + 1) c.audit.ensures.total

pub returns-clause-ticker : goal.returns-clause-ticker
returns-clause-ticker g c = rw (← c.self.view_is) refl

pub returns-clause-bound : goal.returns-clause-bound
returns-clause-bound g c = omega (arith, c.add.ensures.total, c.audit.ensures.total, c.audit.ensures.bound, c.self.invariant.1)
