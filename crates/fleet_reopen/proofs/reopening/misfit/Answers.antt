-- Why they do not go together, one after another.
use Rattle.std.proofs.lemmas.Bool.{both_ways}
use Rattle.fleet_reopen.proofs.reopening.misfit.Goals as goal

pub returns-then-not-are_at : goal.returns-then-not-are_at
returns-then-not-are_at g c = λ e. both_ways c.are_at.result c.if-not-are_at.true (c.are_at.ensures.1 e)

pub returns-then-not-are_limits_at : goal.returns-then-not-are_limits_at
returns-then-not-are_limits_at g c = (
  c.are_at.ensures.0 c.if-not-are_at.false,
  λ e. both_ways c.are_limits_at.result c.if-not-are_limits_at.true (c.are_limits_at.ensures.1 e),
)

pub returns-then-not-is_counted : goal.returns-then-not-is_counted
returns-then-not-is_counted g c = (
  c.are_at.ensures.0 c.if-not-are_at.false,
  c.are_limits_at.ensures.0 c.if-not-are_limits_at.false,
  λ e. both_ways c.is_counted.result c.if-not-is_counted.true (c.is_counted.ensures.1 e),
)

pub returns : goal.returns
returns g c = record {
  hooks = c.are_at.ensures.0 c.if-not-are_at.false;
  same = c.are_limits_at.ensures.0 c.if-not-are_limits_at.false;
  counted = c.is_counted.ensures.0 c.if-not-is_counted.false;
}
