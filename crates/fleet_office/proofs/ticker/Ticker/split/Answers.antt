-- The part that is given away, and what is left.
use Rattle.std.proofs.Common.{arith, ap}
use Rattle.fleet_office.proofs.ticker.Ticker.split.Goals as goal

pub invariant_of-self : goal.invariant_of-self
invariant_of-self g c =
    let s = c.split_off-share.ensures in
    let i = c.self.invariant in
    (omega (arith, s.parts_left, i.0), omega (arith, s.amount_left, i.1), omega (arith, c.if-self-eq1.false, i.2), i.3)

pub returns-clause-some : goal.returns-clause-some
returns-clause-some g c = (
  c.new.ensures,
  ap (λ t. t.count) c.self.view_is,
  omega (arith, c.self.invariant.2, ap (λ t. t.parts) c.self.view_is),
)
