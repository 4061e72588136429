use Rattle.std.proofs.Common.{◌≤◌, arith}
use Rattle.fleet_reopen.proofs.reach.apart.Goals as goal

pub returns-then-next-far-clause-wide : goal.returns-then-next-far-clause-wide
returns-then-next-far-clause-wide g c = λ cell d far. omega (arith, c.in_ok-far.ensures.wide cell d far, c.if-next-far.true)
