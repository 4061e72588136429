-- The wait one tick later.
use Rattle.std.proofs.Common.{sym, ap}
use Rattle.fleet_history.specs.Waited.{one_more}
use Rattle.fleet_state.proofs.landing.one_more.Goals as goal

pub returns-in-Some : goal.returns-in-Some
returns-in-Some c = sym (ap one_more c.in-Some.is)
