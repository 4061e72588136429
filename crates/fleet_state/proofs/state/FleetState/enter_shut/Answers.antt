use Rattle.std.proofs.Common.{arith}
use Rattle.fleet_history.specs.declared.history.Entry.TheVariants as entry
use Rattle.fleet_history.specs.History.{after}
use Rattle.fleet_state.proofs.Parts.{inside, shut-count}
use Rattle.fleet_state.proofs.Entered.{shut-is}
use Rattle.fleet_state.proofs.state.FleetState.enter_shut.Goals as goal

pub shut_robot-requires : goal.shut_robot-requires
shut_robot-requires g c = omega (arith, shut-count (inside c.self.view_is c.requires.may.is), c.requires.may.fits.known)

pub invariant_of-self : goal.invariant_of-self
invariant_of-self g c = record {
  floor = c.requires.may.floor;
  history = after c.requires.may.history (entry.Shut c.args.robot c.requires.farewell);
  is = rw (c.shut_robot.ensures.counts, c.shut_robot.ensures.tallies) (shut-is (inside c.self.view_is c.requires.may.is) c.args.robot c.requires.farewell c.requires.may.fits);
}

pub returns-clause-follows : goal.returns-clause-follows
returns-clause-follows g c farewell m h k fits = rw (c.shut_robot.ensures.counts, c.shut_robot.ensures.tallies) (shut-is (inside c.self.view_is k) c.args.robot farewell fits)
