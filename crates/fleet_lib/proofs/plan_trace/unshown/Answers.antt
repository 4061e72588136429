-- Why nothing is shown.
use Rattle.fleet_lib.proofs.plan_trace.unshown.Goals as goal

pub returns : goal.returns
returns c = (c.args.fault, c.requires.told, c.in_ok-untraced.ensures, c.requires.unfit)
