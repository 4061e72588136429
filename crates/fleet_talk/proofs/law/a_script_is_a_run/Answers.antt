use Rattle.fleet_talk.proofs.Alike.{script-run}
use Rattle.fleet_talk.proofs.law.a_script_is_a_run.Goals as goal

pub returns : goal.returns
returns c kit m bytes text chapters met plan read short named conv = script-run kit m bytes text chapters met plan read short named conv
