use Rattle.fleet_pibt.proofs.Beside.{stay-from}
use Rattle.fleet_pibt.proofs.scene.Scene.staying.Goals as goal

pub returns-clause-candidate : goal.returns-clause-candidate
returns-clause-candidate g c = stay-from _ c.args.robot c.args.around (c.requires.whole.gathered.each c.args.robot c.args.around c.requires.seen)
