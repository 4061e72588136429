use Rattle.fleet_convert.proofs.MovesBack.{moves_back}
use Rattle.fleet_convert.proofs.law.moves_read_back.Goals as goal

pub returns : goal.returns
returns c = λ m places form size robots valid. moves_back m form places size valid robots
