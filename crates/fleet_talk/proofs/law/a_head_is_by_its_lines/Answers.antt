use Rattle.fleet_talk.proofs.Heads.{is-head}
use Rattle.fleet_talk.proofs.law.a_head_is_by_its_lines.Goals as goal

pub returns : goal.returns
returns c settings file lines = is-head settings file lines
