-- The fleet is as it was.
use Rattle.std.proofs.Common.{refl}
use Rattle.fleet_live.proofs.desk.begin.Goals as goal

pub returns : goal.returns
returns g c = record {
  stage = refl;
  texts = c.in_ok-events.ensures.texts;
  chapters = c.in_ok-events.ensures.chapters;
  taken = c.in_ok-events.ensures.taken;
  log = c.in_ok-events.ensures.log;
}
