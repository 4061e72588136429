-- Of a plain step it is what was read of the world.
use Rattle.fleet_talk.proofs.look.foreseen.Goals as goal

pub returns-clause-plain : goal.returns-clause-plain
returns-clause-plain g c plain = record {
  told = c.roomy_within.ensures.told c.requires.rooms;
  ticks = c.roomy_within.ensures.exact;
  ahead = c.in_ok-blocked_ahead.ensures;
}
