use Rattle.fleet_core.specs.Hooks.{laws_of}
use Rattle.fleet_office.specs.Views.{rings_of, world_at}
use Rattle.golden_office.proofs.waits.opening.play_with.Given as goal

abbrev pub ghosts-play-N-Ledger : goal.ghosts-play-N-Ledger
ghosts-play-N-Ledger g a = record { name = a.desk.ledger; parts = a.desk.parts }

abbrev pub ghosts-play-N-OfficeName : goal.ghosts-play-N-OfficeName
ghosts-play-N-OfficeName g a = record {
  rings = rings_of a.desk.ends;
  start = world_at a.desk a.grid a.starts.items (laws_of a.hooks);
}
