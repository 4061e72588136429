use Rattle.fleet_core.specs.Hooks.{laws_of}
use Rattle.fleet_office.specs.Views.{rings_of, world_at}
use Rattle.quickstart.proofs.threads.play.Given as goal

abbrev pub ghosts-spend_day-N-Ledger : goal.ghosts-spend_day-N-Ledger
ghosts-spend_day-N-Ledger g a = record { name = a.desk.ledger; parts = a.desk.parts }

abbrev pub ghosts-spend_day-N-OfficeName : goal.ghosts-spend_day-N-OfficeName
ghosts-spend_day-N-OfficeName g a = record {
  rings = rings_of a.desk.ends;
  start = world_at a.desk a.grid a.starts.items (laws_of a.hooks);
}
