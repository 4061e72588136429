use Rattle.fleet_core.specs.Core.{opened_world}
use Rattle.fleet_core.specs.Hooks.{laws_of}
use Rattle.fleet_office.specs.Views.{rings_of}
use Rattle.fleet_serve.proofs.serving.serve.Given as goal

abbrev pub ghosts-serve_at-N-Ledger : goal.ghosts-serve_at-N-Ledger
ghosts-serve_at-N-Ledger g a = record { name = a.desk.ledger; parts = a.desk.parts }

abbrev pub ghosts-serve_at-N-OfficeName : goal.ghosts-serve_at-N-OfficeName
ghosts-serve_at-N-OfficeName g a = record {
  rings = rings_of a.desk.ends;
  start = opened_world a.grid a.script.now.starts.items a.script.now.clients a.script.now.limits (laws_of a.hooks);
}

abbrev pub ghosts-serve_at-N-ScriptName : goal.ghosts-serve_at-N-ScriptName
ghosts-serve_at-N-ScriptName g a = record { events = a.script.now.events.items; orders = a.script.now.limits.orders }
