-- An open fleet without where its lists lie in memory.
use Rattle.fleet_talk.specs.declared.open_fleet.OpenFleet.{OpenFleet}
use Rattle.fleet_world.specs.Keeps.{talk}
use Rattle.std.specs.declared.alloc.Global.{Global}
use Rattle.fleet_talk.specs.Fleet.{Fleet}

-- the program's open fleet, by its session and whether a limit was met
abbrev pub fleet_of : {f g h : Type 0} {F : f → Type 0} {G : g → Type 0} {H : h → Type 0} {k l m : _} → OpenFleet f g h F G H k l m → Fleet Global
fleet_of f = record { talk = talk f.session; met = f.limited }
