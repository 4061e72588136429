-- An open fleet, as a conversation goes on.
use Rattle.std.specs.Prelude.{Bool, false}
use Rattle.fleet_world.specs.Talk.{Talk}

-- a fleet's world, what waits of its clients, and whether a limit was met since it was opened
pub record Fleet (A : Type 0) : Type 0 where
  pub talk : Talk A
  pub met : Bool

-- a fleet that was just opened
abbrev pub opened_fleet : {A : Type 0} → Talk A → Fleet A
opened_fleet s = record { talk = s; met = false }
