-- The manner in which the ticks of a conversation's fleet are planned.
use Rattle.std.specs.Prelude.{◌≡◌, [], Option, None}
use Rattle.fleet_history.specs.History.{robots}
use Rattle.fleet_core.specs.Core.{World}
use Rattle.mover.specs.declared.manner.Manner.{Manner}
use Rattle.mover.specs.Moving.{HasTurns, IsManner}
use Rattle.turns_law.specs.Turns.{Turns}
use Rattle.fleet_world.specs.Talk.{Talk}

-- the turns of a world's robots, where they are planned for in this manner
pub record AreTaken {A : Type 0} (manner : Manner) (w : World A) (turns : Option Turns) : Type 0 where
  pub has : HasTurns w.floor (robots w.history) turns
  pub chosen : IsManner w.floor manner turns

-- the world's chapter has no entry, and its robots take no turns
pub record IsFresh {A : Type 0} (w : World A) : Type 0 where
  pub entries : w.history.entries ≡ []
  pub plain : w.turns ≡ None

-- the world, but that its robots take these turns
abbrev pub taking : {A : Type 0} → Option Turns → World A → World A
taking turns w = record w { turns = turns }

-- the talk, but that the robots of its world take these turns
abbrev pub in_turns : {A : Type 0} → Option Turns → Talk A → Talk A
in_turns turns s = record { world = taking turns s.world; clients = s.clients }
