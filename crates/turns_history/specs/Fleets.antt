-- Histories whose ticks are planned in turns, and what of them the laws of turns are about.
use Rattle.std.specs.Prelude.{⊤, ◌≡◌, ℕ, ◌+◌, ◌*◌, ◌^◌, ◌<◌, List}
use Rattle.fleet_grid.specs.Floor.{Floor}
use Rattle.fleet_hooks.specs.declared.law.TieLaw.{TieLaw}
use Rattle.fleet_history.specs.declared.history.Entry.{Entry}
use Rattle.fleet_history.specs.declared.history.Entry.TheVariants.{Take, Tick, Shut}
use Rattle.fleet_history.specs.History.{History, place, clock}
use Rattle.fleet_planner.specs.Planned.{waits, goals}
use Rattle.fleet_planner.specs.declared.lending.Lending.{Lending}
use Rattle.turns_law.specs.Turns.{Turns, AreTurns}
use Rattle.turns_law.specs.Turn.{IsTurn}
use Rattle.turns_law.specs.ToGo.{AreLimits}
use Rattle.turns_law.specs.Fleet.{Fleet}

-- the robots' cells after a history, the cells of their front errands, and their waits
abbrev pub as_fleet : {A : Type 0} → History A → Fleet
as_fleet h = record { cells = place h; goals = goals h; waits = waits h }

-- so few ticks were made that ranks have room for each wait
abbrev pub IsEarly : {A : Type 0} → History A → Type 0
IsEarly h = clock h + 1 < 2 ^ 63

-- a tick after the history that is planned in turns, whatever is lent for it
abbrev pub IsPlannedInTurns : {A : Type 0} → Floor → Turns → List TieLaw → History A → List ℕ → Type 0
IsPlannedInTurns m t laws h to = (lending : Lending) × IsTurn m t laws (goals h) (waits h) (place h) to lending

-- if the entry is a tick, it is planned in turns
abbrev pub IsEntryInTurns : {A : Type 0} → Floor → Turns → List TieLaw → History A → Entry A → Type 0
IsEntryInTurns m t laws h (Take client order verdict) = ⊤
IsEntryInTurns m t laws h (Tick to arrived farewells) = IsPlannedInTurns m t laws h to
IsEntryInTurns m t laws h (Shut robot farewell) = ⊤

-- what a bound is made of: how far apart two cells are at most, how deep the room of each door is, and the ticks of one turn
pub record TurnLimits : Type 0 where
  pub reach : ℕ
  pub depth : ℕ → ℕ
  pub turn : ℕ

-- the turns and the limits are right for this many robots on the map
pub record AreTurnsFor (m : Floor) (t : Turns) (l : TurnLimits) (n : ℕ) : Type 0 where
  pub turns : AreTurns m t
  pub limits : AreLimits m t l.reach l.depth l.turn
  pub robots : t.robots ≡ n

-- those of a map on which no two cells are further apart than `span`: no room is deeper, and one turn is as long as all robots need to go so far
abbrev pub limits_by : (span n : ℕ) → TurnLimits
limits_by span n = record { reach = span; depth = λ _. span; turn = n * span }
