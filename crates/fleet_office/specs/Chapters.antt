-- The chapter that a hall holds, and how it is handed out.
use Rattle.std.specs.Prelude.{ℕ, ◌≡◌, List, Option, Some, None}
use Rattle.fleet_history.specs.declared.history.Chapter.{Chapter}
use Rattle.fleet_history.specs.History.{History, history_of}
use Rattle.fleet_history.specs.Laws.{EachTick}
use Rattle.mover.specs.Moving.{IsPlannedAs}
use Rattle.fleet_bound.specs.Bound.{WaitsAreBounded}
use Rattle.fleet_bound.specs.Roomy.{AdvancesIfRoomy, HasBound}
use Rattle.fleet_core.specs.Core.{World, ServesInTurns}
use Rattle.fleet_lanes.specs.Names.{LaneName}
use Rattle.fleet_office.specs.Hall.{HallView, IsLawful, next_hall}

-- this is the chapter of a lawful hall, with its number: each tick is planned in the world's manner. Plainly, each tick advances if all
-- errands go to roomy cells, and every wait is below the bound if the opening's waits leave room for it; in turns, that is so of waits for
-- served errands
pub record IsChapterOf {A : Type 0} (rings : List (LaneName A)) (began : World A) (hall : HallView A) (n : ℕ) (h : History A) : Type 0 where
  pub lawful : IsLawful rings began hall.world hall.ends hall.total
  pub history : h ≡ hall.world.history
  pub number : n ≡ hall.world.number
  pub planned : EachTick (IsPlannedAs hall.world.turns hall.world.floor hall.world.ties) h
  pub advancing : hall.world.turns ≡ None → AdvancesIfRoomy hall.world.floor h
  pub bounded : hall.world.turns ≡ None → HasBound hall.world.floor h → WaitsAreBounded hall.world.floor h
  pub served : ServesInTurns hall.world.turns hall.world.floor h

-- the hall's chapter was handed out and the next begun, or the hall stayed as it was
abbrev pub HandsOutGrown : {A : Type 0} → HallView A → Option (Chapter A) → HallView A → Type 0
HandsOutGrown h None g = g ≡ h
HandsOutGrown h (Some chapter) g = (history_of chapter ≡ h.world.history) × (chapter.number ≡ h.world.number) × (g ≡ next_hall h)
