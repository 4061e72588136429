-- What a serve that came to its end is known to be.
use Rattle.std.specs.Prelude.{◌≡◌, ℕ, ◌<◌, List, None, length, Vec}
use Rattle.std.specs.declared.alloc.Global.{Global}
use Rattle.fleet_book.specs.declared.event.Event.{Event}
use Rattle.fleet_book.specs.declared.notice.Notice.{Notice}
use Rattle.fleet_grid.specs.Floor.{Floor}
use Rattle.fleet_history.specs.History.{History, clock}
use Rattle.fleet_history.specs.Legal.{IsLegal}
use Rattle.fleet_history.specs.Laws.{EachTick}
use Rattle.mover.specs.Moving.{IsPlannedAs}
use Rattle.fleet_bound.specs.Bound.{WaitsAreBounded}
use Rattle.fleet_bound.specs.Roomy.{AdvancesIfRoomy, HasBound}
use Rattle.fleet_core.specs.Core.{World}
use Rattle.fleet_serve.specs.Posted.{TakesPosted, TakesAll, AreFullCounted, AreLastNotices}

-- the end of a serve that began with this world, of these events by this many clients, each of which may send this many orders: the map, the history and the
-- number of its chapter, its ticks, and what is left of each client's notices
pub record IsEnd (began : World Global) (events : List Event) (most clients lane_full : ℕ) (m : Floor) (h : History Global) (number ticks : ℕ) (rests : List (Vec Notice Global)) : Type 0 where
  pub first : number ≡ 0
  pub floor : m ≡ began.floor
  pub opening : h.opening ≡ began.history.opening
  pub legal : IsLegal m h
  pub planned : EachTick (IsPlannedAs began.turns m began.ties) h
  pub advancing : began.turns ≡ None → AdvancesIfRoomy m h
  pub bounded : began.turns ≡ None → HasBound m h → WaitsAreBounded m h
  pub tick : ticks ≡ clock h
  pub posted : TakesPosted h events clients
  pub all : lane_full ≡ 0 → length events < most → TakesAll h events clients
  pub counted : AreFullCounted h events most clients lane_full
  pub rest : AreLastNotices h rests clients
