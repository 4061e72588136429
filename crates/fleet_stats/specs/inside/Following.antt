-- A history that may be followed from its opening on, and its end.
use Rattle.fleet_grid.specs.Floor.{Floor}
use Rattle.fleet_history.specs.History.{History, start}
use Rattle.fleet_state.specs.State.{State, IsStateOf, HasFullRooms}
use Rattle.fleet_trace.specs.Chapters.{IsSound}

-- this is the state at its end
pub record IsEnd {A : Type 0} (h : History A) (s : State A) : Type 0 where
  pub floor : Floor
  pub is : IsStateOf floor h s

-- it is sound, and this is the state at its opening, with full queues
pub record CanFollow {A : Type 0} (h : History A) (s : State A) : Type 0 where
  pub floor : Floor
  pub sound : IsSound floor h
  pub is : IsStateOf floor (start h.opening) s
  pub full : HasFullRooms s
