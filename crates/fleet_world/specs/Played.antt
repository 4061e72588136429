-- The lists of the clients, as a run keeps them and as a run leaves them.
use Rattle.std.specs.Prelude.{◌≡◌, ℕ, List, [], ◌++◌, map, slice_index_or}
use Rattle.std.specs.List.{range_with_len}
use Rattle.fleet_book.specs.declared.order.Order.{Order}
use Rattle.fleet_book.specs.declared.notice.Notice.{Notice}
use Rattle.fleet_history.specs.History.{History, clients}
use Rattle.fleet_book.specs.declared.event.Event.{Event}
use Rattle.fleet_history.specs.Laws.{orders, ArrivesInOrder, ArrivalsRise, HasNoConflict, AcceptsNoneClosed, EachTick}
use Rattle.fleet_history.specs.Legal.{IsLegal}
use Rattle.fleet_history.specs.Numbering.{AreNumbered}
use Rattle.fleet_planner.specs.Planned.{IsPlanned}
use Rattle.fleet_bound.specs.Bound.{WaitsAreBounded}
use Rattle.fleet_bound.specs.Roomy.{AdvancesIfRoomy, AreRoomy}
use Rattle.fleet_core.specs.Core.{World}
use Rattle.fleet_world.specs.declared.play.Played.{Played}
use Rattle.fleet_world.specs.declared.reply.Reply.{Reply}
use Rattle.fleet_world.specs.Laws.{KeepsRings, KeepsEachRing, IsSameGround}
use Rattle.fleet_world.specs.Run.{Lists, Run, State, state_of}

-- a client's lists, by the history, and by what is left in its lane and outlet and what it collected: it sent what was
-- taken and what is left in its lane, and was given what it collected and what is left in its outlet
abbrev pub lists_from : {A : Type 0} → History A → List (List Order) → List (List Notice) → List (List Notice) → ℕ → Lists
lists_from h lanes outlets collected c = record {
  sent = orders h c ++ slice_index_or lanes c [];
  taken = orders h c;
  given = slice_index_or collected c [] ++ slice_index_or outlets c [];
  collected = slice_index_or collected c [];
}

-- the clients' lists after a run
abbrev pub client_lists : {A : Type 0} → History A → List (List Order) → List (List Notice) → List (List Notice) → List Lists
client_lists h lanes outlets collected = map (lists_from h lanes outlets collected) (range_with_len 0 (clients h))

-- the lists of the clients of a world that was played
abbrev pub lists_of : {A f g h : Type 0} {F : f → Type 0} {G : g → Type 0} {H : h → Type 0} {k l m : _} → Played A f g h F G H k l m → List Lists
lists_of p = client_lists p.world.core.history (map (λ v. v.items) p.lanes.items) (map (λ v. v.items) p.outlets.items) (map (λ v. v.items) p.collected.items)

-- what each client collected
abbrev pub collected_of : {A f g h : Type 0} {F : f → Type 0} {G : g → Type 0} {H : h → Type 0} {k l m : _} → Played A f g h F G H k l m → List (List Notice)
collected_of p = map (λ v. v.items) p.collected.items

-- the state that a run leaves
abbrev pub end_of : {A f g h : Type 0} {F : f → Type 0} {G : g → Type 0} {H : h → Type 0} {k l m : _} → Played A f g h F G H k l m → State A
end_of p = state_of p.world.core (lists_of p)

-- a run of these events from this state on, with these replies, left the world so; what `run` says of its end holds of it
pub record IsPlayed {A : Type 0} (first : State A) (events : List Event) (replies : List Reply) (w : World A) : Type 0 where
  pub last : State A
  pub run : Run first events replies last
  pub world : last.world ≡ w
  pub same : IsSameGround first.world last.world
  pub legal : IsLegal last.world.floor last.world.history
  pub rings : KeepsRings last
  pub each_ring : KeepsEachRing last
  pub arrivals : ArrivesInOrder last.world.history
  pub numbers : ArrivalsRise last.world.history
  pub numbered : (client : ℕ) → AreNumbered last.world.history client
  pub conflicts : HasNoConflict last.world.floor last.world.history
  pub closes : AcceptsNoneClosed last.world.history
  pub planned : EachTick (IsPlanned last.world.floor last.world.ties) last.world.history
  pub advancing : AdvancesIfRoomy last.world.floor last.world.history
  pub bounded : AreRoomy last.world.floor last.world.history → WaitsAreBounded last.world.floor last.world.history
