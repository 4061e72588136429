-- A run is played by a session, which keeps what waits; what was collected is read off the replies.
use Rattle.std.specs.Prelude.{ℕ, ◌≡◌, ◌<◌, List, [], ◌∷◌, ◌++◌, map, slice_index_or, slice_set}
use Rattle.fleet_book.specs.declared.event.Event.{Event}
use Rattle.fleet_book.specs.declared.event.Event.TheVariants.{Collect}
use Rattle.fleet_book.specs.declared.notice.Notice.{Notice}
use Rattle.fleet_history.specs.History.{clients, client_at}
use Rattle.fleet_history.specs.Legal.{IsLegal}
use Rattle.fleet_world.specs.declared.reply.Reply.{Reply}
use Rattle.fleet_world.specs.declared.reply.Reply.TheVariants.{Collected}
use Rattle.fleet_world.specs.Run.{State, Run}
use Rattle.fleet_world.specs.Laws.{KeepsRings}
use Rattle.fleet_world.specs.Talk.{Talk, forget}

-- what the clients collected, with what is collected by an event of this reply
abbrev pub with_reply : Event → Reply → List (List Notice) → List (List Notice)
with_reply (Collect c) (Collected notice) all = slice_set all c (slice_index_or all c [] ++ notice ∷ [])
with_reply event reply all = all

-- a state of a run within its first chapter
pub record IsFresh {A : Type 0} (s : State A) : Type 0 where
  pub rings : KeepsRings s
  pub legal : IsLegal s.world.floor s.world.history
  pub unknown : (c : ℕ) → c < clients s.world.history → (client_at s.world.history c).taken ≡ 0

-- a session and what was collected show this state of a run
pub record Shows {A : Type 0} (s : State A) (t : Talk A) (collected : List (List Notice)) : Type 0 where
  pub talk : forget s ≡ t
  pub got : map (λ l. l.collected) s.clients ≡ collected

-- from any state that is shown first, a run of these events may lead to one that is shown then
abbrev pub Leads : {A : Type 0} → Talk A → List (List Notice) → List Event → List Reply → Talk A → List (List Notice) → Type 0
Leads {A} t before events replies u after =
    (s : State A) → IsFresh s → Shows s t before → (m : State A) × Run s events replies m × Shows m u after

-- from any state of a run that a session shows first, a run of these events may lead to one that it shows then
abbrev pub LeadsTo : {A : Type 0} → Talk A → List Event → List Reply → Talk A → Type 0
LeadsTo {A} t events replies u =
    (s : State A) → IsFresh s → forget s ≡ t → (m : State A) × Run s events replies m × (forget m ≡ u)
