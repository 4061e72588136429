-- Errands that stay, and errands that are dropped.
use Rattle.std.specs.Prelude.{◌≡◌, ℕ, List, [], ◌∷◌, Option, Some, None, ◌==◌, ◌&&◌, if◌then◌else◌, Bool}
use Rattle.fleet_queue.specs.declared.errand.Errand.{Errand}
use Rattle.fleet_refit.specs.declared.change.Dropped.{Dropped}

-- some errands stay, in order, and the others are dropped, in order
pub data Sifts (Stays : Errand → Type 0) : List Errand → List Errand → List Errand → Type 0 where
  none : Sifts Stays [] [] []
  kept : {all stay gone : List Errand} (e : Errand) → Stays e → Sifts Stays all stay gone → Sifts Stays (e ∷ all) (e ∷ stay) gone
  dropped : {all stay gone : List Errand} (e : Errand) → (Stays e → ⊥) → Sifts Stays all stay gone → Sifts Stays (e ∷ all) stay (e ∷ gone)

-- an errand that is dropped, as the robot's
abbrev pub dropped_of : ℕ → Errand → Dropped
dropped_of robot e = record { robot = robot; client = e.client; number = e.number; cell = e.cell }

-- two errands are the same
abbrev pub is_same : Errand → Errand → Bool
is_same e f = (e.client == f.client) && (e.number == f.number) && (e.cell == f.cell)

-- the wait where these errands stay of those: for a new front the robot begins to wait
abbrev pub cut_wait : List Errand → List Errand → Option ℕ → Option ℕ
cut_wait all [] wait = None
cut_wait [] (f ∷ stay) wait = Some 0
cut_wait (e ∷ all) (f ∷ stay) wait = if is_same e f then wait else Some 0
