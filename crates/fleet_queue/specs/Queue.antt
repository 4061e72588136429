-- A bounded list of errands.
use Rattle.std.specs.Prelude.{ℕ, Bool, ◌&&◌, ◌==◌, List, [], ◌∷◌, if◌then◌else◌}
use Rattle.fleet_queue.specs.declared.errand.Errand.{Errand}

-- the errands from the front on, and how many there may be
pub record Queue : Type 0 where
  pub items : List Errand
  pub capacity : ℕ

-- whether it is the client's errand of this number
abbrev pub is_of : ℕ → ℕ → Errand → Bool
is_of client number e = (e.client == client) && (e.number == number)

-- the list without the first errand that passes the test
abbrev pub without_first : (Errand → Bool) → List Errand → List Errand
without_first p [] = []
without_first p (e ∷ es) = if p e then es else e ∷ without_first p es

-- the same, where the front stays in any case
abbrev pub without_behind_front : (Errand → Bool) → List Errand → List Errand
without_behind_front p [] = []
without_behind_front p (e ∷ es) = e ∷ without_first p es
