-- What becomes of the errands that were open.
use Rattle.std.specs.Prelude.{◌≡◌, ◌+◌, ◌==◌, ◌&&◌, ℕ, List, [], ◌∷◌, Bool, count_by}
use Rattle.fleet_queue.specs.declared.errand.Errand.{Errand}
use Rattle.fleet_refit.specs.declared.change.Dropped.{Dropped}
use Rattle.fleet_refit.specs.InOrder.{errands_of, open_of}
use Rattle.fleet_refit.specs.Site.{SiteView}

-- some of the errands, in their order
pub data AreSome : List Errand → List Errand → Type 0 where
  empty : AreSome [] []
  stays : {some all : List Errand} (e : Errand) → AreSome some all → AreSome (e ∷ some) (e ∷ all)
  goes : {some all : List Errand} (e : Errand) → AreSome some all → AreSome some (e ∷ all)

-- the errand that was dropped
abbrev pub errand_of : Dropped → Errand
errand_of d = record { client = d.client; number = d.number; cell = d.cell }

-- whether it was the robot's, and passes the test
abbrev pub was_of : ℕ → (Errand → Bool) → Dropped → Bool
was_of robot test d = (d.robot == robot) && test (errand_of d)

-- each errand that was open is still its robot's, in order and under its number, or it was dropped, once
pub record AreAccounted {A : Type 0} (s t : SiteView A) (dropped : List Dropped) : Type 0 where
  -- no client's counts change
  pub clients : t.clients ≡ s.clients
  -- what a robot has it had before, in the same order
  pub order : (robot : ℕ) → AreSome (errands_of t robot) (errands_of s robot)
  -- of whatever kind, a robot's errands are those that it still has and those that it was made to drop
  pub each : (robot : ℕ) (test : Errand → Bool) → count_by test (errands_of s robot) ≡ count_by test (errands_of t robot) + count_by (was_of robot test) dropped
  -- so are each client's
  pub owed : (client : ℕ) → open_of s client ≡ open_of t client + count_by (λ d. d.client == client) dropped
