-- Room for what all clients leave.
use Rattle.std.specs.Prelude.{ℕ, ◌≡◌, ◌≤◌, vec_len, vec_capacity}
use Rattle.fleet_world.specs.declared.leftovers.Leftovers.{Leftovers}

-- the lists are empty, and each has room for this many
pub record HasRoomFor {A : Type 0} (l : Leftovers A) (n : ℕ) : Type 0 where
  pub no_lanes : vec_len l.lanes ≡ 0
  pub no_outlets : vec_len l.outlets ≡ 0
  pub lanes : n ≤ vec_capacity l.lanes
  pub outlets : n ≤ vec_capacity l.outlets
