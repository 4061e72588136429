-- Errands by how many robots a list says that their cells are roomy for.
use Rattle.std.specs.Prelude.{ℕ, List, Bool, nat_le, slice_index}
use Rattle.std.specs.List.{list_all}
use Rattle.fleet_queue.specs.declared.errand.Errand.{Errand}
use Rattle.fleet_queue.specs.Queue.{Queue}

-- the errand's cell is roomy for n robots
abbrev pub has_room : List ℕ → ℕ → Errand → Bool
has_room most n x = nat_le n (slice_index most x.cell)

-- the cells of a queue's errands are
abbrev pub have_room : List ℕ → ℕ → Queue → Bool
have_room most n q = list_all (has_room most n) q.items
