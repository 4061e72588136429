-- The orders of one client's lane, as they are taken at the end.
use Rattle.std.specs.Prelude.{ℕ, ◌≡◌, ◌<◌, length, Result, OnOk, OnErr}
use Rattle.fleet_core.specs.Core.{World}
use Rattle.fleet_office.specs.Draining.{Drains}

-- orders of the client were taken, of n that were left in its lane: all, or where one was refused fewer
abbrev pub DrainsLane : {A E : Type 0} → World A → ℕ → ℕ → World A → Result (Unit {0}) E → Type 0
DrainsLane w c n v result = (d : Drains w c n v) × OnOk result (length d.more ≡ n) × OnErr result (length d.more < n)
