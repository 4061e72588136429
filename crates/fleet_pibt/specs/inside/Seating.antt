-- Who stands on each cell, and who has reserved it.
use Rattle.std.specs.Prelude.{ℕ, Option, List}
use Rattle.fleet_pibt.specs.inside.Entry.{short_entry}
use Rattle.fleet_pibt.specs.declared.seats.Seat.{Seat}

pub record Seating : Type 0 where
  pub standing : List (Option ℕ)
  pub holder : List (Option ℕ)

abbrev pub stander_in : Seat → Option ℕ
stander_in seat = short_entry seat.stander

abbrev pub holder_in : Seat → Option ℕ
holder_in seat = short_entry seat.holder
