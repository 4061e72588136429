-- Lines that end a fleet, among those that were read and are not heard yet.
use Rattle.std.specs.Prelude.{ℕ, zero, suc, ◌+◌, min, Bool, true, false, List, Option, Some, None, drop, take, length, if◌then◌else◌}
use Rattle.std.specs.List.{position}
use Rattle.fleet_talk.specs.Ask.{line_in}
use Rattle.live_parts.specs.Demand.{demand_of}
use Rattle.live_parts.specs.declared.demand.Demand.{Demand}
use Rattle.live_parts.specs.declared.demand.Demand.TheVariants.{Quit}
use Rattle.live_parts.specs.declared.demand.Rights.{Rights}
use Rattle.fleet_live.specs.Taken.{is_line_feed}

-- whether a line asks to end the fleet
abbrev pub is_quit : Demand → Bool
is_quit Quit = true
is_quit _ = false

-- a line without its line feed ends the fleet
abbrev pub ends_fleet : Rights → List ℕ → Bool
ends_fleet rights bytes = is_quit (demand_of rights (line_in 1 bytes).asked (line_in 1 bytes).told)

-- this many bytes more are before it
abbrev pub further : ℕ → ℕ × Bool → ℕ × Bool
further count found = (count + found.0, found.1)

-- what is found at the end of a line; where there is no whole line, no bytes and no end
abbrev pub at_line : Option ℕ → (ℕ → ℕ × Bool) → ℕ × Bool
at_line None found = (0, false)
at_line (Some len) found = found len

-- how many bytes are before the first whole line that ends the fleet, or before what is no whole line yet, and whether there is one; of no more lines than this
abbrev pub quit_in : ℕ → Rights → List ℕ → ℕ × Bool
quit_in zero rights bytes = (0, false)
quit_in (suc lines) rights bytes = at_line (position is_line_feed bytes) (λ len. if ends_fleet rights (take len bytes) then (0, true) else further (len + 1) (quit_in lines rights (drop (len + 1) bytes)))

-- the same for bytes that are searched from this one on, where those before have no line that ends the fleet
abbrev pub quit_from : Rights → List ℕ → ℕ → ℕ × Bool
quit_from rights bytes from = further (min from (length bytes)) (quit_in (length bytes) rights (drop (min from (length bytes)) bytes))
