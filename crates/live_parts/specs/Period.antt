-- The time between two turns, in microseconds.
use Rattle.std.specs.Prelude.{ℕ, ◌*◌, Bool, true, List, Option, Some, None, take, drop, nat_lt, if◌then◌else◌, codes}
use Rattle.std.specs.List.{position}
use Rattle.std.specs.Option.{option_and_then}
use Rattle.std.specs.Str.{bytes_eq}
use Rattle.fleet_map.specs.Text.{number_of}

-- a byte that is no digit
abbrev pub is_letter : ℕ → Bool
is_letter byte = if nat_lt byte 48 then true else nat_lt 57 byte

-- how many microseconds a unit has
abbrev pub unit_named : List ℕ → Option ℕ
unit_named word =
    if bytes_eq word (codes "us") then Some 1
    else if bytes_eq word (codes "ms") then Some 1000
    else if bytes_eq word (codes "s") then Some 1000000
    else None

-- from one microsecond to an hour
abbrev pub within_hour : ℕ → Option ℕ
within_hour micros = if nat_lt 0 micros then (if nat_lt 3600000000 micros then None else Some micros) else None

-- a number of units, which is itself no more than the microseconds of an hour
abbrev pub timed : ℕ → ℕ → Option ℕ
timed unit number = if nat_lt 3600000000 number then None else within_hour (number * unit)

-- a number and a unit next to it, as 20ms
abbrev pub period_at : List ℕ → ℕ → Option ℕ
period_at word at = option_and_then (λ unit. option_and_then (timed unit) (number_of (take at word))) (unit_named (drop at word))

-- the microseconds that a word says, as 20ms; `None` of a word that says none, or more than an hour
abbrev pub period_in : List ℕ → Option ℕ
period_in word = option_and_then (period_at word) (position is_letter word)
