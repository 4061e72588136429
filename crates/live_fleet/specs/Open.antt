-- Whether a conversation may be told notices.
use Rattle.std.specs.Prelude.{ℕ, Bool, true, false, Option, Some, None}
use Rattle.live_fleet.specs.declared.rest.Rest.{Rest}
use Rattle.live_fleet.specs.declared.rest.Rest.TheVariants as rest

-- no answer waits for room, and not all is said
abbrev pub is_open : Rest → Bool
is_open rest.Nothing = true
is_open (rest.Line text) = false
is_open (rest.Ticking mark left) = true
is_open (rest.Listing list) = false
is_open (rest.Keeping mark chapter entries) = true
is_open rest.Ending = true
is_open rest.Ended = false

-- whether nothing is left of an answer
abbrev pub is_done : Rest → Bool
is_done rest.Nothing = true
is_done _ = false

-- how many turns are to be made for it
abbrev pub turns_left : Rest → Option ℕ
turns_left (rest.Ticking mark left) = Some left
turns_left _ = None

-- whether the fleet has ended, and what is left is still to be told
abbrev pub is_ending : Rest → Bool
is_ending rest.Ending = true
is_ending _ = false
