-- The numbers of a script.
use Rattle.std.specs.Prelude.{ℕ, ◌-◌, ◌^◌, List, [], ◌∷◌, length, Option, Some, None, nat_le, if◌then◌else◌}
use Rattle.std.specs.Option.{option_map, option_and_then}
use Rattle.fleet_map.specs.Text.{number_of}

-- the number, where it is at most `most`
abbrev pub at_most : ℕ → ℕ → Option ℕ
at_most most n = if nat_le n most then Some n else None

-- the number of a word of 1 to 20 digits, where it is at most `most`
abbrev pub number_in : ℕ → List ℕ → Option ℕ
number_in most word = if nat_le (length word) 20 then option_and_then (at_most most) (number_of word) else None

-- the greatest number of 32 bits
abbrev pub most32 : ℕ
most32 = 2 ^ 32 - 1

-- the greatest number of 64 bits
abbrev pub most64 : ℕ
most64 = 2 ^ 64 - 1

-- the one number that the words are
abbrev pub one_in : ℕ → List (List ℕ) → Option ℕ
one_in most (word ∷ []) = number_in most word
one_in most words = None

-- the numbers that the words are
abbrev pub numbers_in : List (List ℕ) → Option (List ℕ)
numbers_in [] = Some []
numbers_in (word ∷ words) = option_and_then (λ n. option_map (λ ns. n ∷ ns) (numbers_in words)) (number_in most32 word)
