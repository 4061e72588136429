-- The linear congruential generator of Knuth's MMIX (The Art of Computer Programming, volume 2, section 3.3.4).
use Rattle.std.specs.Prelude.{ℕ, ◌+◌, ◌*◌, ◌/◌, ◌%◌, ◌^◌}

-- the seed after this one
abbrev pub next_seed : ℕ → ℕ
next_seed seed = (seed * 6364136223846793005 + 1442695040888963407) % 2 ^ 64

-- the number below a bound that a seed gives, by its upper bits
abbrev pub drawn : ℕ → ℕ → ℕ
drawn seed bound = seed / 2 ^ 33 % bound
