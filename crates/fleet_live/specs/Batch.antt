-- How far a batch is.
use Rattle.std.specs.Prelude.{ℕ, ◌+◌, ◌-◌, ◌^◌, true, false, min, nat_lt, if◌then◌else◌}
use Rattle.fleet_live.specs.declared.batch.Batch.{Batch}

-- one more, up to the greatest number of 32 bits
abbrev pub one_more : ℕ → ℕ
one_more n = min (n + 1) (2 ^ 32 - 1)

-- something was done in it
abbrev pub with_deed : Batch → Batch
with_deed b = record b { untimed = one_more b.untimed; is_empty = false; is_timed = false }

-- a line was heard in it, or a part of an answer told
abbrev pub with_line : Batch → Batch
with_line b = with_deed (record b { row = one_more b.row; all = one_more b.all })

-- the one after it
abbrev pub after : Batch → Batch
after b = record b { row = 0; all = 0; is_empty = true }

-- the conversation after this one, of this many
abbrev pub place_after : (places at : ℕ) → ℕ
place_after places at = if nat_lt (at + 1) places then at + 1 else 0
