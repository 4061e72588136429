-- What is counted of turns and orders, and the line of counts.
use Rattle.std.specs.Prelude.{ℕ, ◌++◌, List, Option, Some, None, codes, decimal, max, nat_le, unwrap_or, if◌then◌else◌}
use Rattle.live_parts.specs.Notices.{capped}
use Rattle.live_parts.specs.declared.waits.WaitReport.{WaitReport}
use Rattle.live_parts.specs.declared.tally.Tally.{Tally}

-- the counts with one more tick
abbrev pub with_tick : Tally → Tally
with_tick t = record t { ticks = capped t.ticks 1 }

-- the counts with this many more orders
abbrev pub with_orders : Tally → ℕ → Tally
with_orders t orders = record t { orders = capped t.orders orders }

-- the counts with a turn that began this many microseconds after its deadline
abbrev pub with_lateness : Tally → (micros period : ℕ) → Tally
with_lateness t micros period = record t { late = if nat_le period micros then capped t.late 1 else t.late; latest = max t.latest micros }

-- what happened within this many seconds
abbrev pub counts_text : ℕ → Tally → List ℕ
counts_text seconds tally =
    codes "seconds " ++ (decimal seconds ++ (codes " ticks " ++ (decimal tally.ticks ++ (codes " orders " ++ (decimal tally.orders
    ++ (codes " late " ++ (decimal tally.late ++ (codes " latest " ++ (decimal tally.latest ++ codes "us")))))))))

-- the longest wait, and the limit of all waits, if there is one
abbrev pub wait_text : ℕ → Option ℕ → List ℕ
wait_text wait None = codes " wait " ++ (decimal wait ++ codes "\n")
wait_text wait (Some most) = codes " wait " ++ (decimal wait ++ (codes " below " ++ (decimal most ++ codes "\n")))

-- what happened within this many seconds, and how long robots wait at their end; the longest wait is 0 if nobody waits
abbrev pub counts_line : ℕ → Tally → WaitReport → List ℕ
counts_line seconds tally waits = counts_text seconds tally ++ wait_text (unwrap_or waits.longest 0) waits.limit
