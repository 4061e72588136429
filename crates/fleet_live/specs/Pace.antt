-- When turns, figures and chapters are due, in microseconds.
use Rattle.std.specs.Prelude.{ℕ, ◌-◌, ◌/◌, Bool, false, Option, Some, None, min, max, nat_le, nat_lt, option_map, unwrap_or, if◌then◌else◌}
use Rattle.live_parts.specs.Notices.{capped}
use Rattle.fleet_live.specs.declared.pace.Pace.{Pace}
use Rattle.fleet_live.specs.declared.pace.Timer.{Timer}

-- a time, or the greatest that is counted
abbrev pub counted_micros : ℕ → ℕ
counted_micros micros = min micros 2000000000000000000

-- the time between two turns
abbrev pub period_length : Option ℕ → ℕ
period_length period = max 1 (unwrap_or period 0)

-- the earlier of two times, where there is one
abbrev pub earlier : Option ℕ → Option ℕ → Option ℕ
earlier (Some one) (Some other) = Some (min one other)
earlier (Some one) None = Some one
earlier None other = other

-- when a timer is due
abbrev pub due_of : Option Timer → Option ℕ
due_of timer = option_map (λ t. t.due) timer

-- a timer is due
abbrev pub strikes : Option Timer → ℕ → Bool
strikes None now = false
strikes (Some timer) now = nat_le timer.due now

-- after it was looked at: one that was due is again later
abbrev pub struck : Option Timer → ℕ → Option Timer
struck None now = None
struck (Some timer) now = Some (if nat_le timer.due now then record timer { due = capped now timer.every } else timer)

-- when the next turn is due, if turns come by themselves
abbrev pub turn_due : Pace → Option ℕ
turn_due p = option_map (λ period. p.turn) p.period

-- when something is due, if anything is at times
abbrev pub next_due : Pace → Option ℕ
next_due p = earlier (turn_due p) (earlier (due_of p.figures) (due_of p.chapter))

-- the seconds since the last line of counts, if the next is due
abbrev pub line_seconds : Pace → Option ℕ
line_seconds p = if nat_lt p.now p.line then None else Some (capped ((p.now - p.line) / 1000000) 60)
