-- About how long a chapter's text is.
use Rattle.std.specs.Prelude.{ℕ, ◌+◌, ◌-◌, ◌*◌, ◌^◌, length, decimal, min}
use Rattle.live_parts.specs.Notices.{capped}
use Rattle.live_parts.specs.declared.size.ChapterSize.{ChapterSize}

-- a product that stops at the greatest number of 64 bits
abbrev pub product : ℕ → ℕ → ℕ
product a b = min (a * b) (2 ^ 64 - 1)

-- the bytes of an opening with empty queues
abbrev pub opening_bytes : ℕ → ℕ → ℕ
opening_bytes robots clients = capped (capped 128 (robots * 136)) (clients * 80)

-- the bytes of a tick in which no robot arrives, on a map of this many cells
abbrev pub tick_bytes : ℕ → ℕ → ℕ
tick_bytes robots cells = capped 128 (product robots (length (decimal cells) + 1))

-- the bytes of errands that are done, each with its robot's farewell
abbrev pub arrived_bytes : ℕ → ℕ
arrived_bytes arrived = arrived * 104

-- the bytes of this many orders
abbrev pub order_bytes : ℕ → ℕ
order_bytes orders = orders * 96

-- the size of a chapter that begins with this many errands in the queues
abbrev pub begun : ChapterSize → ℕ → ChapterSize
begun s errands = record s { bytes = capped s.least (product errands 48) }

-- the size with a tick in which this many errands were done
abbrev pub with_tick : ChapterSize → ℕ → ChapterSize
with_tick s arrived = record s { bytes = capped (capped s.bytes s.tick) (arrived_bytes arrived) }

-- the size with this many more orders
abbrev pub with_orders : ChapterSize → ℕ → ChapterSize
with_orders s orders = record s { bytes = capped s.bytes (order_bytes orders) }
