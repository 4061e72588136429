-- How long a chapter's text can be, and when a chapter is handed out for it.
use Rattle.std.specs.Prelude.{◌≡◌, ℕ, ◌+◌, ◌-◌, ◌*◌, ◌^◌, ◌≤◌, Bool, true, false, List, length, fold, min}
use Rattle.fleet_book.specs.declared.event.Event.{Event}
use Rattle.fleet_book.specs.declared.event.Event.TheVariants.{Take, Tick, Shut}
use Rattle.fleet_history.specs.declared.history.Opening.{Opening}
use Rattle.fleet_history.specs.declared.history.RobotState.{RobotState}
use Rattle.fleet_history.specs.History.{History, clients, clock, robots}
use Rattle.fleet_world.specs.Talk.{Talk}

-- a sum that stops at the greatest number of 64 bits
abbrev pub capped : ℕ → ℕ → ℕ
capped a b = min (a + b) (2 ^ 64 - 1)

-- a product that stops at the greatest number of 64 bits
abbrev pub product : ℕ → ℕ → ℕ
product a b = min (a * b) (2 ^ 64 - 1)

-- the errands in the robots' queues at an opening
abbrev pub errand_count : {A : Type 0} → List (RobotState A) → ℕ
errand_count rs = fold (λ sum r. capped sum (length r.errands)) 0 rs

-- an opening with empty queues: at most 128 bytes for its frame, 136 for a robot, 80 for a client
abbrev pub opening_bytes : ℕ → ℕ → ℕ
opening_bytes robots clients = capped (capped 128 (product robots 136)) (product clients 80)

-- a tick in which no robot arrives: a cell's number has at most seven digits, and a comma
abbrev pub tick_bytes : ℕ → ℕ
tick_bytes robots = capped 128 (product robots 8)

-- how many entries of a chapter are ticks
abbrev pub ticks_in : {A : Type 0} → History A → ℕ
ticks_in h = clock h - h.opening.tick

-- how many entries of a chapter are not ticks
abbrev pub others_in : {A : Type 0} → History A → ℕ
others_in h = length h.entries - ticks_in h

-- No less than the bytes of a chapter's text: an errand takes at most 48 in its queue and 104 where it is done with its robot's farewell; an
-- order takes at most 96, and may be an errand that is done.
abbrev pub chapter_bytes : {A : Type 0} → History A → ℕ
chapter_bytes h = capped
    (capped (opening_bytes (robots h) (clients h)) (product (errand_count h.opening.robots) 152))
    (capped (product (ticks_in h) (tick_bytes (robots h))) (product (others_in h) 200))

-- an event of which the chapter gets an entry, unless it is refused
abbrev pub makes_entry : Event → Bool
makes_entry (Take client) = true
makes_entry Tick = true
makes_entry (Shut robot) = true
makes_entry _ = false

-- before such an event: the chapter has an entry, and its text may have this many bytes
abbrev pub IsLong : {A : Type 0} → ℕ → Talk A → Event → Type 0
IsLong most s e = (makes_entry e ≡ true) × (1 ≤ length s.world.history.entries) × (most ≤ chapter_bytes s.world.history)
