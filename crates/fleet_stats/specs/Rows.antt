-- The errands that a run accepted: those that it did, and those that are left.
use Rattle.std.specs.Prelude.{ℕ, ◌+◌, ◌-◌, ◌*◌, ◌^◌, min, slice_index, ◌==◌, ◌&&◌, nat_le, if◌then◌else◌, List, [], ◌∷◌, Option, Some, None, map, filter, length, slice_get, slice_index_or}
use Rattle.std.specs.List.{flat_map, range_with_len}
use Rattle.fleet_grid.specs.Floor.{Floor, is_floor}
use Rattle.fleet_grid.specs.Distance.{distance}
use Rattle.fleet_history.specs.declared.history.ClientState.{ClientState}
use Rattle.fleet_history.specs.History.{unknown_client}
use Rattle.fleet_trace.specs.Trace.{Trace}
use Rattle.fleet_stats.specs.declared.notes.Notes.{Notes as Recorded}
use Rattle.fleet_stats.specs.declared.rows.Landed.{Landed}
use Rattle.fleet_stats.specs.declared.rows.Taken.{Taken}
use Rattle.fleet_stats.specs.declared.rows.Served.{Served}
use Rattle.fleet_stats.specs.declared.rows.ErrandRow.{ErrandRow}
use Rattle.fleet_stats.specs.declared.rows.Left.{Left}
use Rattle.fleet_stats.specs.declared.rows.LeftRow.{LeftRow}
use Rattle.fleet_stats.specs.Noted.{Notes}

-- what was recorded, as lists
abbrev pub shown : Recorded → Notes
shown n = record { legs = n.legs.items; ticks = n.ticks.items; landed = n.landed.items; stood = n.stood.items; taken = n.taken.items; kinds = n.kinds.items; left = n.left.items }

-- the clients of the first opening
abbrev pub clients_in : {A : Type 0} → List (Trace A) → List ClientState
clients_in [] = []
clients_in (t ∷ ts) = t.history.opening.clients

-- ---- when an errand was accepted

-- the clocks at which errands of the client were accepted, in order
abbrev pub times_of : List Taken → ℕ → List ℕ
times_of taken c = map (λ x. x.tick) (filter (λ x. x.client == c) taken)

-- the clocks at which errands were accepted, by client
abbrev pub all_times : List Taken → ℕ → List (List ℕ)
all_times taken clients = map (times_of taken) (range_with_len 0 clients)

-- how many errands of the client were accepted before the run
abbrev pub accepted_before : List ClientState → ℕ → ℕ
accepted_before clients c = (slice_index_or clients c unknown_client).accepted

-- the accepted errands of a client are numbered in order, from 1 on
abbrev pub time_in : ℕ → ℕ → List ℕ → Option ℕ
time_in before number times = if nat_le number before then None else slice_get times (number - before - 1)

-- when the run accepted the client's errand of this number; `None` if it was accepted before
abbrev pub accepted_at : List ClientState → List (List ℕ) → ℕ → ℕ → Option ℕ
accepted_at clients times c number = time_in (accepted_before clients c) number (slice_index_or times c [])

-- ---- rows of errands that were done

-- how far apart two floor cells are
abbrev pub away : Floor → ℕ → ℕ → Option ℕ
away m from to = if is_floor m from && is_floor m to then distance m from to else None

-- an errand that was done, where the run accepted it, with the clock of its acceptance
abbrev pub served_if : Option ℕ → Landed → List Served
served_if None x = []
served_if (Some t) x = record { accepted = t; done = x } ∷ []

-- an errand that was done, where the run accepted it, by the clocks of the acceptances
abbrev pub served_of : List ClientState → List (List ℕ) → Landed → List Served
served_of clients times x = served_if (accepted_at clients times x.client x.number) x

-- the errands that the run accepted and did, in the order of arrival
abbrev pub served_rows : List ClientState → List Taken → List Landed → List Served
served_rows clients taken landed = flat_map (served_of clients (all_times taken (length clients))) landed

-- a row of an errand that was done, with the distance from where its robot began it
abbrev pub measured : Floor → Served → ErrandRow
measured m x = record { accepted = x.accepted; done = x.done; distance = away m x.done.leg.from x.done.cell }

-- a row for each of them
abbrev pub errand_rows : Floor → List ClientState → List Taken → List Landed → List ErrandRow
errand_rows m clients taken landed = map (measured m) (served_rows clients taken landed)

-- the goal at a place and the place, in one number
abbrev pub goal_key : List ℕ → ℕ → ℕ
goal_key goals place = min (slice_index goals place * 4294967296 + place) (2 ^ 64 - 1)

-- ---- rows of errands that are left

abbrev pub left_row_of : List ClientState → List (List ℕ) → Left → LeftRow
left_row_of clients times x = record { accepted = accepted_at clients times x.client x.number; left = x }

-- a row for each errand that is left, in their order
abbrev pub left_rows : List ClientState → List Taken → List Left → List LeftRow
left_rows clients taken left = map (left_row_of clients (all_times taken (length clients))) left
