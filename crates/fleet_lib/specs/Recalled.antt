-- How many notices are kept to be told again, and those of the chapters before a fleet goes on.
use Rattle.std.specs.Prelude.{◌≡◌, ◌≢◌, ℕ, ◌<◌, ◌≤◌, Bool, false, List, Option, Some, None, if◌then◌else◌, nat_le}
use Rattle.std.specs.List.{list_any, range_with_len}
use Rattle.std.specs.Option.{option_and_then}
use Rattle.std.specs.declared.alloc.Global.{Global}
use Rattle.fleet_history.specs.History.{History, client_at, clients}
use Rattle.fleet_history.specs.Notices.{notices}
use Rattle.fleet_map.specs.Text.{number_of}
use Rattle.fleet_trace.specs.Reads.{IsTraceFault, Tells}
use Rattle.fleet_trace.specs.Trace.{Trace}
use Rattle.fleet_trace.specs.declared.fault.TraceFault.{TraceFault}
use Rattle.fleet_trace.specs.declared.fault.TraceFault.TheVariants as trace_fault
use Rattle.live_parts.specs.Recalls.{IsCounted, Recalls, recall_of, wants_more, with_before}

-- the number, where it is at most 16,777,216
abbrev pub few : ℕ → Option ℕ
few n = if nat_le n 16777216 then Some n else None

-- how many are kept of each client: what the word says, or by default 65536 where a journal is written, and else none
abbrev pub recall_asked : Option (List ℕ) → Bool → Option ℕ
recall_asked (Some word) journal = option_and_then few (number_of word)
recall_asked None journal = Some (if journal then 65536 else 0)

-- the notices of a history are kept before those that were kept, as many as there is room for
pub record AddsChapter (h : History Global) (old new : Recalls) (more : Bool) : Type 0 where
  pub most : new.most ≡ old.most
  pub kept : (c : ℕ) → c < clients h → IsCounted h c → recall_of new c ≡ with_before old.most (notices h c) (recall_of old c)
  pub others : (c : ℕ) → clients h ≤ c → recall_of new c ≡ recall_of old c
  -- there is more room, and there were notices before
  pub wants : more ≡ list_any (λ c. wants_more old.most (client_at h c) (recall_of new c)) (range_with_len 0 (clients h))

-- the notices of the chapter that a text tells are kept so; none of a text that tells none
pub data AddsTrace (text : List ℕ) (old new : Recalls) (more : Bool) : Type 0 where
  told : (t : Trace Global) → Tells text t → AddsChapter t.history old new more → AddsTrace text old new more
  untold : (f : TraceFault) → IsTraceFault text f → f ≢ trace_fault.NoMemory → new ≡ old → more ≡ false → AddsTrace text old new more
