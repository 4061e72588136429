-- The chapters of a run: why texts tell none, and whether they are legal.
use Rattle.std.specs.Prelude.{◌≡◌, ◌⊎◌, ℕ, ◌+◌, ◌^◌, ◌≤◌, List, [], ◌∷◌, length}
use Rattle.fleet_grid.specs.Floor.{Floor}
use Rattle.fleet_history.specs.History.{History}
use Rattle.fleet_trace.specs.Chapters.{IsEarly, IsSound, IsOutOfTurn, IsUnread}
use Rattle.fleet_trace.specs.Judged.{IsFirstIllegal}
use Rattle.fleet_trace.specs.Trace.{Trace}
use Rattle.fleet_stats.specs.declared.fault.StatsFault.{StatsFault}
use Rattle.fleet_stats.specs.declared.fault.StatsFault.TheVariants as fault

-- why the texts tell no chapters that follow one another, unless memory ran out
abbrev pub IsUntold : Floor → List (List ℕ) → StatsFault → Type 0
IsUntold m texts (fault.Trace number f) = IsUnread texts number f
IsUntold m texts (fault.Chapter number) = IsOutOfTurn m texts number
IsUntold m texts fault.NoMemory = Unit {0}
IsUntold m texts (fault.Map f) = ⊥
IsUntold m texts (fault.Late n) = ⊥
IsUntold m texts (fault.Illegal n at rule) = ⊥

-- each is legal on the map, and its clock stays below 2^63
abbrev pub AreSound : {A : Type 0} → Floor → List (Trace A) → Type 0
AreSound m [] = Unit {0}
AreSound m (t ∷ ts) = IsSound m t.history × AreSound m ts

-- why the trace of this number is not, unless memory ran out: its clock comes first, then its first entry that breaks a rule
abbrev pub IsUnsound : {A : Type 0} → Floor → ℕ → History A → StatsFault → Type 0
IsUnsound m number h (fault.Late n) = (n ≡ number) × (2 ^ 63 ≤ h.opening.tick + length h.entries)
IsUnsound m number h (fault.Illegal n at rule) = (n ≡ number) × IsEarly h × IsFirstIllegal m h at rule
IsUnsound m number h fault.NoMemory = Unit {0}
IsUnsound m number h (fault.Map f) = ⊥
IsUnsound m number h (fault.Trace n f) = ⊥
IsUnsound m number h (fault.Chapter n) = ⊥

-- the first trace that is not, of those from this number on
abbrev pub AreUnsound : {A : Type 0} → Floor → ℕ → List (Trace A) → StatsFault → Type 0
AreUnsound m number [] f = ⊥
AreUnsound m number (t ∷ ts) f = IsUnsound m number t.history f ⊎ (IsSound m t.history × AreUnsound m (number + 1) ts f)

-- why a run is not followed: its first trace that is not sound, or memory ran out
pub data IsUnfollowed {A : Type 0} (m : Floor) (ts : List (Trace A)) (f : StatsFault) : Type 0 where
  unsound : AreUnsound m 1 ts f → IsUnfollowed m ts f
  no_memory : f ≡ fault.NoMemory → IsUnfollowed m ts f
