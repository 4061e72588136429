-- Chapters as they are read and compared one by one.
use Rattle.std.specs.Prelude.{⊤, ◌≡◌, ◌≢◌, ℕ, ◌+◌, Bool, ◌==◌, ◌&&◌, List, [], ◌∷◌, ◌++◌, length, map}
use Rattle.std.specs.Str.{bytes_eq}
use Rattle.std.specs.declared.alloc.Global.{Global}
use Rattle.fleet_history.specs.History.{clock, place}
use Rattle.fleet_trace.specs.declared.fault.ChaptersFault.{ChaptersFault}
use Rattle.fleet_trace.specs.declared.fault.ChaptersFault.TheVariants as fault
use Rattle.fleet_trace.specs.declared.fault.TraceFault.TheVariants as trace_fault
use Rattle.fleet_trace.specs.Trace.{Trace}
use Rattle.fleet_trace.specs.Reads.{Tells, IsTraceFault}
use Rattle.fleet_trace.specs.Chapters.{IsUnread}

-- the text tells one more trace
abbrev pub IsToldMore : List ℕ → List (Trace Global) → List (Trace Global) → Type 0
IsToldMore text ts more = (t : Trace Global) × Tells text t × (more ≡ ts ++ t ∷ [])

-- why the text of this number tells no trace, unless memory ran out
abbrev pub IsUntold : ℕ → List ℕ → ChaptersFault → Type 0
IsUntold number text (fault.Trace n f) = (n ≡ number) × IsTraceFault text f × (f ≢ trace_fault.NoMemory)
IsUntold number text (fault.Chapter n) = ⊥
IsUntold number text fault.NoMemory = ⊤

-- why one of the texts tells no trace, unless memory ran out
abbrev pub AreUntold : List (List ℕ) → ChaptersFault → Type 0
AreUntold texts (fault.Trace n f) = IsUnread texts n f
AreUntold texts (fault.Chapter n) = ⊥
AreUntold texts fault.NoMemory = ⊤

-- the next number, the clock, the cells, as many clients and the same limits
abbrev pub goes_on : {A : Type 0} → Trace A → Trace A → Bool
goes_on t u = (u.number == t.number + 1)
    && ((u.history.opening.tick == clock t.history)
    && (bytes_eq (map (λ x. x.cell) u.history.opening.robots) (place t.history)
    && ((length u.history.opening.clients == length t.history.opening.clients)
    && ((u.history.opening.queue == t.history.opening.queue) && (u.history.opening.life == t.history.opening.life)))))
