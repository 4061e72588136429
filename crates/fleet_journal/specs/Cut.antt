-- A journal that was cut.
use Rattle.std.specs.Prelude.{◌≡◌, ℕ, ◌+◌, ◌<◌, ◌≤◌, length, take}
use Rattle.std.specs.declared.alloc.Global.{Global}
use Rattle.fleet_trace.specs.Trace.{Trace}
use Rattle.fleet_journal.specs.Journal.{IsJournal}
use Rattle.fleet_journal.specs.Text.{journal_text}

-- the trace, as far as its first entries say
abbrev pub cut_after : Trace Global → ℕ → Trace Global
cut_after t n = record t { history = record t.history { entries = take n t.history.entries } }

-- the first bytes of the journal's text tell the first entries: all those whose lines are whole
pub record IsCut (t : Trace Global) (bytes : ℕ) : Type 0 where
  pub entries : ℕ
  pub few : entries ≤ length t.history.entries
  pub tells : IsJournal (take bytes (journal_text t)) (cut_after t entries)
  pub whole : length (journal_text (cut_after t entries)) ≤ bytes
  pub most : entries < length t.history.entries → bytes < length (journal_text (cut_after t (entries + 1)))
