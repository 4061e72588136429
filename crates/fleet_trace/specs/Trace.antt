-- What a trace tells.
use Rattle.std.specs.Prelude.{ℕ}
use Rattle.fleet_history.specs.declared.history.Chapter.{Chapter}
use Rattle.fleet_history.specs.History.{History, history_of}

-- the number of a chapter, and its history
pub record Trace (A : Type 0) : Type 0 where
  pub number : ℕ
  pub history : History A

-- what a chapter's trace tells
abbrev pub trace_of : {A : Type 0} → Chapter A → Trace A
trace_of c = record { number = c.number; history = history_of c }
