-- How far a journal was read.
use Rattle.std.specs.Prelude.{◌≡◌, ℕ, List, ◌++◌}
use Rattle.fleet_history.specs.declared.history.Entry.{Entry}
use Rattle.fleet_journal.specs.Lines.{whole_lines, bytes_of}
use Rattle.fleet_journal.specs.Journal.{AreEntryLines}

-- these entries were read, and the rest of the bytes was not
pub record HasRead {A : Type 0} (bytes rest : List ℕ) (es : List (Entry A)) : Type 0 where
  pub lines : List (List ℕ)
  pub tell : AreEntryLines lines es
  pub before : whole_lines bytes ≡ lines ++ whole_lines rest
  pub joined : bytes ≡ bytes_of lines ++ rest
