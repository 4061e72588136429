use Rattle.std.proofs.Common.{◌≡◌, ◌++◌, take, drop, string_bytes}
use Rattle.std.specs.List.{AllByRecursion}
use Rattle.fleet_trace.specs.Fits.{EntryFits}
use Rattle.fleet_journal.specs.Text.{entry_lines}
use Rattle.fleet_journal.proofs.write.push_entries.Given as goal

abbrev pub invariant-loop-entry : goal.invariant-loop-entry
invariant-loop-entry g l = record {
  text : string_bytes l.text ++ entry_lines (drop l.entry-index l.entries) ≡ string_bytes l.fn.text ++ entry_lines l.entries;
  fits : AllByRecursion EntryFits (take l.entry-index l.entries);
}
