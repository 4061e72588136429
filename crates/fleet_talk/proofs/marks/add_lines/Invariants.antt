use Rattle.std.proofs.Common.{◌≡◌, ◌++◌, true, drop}
use Rattle.fleet_talk.specs.Says.{marked_from}
use Rattle.fleet_talk.proofs.marks.add_lines.Given as goal

abbrev pub invariant-loop-byte : goal.invariant-loop-byte
invariant-loop-byte g l = l.out.items ++ marked_from l.mark l.begins (drop l.byte-index l.text) ≡ l.fn.out.items ++ marked_from l.mark true l.text
