-- The lines of the verdicts so far, and those of the others.
use Rattle.std.proofs.Common.{◌≡◌, ◌++◌, drop, string_bytes}
use Rattle.std.specs.List.{flat_map}
use Rattle.live_parts.specs.Figures.{kind_line}
use Rattle.live_parts.proofs.verdicts.add_kinds.Given as goal

abbrev pub invariant-loop-verdict : goal.invariant-loop-verdict
invariant-loop-verdict l = string_bytes l.text ++ flat_map (kind_line l.notices) (drop l.verdict-index l.verdicts) ≡ string_bytes l.fn.text ++ flat_map (kind_line l.notices) l.verdicts
