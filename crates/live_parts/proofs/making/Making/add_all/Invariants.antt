-- What the entries so far made, and the others.
use Rattle.std.proofs.Common.{◌≡◌, drop}
use Rattle.std.specs.Prelude.{fold}
use Rattle.live_parts.specs.inside.Making.{added}
use Rattle.live_parts.proofs.making.Making.add_all.Given as goal

abbrev pub invariant-loop-entry : goal.invariant-loop-entry
invariant-loop-entry l = fold (added l.client) l.self (drop l.entry-index l.entries) ≡ fold (added l.client) l.fn.self l.entries
