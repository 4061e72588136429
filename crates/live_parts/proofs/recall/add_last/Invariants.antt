-- The last of the notices, as many as were added, before those that were kept.
use Rattle.std.proofs.Common.{◌≡◌, ◌-◌, ◌++◌, drop, length}
use Rattle.live_parts.proofs.recall.add_last.Given as goal

abbrev pub invariant-loop-at : goal.invariant-loop-at
invariant-loop-at l = l.notices.items ≡ drop (length l.before - l.at) l.before ++ l.fn.notices.items
