use Rattle.std.proofs.Common.{◌≡◌, ℕ, List, ◌++◌, length, take}
use Rattle.fleet_c.specs.Sentences.{over}
use Rattle.fleet_c.proofs.message.write.Given as goal

abbrev pub invariant-loop-index : goal.invariant-loop-index
invariant-loop-index l = (before told : List ℕ) → l.fn.text ≡ over before told → l.at ≡ length told → l.text ≡ over before (told ++ take l.index l.bytes)
