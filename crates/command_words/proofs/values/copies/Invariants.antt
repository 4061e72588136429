use Rattle.std.proofs.Common.{◌≡◌, ◌++◌, drop, map, string_bytes}
use Rattle.command_words.proofs.values.copies.Given as goal

abbrev pub invariant-loop-word : goal.invariant-loop-word
invariant-loop-word l = map (λ s. string_bytes s) l.copies.items ++ map (λ w. w.now) (drop l.word-index l.words) ≡ map (λ w. w.now) l.words
