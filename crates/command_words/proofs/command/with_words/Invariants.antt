use Rattle.std.proofs.Common.{◌≡◌, drop, map}
use Rattle.clap.specs.Words.{app_of}
use Rattle.command_words.specs.Table.{with_words, word_app}
use Rattle.command_words.proofs.command.with_words.Given as goal

-- the words that are left make of this command what all of them make of the first
abbrev pub invariant-loop-word : goal.invariant-loop-word
invariant-loop-word l = with_words (app_of l.command) (map word_app (drop l.word-index l.words)) ≡ with_words (app_of l.initial.command) (map word_app l.words)
