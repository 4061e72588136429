-- Why words name no job.
use Rattle.std.specs.Prelude.{Bool, true, false, not}
use Rattle.clap.specs.declared.error.kind.ErrorKind.{ErrorKind}
use Rattle.clap.specs.declared.error.kind.ErrorKind.TheVariants.{DisplayHelp, DisplayVersion}
use Rattle.command_words.specs.declared.words.WordFault.{WordFault}
use Rattle.command_words.specs.declared.words.WordFault.TheVariants.{Words, Help, NoMemory}

-- whether an error is that of words that ask for help or for the version
abbrev pub is_request : ErrorKind → Bool
is_request DisplayHelp = true
is_request DisplayVersion = true
is_request _ = false

-- whether an error is that of words that are called wrong
abbrev pub is_mistake : ErrorKind → Bool
is_mistake kind = not (is_request kind)

-- whether help, or the version, is the answer
abbrev pub is_help : WordFault → Bool
is_help (Words text) = false
is_help (Help text) = true
is_help NoMemory = false

-- whether the words are called wrong
abbrev pub is_wrong : WordFault → Bool
is_wrong (Words text) = true
is_wrong (Help text) = false
is_wrong NoMemory = false
