-- What the words of a command line give to its arguments.
use Rattle.std.specs.Prelude.{Bool, false, List, [], Option, Some, None, codes}
use Rattle.std.specs.Option.{option_map_or}
use Rattle.std.specs.Str.{bytes_eq}
use Rattle.clap.specs.Words.{Text, Row, first_of}

-- whether a flag was given
abbrev pub has_flag : Text → List Row → Bool
has_flag name rows = option_map_or (λ word. bytes_eq word (codes "true")) (first_of name rows) false

-- the words of an argument that may have none
abbrev pub or_none : Option (List Text) → List Text
or_none None = []
or_none (Some words) = words
