-- How the ticks of a fleet are planned, by the word after `--planner`.
use Rattle.std.specs.Prelude.{ℕ, List, Option, Some, None, codes, if◌then◌else◌}
use Rattle.std.specs.Str.{bytes_eq}
use Rattle.mover.specs.declared.manner.Manner.{Manner}
use Rattle.mover.specs.declared.manner.Manner.TheVariants as manner

-- the manner of a name
abbrev pub manner_named : List ℕ → Option Manner
manner_named word =
    if bytes_eq word (codes "plain") then Some manner.Plain
    else if bytes_eq word (codes "turns") then Some manner.Turns
    else None

-- plainly without a word
abbrev pub manner_asked : Option (List ℕ) → Option Manner
manner_asked None = Some manner.Plain
manner_asked (Some word) = manner_named word
