-- A line of the program without where its bytes lie in memory.
use Rattle.std.specs.Option.{option_map}
use Rattle.fleet_talk.specs.declared.ask.Line.{Line}
use Rattle.fleet_talk.specs.Ask as spec

-- the line, without where its bytes lie
abbrev pub line_shown : Line → spec.Line
line_shown l = record { number = l.number; mark = option_map (λ m. m.now) l.mark; told = l.told.now; asked = l.asked }
