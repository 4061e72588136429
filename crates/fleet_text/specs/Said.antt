-- An answer without where its texts lie in memory.
use Rattle.std.specs.Prelude.{string_bytes}
use Rattle.fleet_text.specs.declared.said.Said.{Said}
use Rattle.fleet_text.specs.Outcome.{Outcome}
use Rattle.fleet_text.specs.Pieces.{pieces_text}

-- what there is for the two writers, and the status, without its memory
abbrev pub said : Said → Outcome
said s = record { output = pieces_text s.output.items; status = s.status; complaint = string_bytes s.complaint }
