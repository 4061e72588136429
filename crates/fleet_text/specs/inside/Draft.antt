-- A report that is being made.
use Rattle.std.specs.Prelude.{ℕ, List, ◌++◌, string_bytes}
use Rattle.fleet_text.specs.declared.reporting.Draft.{Draft}
use Rattle.fleet_text.specs.Pieces.{pieces_text}

-- the text of its pieces, and what comes after them
abbrev pub draft_text : Draft → List ℕ
draft_text r = pieces_text r.pieces.items ++ string_bytes r.text
