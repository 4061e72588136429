-- What there is room for.
use Rattle.std.specs.Prelude.{⊤, ℕ, List, Option, Some, None, length, vec_len}
use Rattle.live_fleet.specs.declared.rest.Listing.{Listing}
use Rattle.live_fleet.specs.declared.rest.Rest.{Rest}
use Rattle.live_fleet.specs.declared.rest.Rest.TheVariants as rest
use Rattle.live_fleet.specs.Answering.{mark_kept}
use Rattle.live_fleet.specs.Out.{Fits}
use Rattle.live_parts.specs.Notices.{capped}

-- the length of a mark with the blank after it
abbrev pub mark_len : Option (List ℕ) → ℕ
mark_len None = 0
mark_len (Some mark) = capped (length mark) 1

-- how long the next line of a list is at most
abbrev pub listed_len : Listing → ℕ
listed_len list = capped (mark_len (mark_kept list.mark)) 128

-- where this waits, there is room for what is left of an answer, or for its next line
abbrev pub HasRoom : List ℕ → Rest → Type 0
HasRoom waits (rest.Line line) = Fits waits (vec_len line)
HasRoom waits (rest.Listing list) = Fits waits (listed_len list)
HasRoom waits _ = ⊤
