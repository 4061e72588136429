-- What a client that comes again is told: how far the fleet is with it, and what it was told.
use Rattle.std.specs.Prelude.{ℕ, ◌-◌, zero, suc, Bool, false, ◌||◌, List, [], ◌∷◌, ◌++◌, length, Option, Some, None, codes, decimal, slice_get, if◌then◌else◌}
use Rattle.std.specs.List.{flat_map}
use Rattle.fleet_book.specs.declared.notice.Notice.{Notice}
use Rattle.fleet_text.specs.Output.{notice_line}
use Rattle.live_parts.specs.Notices.{capped}
use Rattle.live_parts.specs.Recalls.{Recalls, first_of, later_than, recall_of}
use Rattle.live_fleet.specs.declared.notes.Note.{Note}
use Rattle.live_fleet.specs.declared.sessions.Standing.{Standing}

-- ---- how far the fleet is with a client

-- what is known of a client's posts; of a client that there is none, that it posted nothing
abbrev pub note_or : Option Note → Note
note_or (Some note) = note
note_or None = record { closed = false; last = 0 }

-- what is known of the posts of the client with this number
abbrev pub note_at : List Note → ℕ → Note
note_at notes client = note_or (slice_get notes client)

-- how many of its orders the fleet has, how many notices it was told, which of them is the first that can be told again, and whether it was closed
abbrev pub standing_at : List Note → Recalls → ℕ → Standing
standing_at notes recalls client = record {
  client = client;
  orders = (note_at notes client).last;
  told = (recall_of recalls client).told;
  first = first_of (recall_of recalls client);
  closed = (note_at notes client).closed || (recall_of recalls client).closed;
}

-- whether a client is closed, as one word
abbrev pub closed_word : Bool → List ℕ
closed_word closed = if closed then codes "true" else codes "false"

-- the line of how far the fleet is with a client
abbrev pub session_line : Standing → List ℕ
session_line x =
    codes "session " ++ (decimal x.client ++ (codes " orders " ++ (decimal x.orders ++ (codes " notices " ++ (decimal x.told
    ++ (codes " told from " ++ (decimal x.first ++ (codes " closed " ++ (closed_word x.closed ++ codes "\n")))))))))

-- ---- notices that are told again

-- the length of a mark with the blank after it
abbrev pub mark_len : Option (List ℕ) → ℕ
mark_len None = 0
mark_len (Some mark) = capped (length mark) 1

-- The first of these notices, as many as one answer has of which so much is left: another follows as long as any is left. Each line has a mark of this length
abbrev pub told_again : (mark client left : ℕ) → List Notice → List Notice
told_again mark client left [] = []
told_again mark client zero (notice ∷ notices) = []
told_again mark client (suc left) (notice ∷ notices) = notice ∷ told_again mark client (suc left - length (notice_line client notice) - mark) notices

-- how many they are
abbrev pub since_end : ℕ → ℕ → List ℕ
since_end client count = codes "since " ++ (decimal client ++ (codes " end " ++ (decimal count ++ codes "\n")))

-- the line of each, as it was told before
abbrev pub again_text : ℕ → List Notice → List ℕ
again_text client notices = flat_map (notice_line client) notices ++ since_end client (length notices)

-- the notices after the one of this number: of their lines one answer has 14,336 bytes, and the line that ends them
abbrev pub since_text : Recalls → (mark client seq : ℕ) → List ℕ
since_text recalls mark client seq = again_text client (told_again mark client 14336 (later_than seq (recall_of recalls client).notices))
