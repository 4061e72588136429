-- What clients were told, kept to be told again.
use Rattle.std.specs.Prelude.{ℕ, ◌+◌, ◌-◌, ◌^◌, ◌<◌, ◌≤◌, ◌==◌, ◌&&◌, Bool, true, false, All, List, [], ◌∷◌, ◌++◌, Option, Some, None, drop, filter, if◌then◌else◌, length, nat_lt, slice_get, slice_index_or, slice_set}
use Rattle.fleet_book.specs.declared.notice.Notice.{Notice}
use Rattle.fleet_history.specs.declared.history.ClientState.{ClientState}
use Rattle.fleet_history.specs.History.{History, clock, taken_count}
use Rattle.fleet_history.specs.Notices.{noticed_count, seq_of}
use Rattle.live_parts.specs.Notices.{capped}

-- what a client was told: the last notices, how many there were, and whether it was closed when the fleet began or went on
pub record Recall : Type 0 where
  pub notices : List Notice
  pub told : ℕ
  pub closed : Bool

-- what each client was told; of each at most `most` notices are kept
pub record Recalls : Type 0 where
  pub most : ℕ
  pub clients : List Recall

-- a client that was told nothing, and is not closed
abbrev pub nothing_told : Recall
nothing_told = record { notices = []; told = 0; closed = false }

-- what a client was told
abbrev pub recall_at : List Recall → ℕ → Recall
recall_at rs c = slice_index_or rs c nothing_told

-- what a client was told
abbrev pub recall_of : Recalls → ℕ → Recall
recall_of s c = recall_at s.clients c

-- the last of a list, at most a number of them
abbrev pub last_of : {X : Type 0} → ℕ → List X → List X
last_of most xs = drop (length xs - most) xs

-- what a client was told with one more notice, of which at most `most` are kept
abbrev pub with_notice : ℕ → Notice → Recall → Recall
with_notice most n r = record r { notices = last_of most (r.notices ++ n ∷ []); told = seq_of n }

-- a client was told a notice
abbrev pub noted : ℕ → Notice → Recalls → Recalls
noted c n s = record s { clients = slice_set s.clients c (with_notice s.most n (recall_of s c)) }

-- the number of the first notice, or of the one after all that were told
abbrev pub first_seq : List Notice → ℕ → ℕ
first_seq [] told = capped told 1
first_seq (n ∷ ns) told = seq_of n

-- the number of the first notice that is kept, or of the one after all that were told
abbrev pub first_of : Recall → ℕ
first_of r = first_seq r.notices r.told

-- the notices whose number is greater
abbrev pub later_than : ℕ → List Notice → List Notice
later_than seq ns = filter (λ n. nat_lt seq (seq_of n)) ns

-- ---- a fleet that begins, or goes on

-- the last of the notices
abbrev pub last_notice : List Notice → Option Notice
last_notice ns = slice_get ns (length ns - 1)

-- whether the notice has this number, or there is none
abbrev pub is_numbered : ℕ → Option Notice → Bool
is_numbered seq None = true
is_numbered seq (Some n) = seq_of n == seq

-- what was noticed was told; what is kept stays if it ends there
abbrev pub begun : ClientState → Recall → Recall
begun client r = record {
  notices = if is_numbered client.noticed (last_notice r.notices) then r.notices else [];
  told = client.noticed;
  closed = client.closed;
}

-- ---- notices from before those that are kept

-- a client's orders and notices, and the ticks, are so few that 64 bits count them
pub record IsCounted {A : Type 0} (h : History A) (c : ℕ) : Type 0 where
  pub orders : taken_count h c < 2 ^ 64
  pub notices : noticed_count h c < 2 ^ 64
  pub ticks : clock h < 2 ^ 64

-- whether a notice is the one before the other, or there are not both
abbrev pub is_next : Option Notice → Option Notice → Bool
is_next None after = true
is_next (Some n) None = true
is_next (Some n) (Some m) = seq_of n + 1 == seq_of m

-- whether notices end where others begin
abbrev pub leads_to : List Notice → List Notice → Bool
leads_to before ns = is_next (last_notice before) (slice_get ns 0)

-- with notices before those that are kept, as many as there is room for; unchanged if they do not end where those begin
abbrev pub with_before : ℕ → List Notice → Recall → Recall
with_before most before r = record r { notices = if leads_to before r.notices then last_of most (before ++ r.notices) else r.notices }

-- whether notices from before an opening are wanted
abbrev pub wants_more : ℕ → ClientState → Recall → Bool
wants_more most client r = nat_lt 0 client.noticed && nat_lt (length r.notices) most

-- of each client at most `most` notices are kept
abbrev pub AreFew : ℕ → List Recall → Type 0
AreFew most rs = All (λ r. length r.notices ≤ most) rs
