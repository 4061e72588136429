-- The mailboxes of the clients, and how many notices were made for each.
use Rattle.std.specs.Prelude.{ℕ, ◌+◌, ◌≡◌, ◌<◌, ◌==◌, List, [], ◌∷◌, ◌++◌, count_by, filter, length, slice_set, slice_index, slice_index_or}
use Rattle.fleet_book.specs.declared.notice.Notice.{Notice}
use Rattle.fleet_history.specs.declared.history.Arrival.{Arrival}
use Rattle.fleet_history.specs.Notices.{arrival_notices}
use Rattle.fleet_core.specs.Pending.{Pending, no_pending}

-- by client
pub record Mailboxes : Type 0 where
  pub boxes : List Pending
  pub noticed : List ℕ

abbrev pub box_at : List Pending → ℕ → Pending
box_at boxes c = slice_index_or boxes c no_pending

-- the mailboxes with one more notice of a client
abbrev pub with_notice : Mailboxes → ℕ → Notice → Mailboxes
with_notice x c n = record {
  boxes = slice_set x.boxes c (record { notices = (box_at x.boxes c).notices ++ n ∷ []; limit = (box_at x.boxes c).limit });
  noticed = slice_set x.noticed c (slice_index x.noticed c + 1);
}

-- the mailboxes with this one of a client
abbrev pub with_box : Mailboxes → ℕ → Pending → Mailboxes
with_box x c b = record { boxes = slice_set x.boxes c b; noticed = x.noticed }

-- the second are the first once the arrivals of a tick to these cells are delivered
pub record AreDelivered (arrived : List Arrival) (to : List ℕ) (tick : ℕ) (x y : Mailboxes) : Type 0 where
  pub count : length y.boxes ≡ length x.boxes
  pub boxes : (c : ℕ) → c < length x.boxes → box_at y.boxes c ≡ record {
    notices = (box_at x.boxes c).notices ++ arrival_notices to tick (slice_index x.noticed c) (filter (λ a. a.client == c) arrived);
    limit = (box_at x.boxes c).limit;
  }
  pub noticed_count : length y.noticed ≡ length x.noticed
  pub noticed : (c : ℕ) → c < length x.boxes → slice_index y.noticed c ≡ slice_index x.noticed c + count_by (λ a. a.client == c) arrived
