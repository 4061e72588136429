-- The world that an office begins with, and what goes on from it.
use Rattle.std.specs.Prelude.{ℕ, ◌+◌, ◌≡◌, ◌≤◌, List, [], ◌++◌, None, map, length}
use Rattle.std.specs.List.{flat_map}
use Rattle.fleet_grid.specs.Floor.{Floor}
use Rattle.fleet_book.specs.declared.notice.Notice.{Notice}
use Rattle.fleet_book.specs.declared.order.Order.{Order}
use Rattle.fleet_history.specs.History.{History, robots, client_at, taken_count, accepted_count}
use Rattle.fleet_history.specs.Laws.{orders}
use Rattle.fleet_history.specs.Legal.{IsLegal}
use Rattle.fleet_history.specs.Notices.{notices, noticed_count, seq_of}
use Rattle.fleet_history.specs.Numbering.{numbers_behind, order_number, accepted_number}
use Rattle.fleet_history.specs.Rings.{IsEndOf, KeepsRing}
use Rattle.fleet_core.specs.Core.{World}

-- the world of an office that began with the first world: of the same map, limits, tie laws and turns, in the same chapter or a later one
pub record IsSince {A : Type 0} (began w : World A) : Type 0 where
  pub begun : began.history.entries ≡ []
  pub legal : IsLegal began.floor began.history
  pub floor : w.floor ≡ began.floor
  pub limits : w.limits ≡ began.limits
  pub ties : w.ties ≡ began.ties
  pub turns : w.turns ≡ began.turns
  pub robots : robots w.history ≡ robots began.history
  pub later : began.number ≤ w.number
  pub opening : w.number ≡ began.number → w.history.opening ≡ began.history.opening

-- a chapter of an office that began with this world
pub record IsChapterSince {A : Type 0} (began : World A) (m : Floor) (n : ℕ) (h : History A) : Type 0 where
  pub floor : m ≡ began.floor
  pub later : began.number ≤ n
  pub opening : n ≡ began.number → h.opening ≡ began.history.opening

-- the orders that were taken of a client, and the notices that were made for it, from the first history on, to the end of the last
pub record GoesOn {A : Type 0} (first last : History A) (c : ℕ) (taken : List Order) (told : List Notice) : Type 0 where
  -- those of the last history are at their end
  pub taken_end : IsEndOf (orders last c) taken
  pub told_end : IsEndOf (notices last c) told
  -- none is left out
  pub taken_length : (client_at first c).taken + length taken ≡ taken_count last c
  pub told_length : (client_at first c).noticed + length told ≡ noticed_count last c
  pub accepted_length : (client_at first c).accepted + length (flat_map accepted_number told) ≡ accepted_count last c
  -- notices, orders and accepted errands are numbered on
  pub seqs : map seq_of told ≡ numbers_behind (client_at first c).noticed (length told)
  pub orders : flat_map order_number told ≡ numbers_behind (client_at first c).taken (length taken)
  pub accepted : flat_map accepted_number told ≡ numbers_behind (client_at first c).accepted (length (flat_map accepted_number told))
  -- whatever was taken and told before: if that kept the ring law, then all together does
  pub keeps : (before : List Order) (heard : List Notice) → KeepsRing first c before heard → KeepsRing last c (before ++ taken) (heard ++ told)

-- the world of an office that has no name yet
abbrev pub no_world : {A : Type 0} → World A
no_world = record {
  floor = record { height = 0; width = 0; letters = [] };
  limits = record { lane = 0; outlet = 0; queue = 0; mailbox = 0; life = 0; orders = 0; clock = 0; chapter = 0; chapters = 0 };
  ties = [];
  turns = None;
  number = 0;
  history = record { opening = record { tick = 0; queue = 0; life = 0; clients = []; robots = [] }; entries = [] };
  mailboxes = [];
}
