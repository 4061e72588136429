-- The limits of a fleet: their names, and the range of each.
use Rattle.std.specs.Prelude.{ℕ, ◌≤◌, ◌<◌, ◌^◌, List, Option, Some, None, codes, if◌then◌else◌}
use Rattle.std.specs.Str.{bytes_eq}
use Rattle.fleet_book.specs.declared.limit.Limit.{Limit}
use Rattle.fleet_book.specs.declared.limit.Limit.TheVariants.{Lane, Outlet, Queue, Mailbox, Life, Orders, Clock, Chapter, Chapters}
use Rattle.fleet_book.specs.declared.limits.Limits.{Limits}

-- a number from `least` to `most`, both included
abbrev pub IsBetween : ℕ → ℕ → ℕ → Type 0
IsBetween least most n = (least ≤ n) × (n ≤ most)

-- the name of a limit, by which a script gives it
abbrev pub name_of : Limit → List ℕ
name_of Lane = codes "lane"
name_of Outlet = codes "outlet"
name_of Queue = codes "queue"
name_of Mailbox = codes "mailbox"
name_of Life = codes "life"
name_of Orders = codes "orders"
name_of Clock = codes "clock"
name_of Chapter = codes "chapter"
name_of Chapters = codes "chapters"

-- the limit of this name
abbrev pub limit_named : List ℕ → Option Limit
limit_named name =
    if bytes_eq name (codes "lane") then Some Lane
    else if bytes_eq name (codes "outlet") then Some Outlet
    else if bytes_eq name (codes "queue") then Some Queue
    else if bytes_eq name (codes "mailbox") then Some Mailbox
    else if bytes_eq name (codes "life") then Some Life
    else if bytes_eq name (codes "orders") then Some Orders
    else if bytes_eq name (codes "clock") then Some Clock
    else if bytes_eq name (codes "chapter") then Some Chapter
    else if bytes_eq name (codes "chapters") then Some Chapters
    else None

-- the least that a limit may be
abbrev pub least_of : Limit → ℕ
least_of Mailbox = 2
least_of Orders = 2
least_of _ = 1

-- the greatest that a limit may be
abbrev pub most_of : Limit → ℕ
most_of Lane = 65536
most_of Outlet = 65536
most_of Queue = 65536
most_of Mailbox = 65536
most_of Life = 2 ^ 40
most_of Orders = 2 ^ 62
most_of Clock = 2 ^ 48
most_of Chapter = 16777216
most_of Chapters = 4294967295

-- what the limit is among these
abbrev pub value_of : Limits → Limit → ℕ
value_of l Lane = l.lane
value_of l Outlet = l.outlet
value_of l Queue = l.queue
value_of l Mailbox = l.mailbox
value_of l Life = l.life
value_of l Orders = l.orders
value_of l Clock = l.clock
value_of l Chapter = l.chapter
value_of l Chapters = l.chapters

-- the limit is in its range
abbrev pub IsWithin : Limits → Limit → Type 0
IsWithin l limit = IsBetween (least_of limit) (most_of limit) (value_of l limit)

-- each limit is in its range
pub record AreValid (l : Limits) : Type 0 where
  pub lane : IsWithin l Lane
  pub outlet : IsWithin l Outlet
  pub queue : IsWithin l Queue
  pub mailbox : IsWithin l Mailbox
  pub life : IsWithin l Life
  pub orders : IsWithin l Orders
  pub clock : IsWithin l Clock
  pub chapter : IsWithin l Chapter
  pub chapters : IsWithin l Chapters

-- where a limit stands in the list of them
abbrev pub place_of : Limit → ℕ
place_of Lane = 0
place_of Outlet = 1
place_of Queue = 2
place_of Mailbox = 3
place_of Life = 4
place_of Orders = 5
place_of Clock = 6
place_of Chapter = 7
place_of Chapters = 8

-- the limit is out of its range, and those before it are in theirs
pub record IsFirstOut (l : Limits) (limit : Limit) : Type 0 where
  pub out : IsWithin l limit → ⊥
  pub before : (other : Limit) → place_of other < place_of limit → IsWithin l other
