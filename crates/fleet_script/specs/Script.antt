-- The lines of a script, and what the script is that they make.
use Rattle.std.specs.Prelude.{ℕ, ◌+◌, Bool, true, false, List, [], ◌∷◌, ◌++◌, length, Option, Some, None, Result, Ok, Err, nat_le, ◌==◌, ◌&&◌, if◌then◌else◌, codes, replicate, unwrap_or}
use Rattle.std.specs.Option.{option_map, option_and_then}
use Rattle.std.specs.Str.{bytes_eq}
use Rattle.fleet_map.specs.Text.{words_of, lines_of}
use Rattle.fleet_book.specs.declared.order.Order.{Order}
use Rattle.fleet_book.specs.declared.order.Order.TheVariants.{Go, Close, Withdraw}
use Rattle.fleet_book.specs.declared.limits.Limits.{Limits}
use Rattle.fleet_book.specs.declared.event.Event.{Event}
use Rattle.fleet_book.specs.declared.event.Event.TheVariants.{Post, Take, Tick, Give, Collect, Shut}
use Rattle.fleet_book.specs.declared.limit.Limit.{Limit}
use Rattle.fleet_book.specs.Limits.{limit_named}
use Rattle.fleet_book.specs.declared.limit.Limit.TheVariants.{Lane, Outlet, Queue, Mailbox, Life, Orders, Clock, Chapter, Chapters}
use Rattle.fleet_script.specs.declared.head.GivenLimits.{GivenLimits}
use Rattle.fleet_script.specs.Numbers.{number_in, most32, most64, one_in, numbers_in}

-- ---- event lines

-- an event, and how often
pub record Repeated : Type 0 where
  pub event : Event
  pub times : ℕ

-- an event, once
abbrev pub once_only : Event → Repeated
once_only event = record { event = event; times = 1 }

-- the withdrawal of the errand of this number
abbrev pub withdrawal_in : List ℕ → Option Order
withdrawal_in word = option_map (λ n. Withdraw n) (number_in most64 word)

-- close, withdraw NUMBER, or go ROBOT CELL
abbrev pub order_in : List ℕ → List (List ℕ) → Option Order
order_in word [] = if bytes_eq word (codes "close") then Some Close else None
order_in word (number ∷ []) = if bytes_eq word (codes "withdraw") then withdrawal_in number else None
order_in word (robot ∷ cell ∷ []) =
    if bytes_eq word (codes "go")
    then option_and_then (λ r. option_map (λ x. Go r x) (number_in most32 cell)) (number_in most32 robot)
    else None
order_in word words = None

-- CLIENT and an order
abbrev pub post_in : List (List ℕ) → Option Event
post_in (client ∷ word ∷ words) = option_and_then (λ c. option_map (λ order. Post c order) (order_in word words)) (number_in most32 client)
post_in words = None

-- the number of ticks, from 1 to 1,000,000; one where the line does not say
abbrev pub ticks_in : List (List ℕ) → Option ℕ
ticks_in [] = Some 1
ticks_in (word ∷ words) = option_and_then (λ n. if nat_le 1 n then Some n else None) (one_in 1000000 (word ∷ words))

-- the events of a line that begins with this word, where it is an event line
abbrev pub events_of : List ℕ → List (List ℕ) → Option Repeated
events_of key words =
    if bytes_eq key (codes "post") then option_map once_only (post_in words)
    else if bytes_eq key (codes "take") then option_map (λ c. once_only (Take c)) (one_in most32 words)
    else if bytes_eq key (codes "tick") then option_map (λ n. record { event = Tick; times = n }) (ticks_in words)
    else if bytes_eq key (codes "give") then option_map (λ c. once_only (Give c)) (one_in most32 words)
    else if bytes_eq key (codes "collect") then option_map (λ c. once_only (Collect c)) (one_in most32 words)
    else if bytes_eq key (codes "shut") then option_map (λ r. once_only (Shut r)) (one_in most32 words)
    else None

-- ---- header lines

-- a header line stands at most once
abbrev pub if_new : {A : Type 0} → Option A → Option A → Option A
if_new (Some old) said = None
if_new None said = said

-- the limits with one more of them
abbrev pub with_limit : GivenLimits → Limit → List (List ℕ) → Option GivenLimits
with_limit g Lane words = option_map (λ n. record g { lane = Some n }) (if_new g.lane (one_in most32 words))
with_limit g Outlet words = option_map (λ n. record g { outlet = Some n }) (if_new g.outlet (one_in most32 words))
with_limit g Queue words = option_map (λ n. record g { queue = Some n }) (if_new g.queue (one_in most32 words))
with_limit g Mailbox words = option_map (λ n. record g { mailbox = Some n }) (if_new g.mailbox (one_in most32 words))
with_limit g Life words = option_map (λ n. record g { life = Some n }) (if_new g.life (one_in most64 words))
with_limit g Orders words = option_map (λ n. record g { orders = Some n }) (if_new g.orders (one_in most64 words))
with_limit g Clock words = option_map (λ n. record g { clock = Some n }) (if_new g.clock (one_in most64 words))
with_limit g Chapter words = option_map (λ n. record g { chapter = Some n }) (if_new g.chapter (one_in most32 words))
with_limit g Chapters words = option_map (λ n. record g { chapters = Some n }) (if_new g.chapters (one_in most32 words))

-- 1 to `most` start cells
abbrev pub starts_within : ℕ → List (List ℕ) → Option (List ℕ)
starts_within most words = if nat_le 1 (length words) && nat_le (length words) most then numbers_in words else None

-- 1 to 16 start cells, as a script has them
abbrev pub starts_in : List (List ℕ) → Option (List ℕ)
starts_in words = starts_within 16 words

-- which closures rank the cells: whether the southern ones
abbrev pub ties_in : List (List ℕ) → Option Bool
ties_in (word ∷ []) = if bytes_eq word (codes "plain") then Some false else if bytes_eq word (codes "south") then Some true else None
ties_in words = None

-- how many turns each ticker makes in a serve, 1 to 1,000,000
abbrev pub turns_in : List (List ℕ) → Option ℕ
turns_in words = option_and_then (λ n. if nat_le 1 n then Some n else None) (one_in 1000000 words)

-- ---- the script so far

-- what the lines so far said, `None` for each thing that no line said
pub record Draft : Type 0 where
  pub starts : Option (List ℕ)
  pub clients : Option ℕ
  -- whether the southern closures rank the cells
  pub south : Option Bool
  -- of each ticker, in a serve
  pub turns : Option ℕ
  pub limits : GivenLimits
  pub events : List Event
  -- the line of each event
  pub lines : List ℕ

-- the script with one more header line
abbrev pub with_limit_line : Draft → Option Limit → List (List ℕ) → Option Draft
with_limit_line d None words = None
with_limit_line d (Some limit) words = option_map (λ g. record d { limits = g }) (with_limit d.limits limit words)

-- the script with one more header line, where a fleet has at most this many robots
abbrev pub with_header_within : ℕ → Draft → List ℕ → List (List ℕ) → Option Draft
with_header_within most d key words =
    if bytes_eq key (codes "robots") then option_map (λ cells. record d { starts = Some cells }) (if_new d.starts (starts_within most words))
    else if bytes_eq key (codes "clients") then option_map (λ n. record d { clients = Some n }) (if_new d.clients (one_in most32 words))
    else if bytes_eq key (codes "ties") then option_map (λ s. record d { south = Some s }) (if_new d.south (ties_in words))
    else if bytes_eq key (codes "turns") then option_map (λ n. record d { turns = Some n }) (if_new d.turns (turns_in words))
    else with_limit_line d (limit_named key) words

-- the script with one more header line, where a fleet has at most 16 robots
abbrev pub with_header : Draft → List ℕ → List (List ℕ) → Option Draft
with_header d key words = with_header_within 16 d key words

-- whether there are no events
abbrev pub no_events : List Event → Bool
no_events [] = true
no_events (event ∷ events) = false

-- the script with the events of one more line
abbrev pub with_events : Draft → ℕ → Repeated → Draft
with_events d number more = record d { events = d.events ++ replicate more.times more.event; lines = d.lines ++ replicate more.times number }

-- header lines come before the first event
abbrev pub with_other : Draft → List ℕ → List (List ℕ) → Option Draft
with_other d key words = if no_events d.events then with_header d key words else None

-- the script with one more line of words, by its events if it is an event line; `None` where it may not stand
abbrev pub with_line_of : Draft → ℕ → List ℕ → List (List ℕ) → Option Repeated → Option Draft
with_line_of d number key words (Some more) = Some (with_events d number more)
with_line_of d number key words None = with_other d key words

-- blank lines are skipped
abbrev pub with_words : Draft → ℕ → List (List ℕ) → Option Draft
with_words d number [] = Some d
with_words d number (key ∷ words) = with_line_of d number key words (events_of key words)

-- lines whose first byte is # are skipped
abbrev pub is_comment : List ℕ → Bool
is_comment [] = false
is_comment (first ∷ rest) = first == 35

-- the script with the line of this number; `None` where it may not stand
abbrev pub with_line : Draft → ℕ → List ℕ → Option Draft
with_line d number line = if is_comment line then Some d else with_words d number (words_of line)

-- ---- the whole script, or the number of the first line that may not stand

-- no line gives a limit
abbrev pub no_limits : GivenLimits
no_limits = record { lane = None; outlet = None; queue = None; mailbox = None; life = None; orders = None; clock = None; chapter = None; chapters = None }

-- the script before its first line
abbrev pub blank_draft : Draft
blank_draft = record { starts = None; clients = None; south = None; turns = None; limits = no_limits; events = []; lines = [] }

-- the limits that the script gives, and the program's own for the others
abbrev pub limits_of : GivenLimits → Limits
limits_of g = record {
  lane = unwrap_or g.lane 64;
  outlet = unwrap_or g.outlet 64;
  queue = unwrap_or g.queue 16;
  mailbox = unwrap_or g.mailbox 64;
  life = unwrap_or g.life 1000000;
  orders = unwrap_or g.orders 1000000;
  clock = unwrap_or g.clock 1000000;
  chapter = unwrap_or g.chapter 65536;
  chapters = unwrap_or g.chapters 1000;
}

-- the limits that header lines give, and these for the others
abbrev pub limits_over : Limits → GivenLimits → Limits
limits_over others g = record {
  lane = unwrap_or g.lane others.lane;
  outlet = unwrap_or g.outlet others.outlet;
  queue = unwrap_or g.queue others.queue;
  mailbox = unwrap_or g.mailbox others.mailbox;
  life = unwrap_or g.life others.life;
  orders = unwrap_or g.orders others.orders;
  clock = unwrap_or g.clock others.clock;
  chapter = unwrap_or g.chapter others.chapter;
  chapters = unwrap_or g.chapters others.chapters;
}

-- a script without where its lists lie in memory
pub record Plan : Type 0 where
  pub starts : List ℕ
  pub clients : ℕ
  pub limits : Limits
  -- whether the southern closures rank the cells
  pub south : Bool
  -- of each ticker, in a serve
  pub turns : ℕ
  pub events : List Event
  -- the line of each event
  pub lines : List ℕ

-- the script of these lines, with these start cells and a default for all else that they do not say
abbrev pub plan_from : Draft → List ℕ → Plan
plan_from d starts = record { starts = starts; clients = unwrap_or d.clients 1; limits = limits_of d.limits; south = unwrap_or d.south false; turns = unwrap_or d.turns 16; events = d.events; lines = d.lines }

-- the value, or the number of the line where there is none
abbrev pub or_line : {A : Type 0} → ℕ → Option A → Result A ℕ
or_line number None = Err number
or_line number (Some x) = Ok x

-- the next step on what the first one gives, or the line at which the first one failed
abbrev pub and_then : {A B : Type 0} → Result A ℕ → (A → Result B ℕ) → Result B ℕ
and_then (Ok x) f = f x
and_then (Err line) f = Err line

-- all lines, numbered from this one on; without `robots` the line after the last is at fault
unfoldable pub draft_of : Draft → ℕ → List (List ℕ) → Result Plan ℕ
draft_of d number [] = or_line number (option_map (plan_from d) d.starts)
draft_of d number (line ∷ lines) = and_then (or_line number (with_line d number line)) (λ more. draft_of more (number + 1) lines)

-- the script of a text, or the number of its first line that may not stand
abbrev pub script_of : List ℕ → Result Plan ℕ
script_of bytes = draft_of blank_draft 1 (lines_of bytes)
