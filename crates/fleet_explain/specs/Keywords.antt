-- The words that a script's lines begin with, and what comes after each.
use Rattle.std.specs.Prelude.{ℕ, Bool, true, false, List, ◌++◌, Option, Some, None, codes, decimal, if◌then◌else◌}
use Rattle.std.specs.Option.{option_map}
use Rattle.std.specs.Str.{bytes_eq}
use Rattle.fleet_book.specs.Limits.{limit_named}
use Rattle.fleet_book.specs.Limits as limits
use Rattle.fleet_explain.specs.declared.keyword.Keyword.{Keyword}
use Rattle.fleet_explain.specs.declared.keyword.Keyword.TheVariants.{Robots, Clients, Ties, Turns, Limit, Post, Take, Give, Collect, Tick, Shut}

-- the keyword of header lines that the word is; `None` where it is none
abbrev pub header_named : List ℕ → Option Keyword
header_named word =
    if bytes_eq word (codes "robots") then Some Robots
    else if bytes_eq word (codes "clients") then Some Clients
    else if bytes_eq word (codes "ties") then Some Ties
    else if bytes_eq word (codes "turns") then Some Turns
    else option_map Limit (limit_named word)

-- the keyword of event lines that the word is; `None` where it is none
abbrev pub event_named : List ℕ → Option Keyword
event_named word =
    if bytes_eq word (codes "post") then Some Post
    else if bytes_eq word (codes "take") then Some Take
    else if bytes_eq word (codes "give") then Some Give
    else if bytes_eq word (codes "collect") then Some Collect
    else if bytes_eq word (codes "tick") then Some Tick
    else if bytes_eq word (codes "shut") then Some Shut
    else None

-- the first keyword, or else the second
abbrev pub first_some : Option Keyword → Option Keyword → Option Keyword
first_some (Some keyword) other = Some keyword
first_some None other = other

-- the keyword that the word is; `None` where it is none
abbrev pub keyword_named : List ℕ → Option Keyword
keyword_named word = first_some (header_named word) (event_named word)

-- whether lines of this keyword are event lines
abbrev pub is_event : Keyword → Bool
is_event Post = true
is_event Take = true
is_event Give = true
is_event Collect = true
is_event Tick = true
is_event Shut = true
is_event _ = false

-- the word of a keyword
abbrev pub name_of : Keyword → List ℕ
name_of Robots = codes "robots"
name_of Clients = codes "clients"
name_of Ties = codes "ties"
name_of Turns = codes "turns"
name_of (Limit limit) = limits.name_of limit
name_of Post = codes "post"
name_of Take = codes "take"
name_of Give = codes "give"
name_of Collect = codes "collect"
name_of Tick = codes "tick"
name_of Shut = codes "shut"

-- a number with its range
abbrev pub number_from : ℕ → ℕ → List ℕ
number_from least most = codes "one number from " ++ decimal least ++ codes " to " ++ decimal most

-- what comes after the word
abbrev pub wants : Keyword → List ℕ
wants Robots = codes "1 to 16 start cells (1 to 512 for `talk` and `live`), with blanks between them"
wants Clients = number_from 1 64
wants Ties = codes "`plain` or `south`"
wants Turns = number_from 1 1000000
wants (Limit limit) = number_from (limits.least_of limit) (limits.most_of limit)
wants Post = codes "a client and an order: `go ROBOT CELL`, `close`, or `withdraw NUMBER`"
wants Take = codes "one client"
wants Give = codes "one client"
wants Collect = codes "one client"
wants Tick = codes "nothing, or " ++ number_from 1 1000000
wants Shut = codes "one robot"
