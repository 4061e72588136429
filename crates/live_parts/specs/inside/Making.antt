-- How the notices of a chapter's entries are made for a client, one after another.
use Rattle.std.specs.Prelude.{ℕ, List, [], ◌∷◌, ◌++◌, ◌==◌, fold, if◌then◌else◌, slice_index}
use Rattle.fleet_book.specs.declared.notice.Notice.{Notice}
use Rattle.fleet_book.specs.declared.notice.Notice.TheVariants as notice
use Rattle.fleet_book.specs.declared.verdict.Verdict.{Verdict}
use Rattle.fleet_history.specs.declared.history.Arrival.{Arrival}
use Rattle.fleet_history.specs.declared.history.Entry.{Entry}
use Rattle.fleet_history.specs.declared.history.Entry.TheVariants.{Take, Tick, Shut}
use Rattle.fleet_history.specs.declared.history.Opening.{Opening}
use Rattle.fleet_history.specs.History.{client_at, start}
use Rattle.live_parts.specs.Notices.{capped}

-- what was made for a client: its notices, and the counts by which the next are numbered
pub record Made : Type 0 where
  pub notices : List Notice
  pub taken : ℕ
  pub noticed : ℕ
  pub tick : ℕ

-- an order was judged
abbrev pub judged : Made → Verdict → Made
judged m verdict = record m { notices = m.notices ++ notice.Verdict (capped m.noticed 1) (capped m.taken 1) verdict ∷ []; taken = capped m.taken 1; noticed = capped m.noticed 1 }

-- an errand arrived
abbrev pub landed : List ℕ → Made → Arrival → Made
landed to m a = record m { notices = m.notices ++ notice.Arrived (capped m.noticed 1) a.number a.robot (slice_index to a.robot) m.tick a.stamp ∷ []; noticed = capped m.noticed 1 }

abbrev pub landed_of : ℕ → List ℕ → Made → Arrival → Made
landed_of c to m a = if a.client == c then landed to m a else m

-- a tick was made
abbrev pub ticked : Made → Made
ticked m = record m { tick = capped m.tick 1 }

-- with the notices of an entry
abbrev pub added : {A : Type 0} → ℕ → Made → Entry A → Made
added c m (Take client order verdict) = if client == c then judged m verdict else m
added c m (Tick to arrived farewells) = fold (landed_of c to) (ticked m) arrived
added c m (Shut robot farewell) = m

-- at an opening nothing was made
abbrev pub opened : {A : Type 0} → Opening A → ℕ → Made
opened o c = record { notices = []; taken = (client_at (start o) c).taken; noticed = (client_at (start o) c).noticed; tick = o.tick }
