-- How orders are judged.
use Rattle.std.specs.Prelude.{◌≡◌, ℕ, ◌≤◌, ◌⊎◌, Bool, true, false, List, [], length}
use Rattle.std.specs.List.{AllByRecursion, range_with_len}
use Rattle.std.specs.declared.alloc.Global.{Global}
use Rattle.fleet_book.specs.declared.event.Event.TheVariants.{Take}
use Rattle.fleet_core.specs.Core.{HasNoEntries, HasNoRoom}
use Rattle.fleet_history.specs.History.{clients}
use Rattle.fleet_world.specs.declared.reply.Reply.{Reply}
use Rattle.fleet_world.specs.declared.reply.Reply.TheVariants.{Took}
use Rattle.fleet_world.specs.Talk.{Talk, waiting}
use Rattle.live_fleet.specs.Act.{Act, did, full, handed}
use Rattle.live_fleet.specs.Went.{At, Each, Went}

-- whether an order was taken
abbrev pub is_took : Reply → Bool
is_took (Took number verdict) = true
is_took _ = false

-- an order of this client is judged, or the chapter is handed out for that
abbrev pub IsTaking : ℕ → Act → Type 0
IsTaking client (did (Take c) reply) = c ≡ client
IsTaking client (full (Take c)) = c ≡ client
IsTaking client (handed c) = Unit {0}
IsTaking client _ = ⊥

-- no order of a client waits
abbrev pub HasNoOrder : Talk Global → ℕ → Type 0
HasNoOrder s client = (clients s.world.history ≤ client) ⊎ (length (waiting s client).lane ≡ 0)

-- no order of a client can be judged now
abbrev pub AllTaken : Talk Global → ℕ → Type 0
AllTaken s client =
    (clients s.world.history ≤ client) ⊎ ((waiting s client).lane ≡ []) ⊎ HasNoRoom s.world client ⊎ HasNoEntries s.world

-- a client's orders were judged, all that can be or this many
pub record TakesOne (most client : ℕ) (a : At) (acts : List Act) (b : At) : Type 0 where
  pub went : Went a acts b
  pub only : AllByRecursion (IsTaking client) acts
  pub whole : AllTaken b.fleet.talk client ⊎ (most ≤ length acts)

-- the orders of each client were judged, by number: of each as many as a lane has room for
abbrev pub Takes : ℕ → At → List Act → At → Type 0
Takes count a acts b = Each (TakesOne a.fleet.talk.world.limits.lane) (range_with_len 0 count) a acts b
