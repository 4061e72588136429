-- How notices are told.
use Rattle.std.specs.Prelude.{◌≡◌, ℕ, ◌+◌, ◌-◌, ◌≤◌, ◌⊎◌, List, [], length, slice_get, Option, Some, None, MatchOption, Bool, true, false}
use Rattle.std.specs.List.{AllByRecursion, range_with_len}
use Rattle.std.specs.declared.alloc.Global.{Global}
use Rattle.fleet_book.specs.declared.event.Event.TheVariants.{Give, Collect}
use Rattle.fleet_book.specs.declared.notice.Notice.{Notice}
use Rattle.fleet_history.specs.History.{clients}
use Rattle.fleet_world.specs.declared.reply.Reply.{Reply}
use Rattle.fleet_world.specs.declared.reply.Reply.TheVariants.{Collected, NothingThere, NoClient}
use Rattle.fleet_world.specs.Talk.{Talk, mailbox, waiting}
use Rattle.live_fleet.specs.declared.speaker.Speaker.{Speaker}
use Rattle.live_fleet.specs.declared.speaker.Clients.{Clients}
use Rattle.live_fleet.specs.declared.telling.Told.{Told}
use Rattle.live_fleet.specs.declared.telling.Told.TheVariants as told
use Rattle.live_fleet.specs.Act.{Act, did}
use Rattle.live_fleet.specs.Act as act
use Rattle.live_fleet.specs.Open.{is_open}
use Rattle.live_fleet.specs.Out.{IsFull, text_at}
use Rattle.live_fleet.specs.Went.{At, Each, Went}

-- the notice that was collected, if one was
abbrev pub collected_in : Reply → Option Notice
collected_in (Collected notice) = Some notice
collected_in _ = None

-- a client's notices go to its outlet, and from there to this conversation
abbrev pub IsTelling : ℕ → ℕ → Act → Type 0
IsTelling to client (did (Give c) reply) = c ≡ client
IsTelling to client (did (Collect c) NothingThere) = c ≡ client
IsTelling to client (did (Collect c) NoClient) = c ≡ client
IsTelling to client (act.told k c notice) = (k ≡ to) × (c ≡ client)
IsTelling to client _ = ⊥

-- no notice is left of a client. An outlet without room lets none through
abbrev pub FindsNothing : Talk Global → ℕ → Type 0
FindsNothing s client = ((waiting s client).outlet ≡ []) × ((mailbox s client ≡ []) ⊎ (s.world.limits.outlet ≡ 0))

-- no notice waits for a client
abbrev pub HasNoNotice : Talk Global → ℕ → Type 0
HasNoNotice s client = (clients s.world.history ≤ client) ⊎ ((length (waiting s client).outlet ≡ 0) × (length (mailbox s client) ≡ 0))

-- what became of a client's next notice: it was told, there is none, or there is no room
abbrev pub ComesTo : ℕ → ℕ → Told → At → At → Type 0
ComesTo to client told.One a b = length (text_at a.out to) + 1 ≤ length (text_at b.out to)
ComesTo to client told.All a b = (clients b.fleet.talk.world.history ≤ client) ⊎ FindsNothing b.fleet.talk client
ComesTo to client told.Full a b = IsFull (text_at b.out to)

-- a client's next notice was told to a conversation, or there is none, or no room for it
pub record TellsNext (to client : ℕ) (told : Told) (a : At) (acts : List Act) (b : At) : Type 0 where
  pub went : Went a acts b
  pub only : AllByRecursion (IsTelling to client) acts
  pub comes : ComesTo to client told a b

-- whether all was told of a client
abbrev pub AllTold : ℕ → ℕ → Bool → At → Type 0
AllTold to client true b = (clients b.fleet.talk.world.history ≤ client) ⊎ FindsNothing b.fleet.talk client
AllTold to client false b = IsFull (text_at b.out to)

-- a conversation was told all notices of a client, or as many as it has room for
pub record TellsOne (to client : ℕ) (all : Bool) (a : At) (acts : List Act) (b : At) : Type 0 where
  pub went : Went a acts b
  pub only : AllByRecursion (IsTelling to client) acts
  pub whole : AllTold to client all b

-- the numbers of these clients
abbrev pub numbers_of : Clients → List ℕ
numbers_of c = range_with_len c.first (c.end - c.first)

-- a conversation was told the notices of each of these clients
abbrev pub TellsClients : ℕ → Clients → At → List Act → At → Type 0
TellsClients to who a acts b = Each (λ client a acts b. (all : Bool) × TellsOne to client all a acts b) (numbers_of who) a acts b

-- a conversation was told all notices of each of these clients
abbrev pub TellsWhole : ℕ → Clients → At → List Act → At → Type 0
TellsWhole to who a acts b = Each (λ client a acts b. TellsOne to client true a acts b) (numbers_of who) a acts b

-- a conversation was told all notices that it may be told now
abbrev pub TellsWhere : Bool → ℕ → Clients → At → List Act → At → Type 0
TellsWhere true to who a acts b = TellsClients to who a acts b
TellsWhere false to who a acts b = (acts ≡ []) × (b ≡ a)

-- a conversation was told the notices of its clients, if it may be told any now
abbrev pub TellsTo : Speaker → ℕ → At → List Act → At → Type 0
TellsTo sp to a acts b = TellsWhere (is_open sp.rest) to sp.clients a acts b

-- the conversation with this number was told so, if it is there
abbrev pub TellsAt : List Speaker → ℕ → At → List Act → At → Type 0
TellsAt who to a acts b = MatchOption (slice_get who to) ((acts ≡ []) × (b ≡ a)) (λ sp. TellsTo sp to a acts b)

-- each conversation was told the notices of its clients
abbrev pub TellsAll : List Speaker → At → List Act → At → Type 0
TellsAll who a acts b = Each (TellsAt who) (range_with_len 0 (length who)) a acts b
