-- What the lines of a script post for a client, and what the office takes of it.
use Rattle.std.specs.Prelude.{ℕ, Bool, false, ◌≡◌, ◌≢◌, ◌<◌, ◌≤◌, ◌+◌, ◌-◌, ◌^◌, List, [], ◌∷◌, ◌++◌, ◌==◌, if◌then◌else◌, length, min, Some, slice_get, slice_index, slice_index_or, Vec}
use Rattle.std.specs.List.{flat_map, sum_by}
use Rattle.fleet_book.specs.declared.order.Order.{Order}
use Rattle.fleet_book.specs.declared.notice.Notice.{Notice}
use Rattle.fleet_book.specs.declared.event.Event.{Event}
use Rattle.fleet_book.specs.declared.event.Event.TheVariants.{Post, Take, Tick, Give, Collect, Shut}
use Rattle.fleet_history.specs.History.{History}
use Rattle.fleet_history.specs.Laws.{orders}
use Rattle.fleet_history.specs.Notices.{notices}
use Rattle.fleet_history.specs.Rings.{IsEndOf}
use Rattle.fleet_lanes.specs.Ends.{ClientView, is_close, has_close}

-- ---- what a script posts

-- a line that a client's thread can run: a post or a collect of one of this many clients
abbrev pub IsLine : ℕ → Event → Type 0
IsLine clients (Post client order) = client < clients
IsLine clients (Collect client) = client < clients
IsLine clients (Take client) = ⊥
IsLine clients Tick = ⊥
IsLine clients (Give client) = ⊥
IsLine clients (Shut robot) = ⊥

-- the first event at this place that is no such line
pub record IsFirstOther (clients : ℕ) (events : List Event) (at : ℕ) : Type 0 where
  pub inside : at < length events
  pub other : (d : Event) → IsLine clients (slice_index_or events at d) → ⊥
  pub before : (k : ℕ) (d : Event) → k < at → IsLine clients (slice_index_or events k d)

-- the line of the first event that is no such line, where each event has its line
pub record IsLineOfOther (clients : ℕ) (events : List Event) (lines : List ℕ) (line : ℕ) : Type 0 where
  pub at : ℕ
  pub first : IsFirstOther clients events at
  pub stands : line ≡ slice_index lines at

-- the order that a line posts for the client
abbrev pub post_by : ℕ → Event → List Order
post_by c (Post client order) = if client == c then order ∷ [] else []
post_by c (Collect client) = []
post_by c (Take client) = []
post_by c Tick = []
post_by c (Give client) = []
post_by c (Shut robot) = []

-- the orders that the client's lines post, in order
abbrev pub posts : ℕ → List Event → List Order
posts c events = flat_map (post_by c) events

-- the orders up to the first Close, with it
abbrev pub until_close : List Order → List Order
until_close [] = []
until_close (order ∷ orders) = order ∷ (if is_close order then [] else until_close orders)

-- the items that are kept
abbrev pub kept : {X : Type 0} → List Bool → List X → List X
kept [] xs = []
kept (keep ∷ keeps) [] = []
kept (keep ∷ keeps) (x ∷ xs) = if keep then x ∷ kept keeps xs else kept keeps xs

-- xs is ys without some of its items
pub record IsSubsequence {X : Type 0} (xs ys : List X) : Type 0 where
  pub keeps : List Bool
  pub count : length keeps ≡ length ys
  pub same : kept keeps ys ≡ xs

-- ---- what the posts come to

-- a client that sent these orders, and may send this many, has a number for the order: it did not close, and the last number is
-- for Close
pub record MaySend (most : ℕ) (sent : List Order) (order : Order) : Type 0 where
  pub still : has_close sent ≡ false
  pub numbered : is_close order ≡ false → length sent + 1 ≢ most

-- what the posts of a client that may send this many orders come to, one after another: the orders that it sent, and how many
-- posts met a full lane. What it may not send is neither sent nor counted
pub data ComeTo (most : ℕ) : List Order → List Order → ℕ → Type 0 where
  begun : ComeTo most [] [] 0
  sends : (posted sent : List Order) (full : ℕ) (order : Order) → ComeTo most posted sent full → MaySend most sent order →
      ComeTo most (posted ++ order ∷ []) (sent ++ order ∷ []) full
  meets_full : (posted sent : List Order) (full : ℕ) (order : Order) → ComeTo most posted sent full → MaySend most sent order →
      ComeTo most (posted ++ order ∷ []) sent (full + 1)
  may_not : (posted sent : List Order) (full : ℕ) (order : Order) → ComeTo most posted sent full → (MaySend most sent order → ⊥) →
      ComeTo most (posted ++ order ∷ []) sent full

-- a client, and how many of its posts met a full lane
pub record FullPosts : Type 0 where
  pub client : ℕ
  pub count : ℕ

-- the number of all posts that met a full lane, at most 2^32 - 1
abbrev pub IsSum : ℕ → List FullPosts → Type 0
IsSum lane_full counts = lane_full ≡ min (sum_by (λ x. x.count) counts) (2 ^ 32 - 1)

-- ---- what is taken

-- the orders of each client's takes are posts of its lines, in their order
abbrev pub TakesPosted : {A : Type 0} → History A → List Event → ℕ → Type 0
TakesPosted h events clients = (c : ℕ) → c < clients → IsSubsequence (orders h c) (posts c events)

-- the orders of each client's takes are all posts of its lines up to its first Close
abbrev pub TakesAll : {A : Type 0} → History A → List Event → ℕ → Type 0
TakesAll h events clients = (c : ℕ) → c < clients → orders h c ≡ until_close (posts c events)

-- the posts that met a full lane are counted: of each client once those among its posts, whose others came to its takes
pub record AreFullCounted {A : Type 0} (h : History A) (events : List Event) (most clients lane_full : ℕ) : Type 0 where
  pub counts : List FullPosts
  pub each : (k : ℕ) (x : FullPosts) → slice_get counts k ≡ Some x → (x.client < clients) × ComeTo most (posts x.client events) (orders h x.client) x.count
  pub all : (c : ℕ) → c < clients → (k : ℕ) × (x : FullPosts) × (slice_get counts k ≡ Some x) × (x.client ≡ c)
  pub once : (i j : ℕ) (x y : FullPosts) → slice_get counts i ≡ Some x → slice_get counts j ≡ Some y → x.client ≡ y.client → i ≡ j
  pub sum : IsSum lane_full counts

-- the rest of each client is the end of what it was told
abbrev pub AreLastNotices : {A : Type 0} → History A → List (Vec Notice A) → ℕ → Type 0
AreLastNotices {A} h rests clients = (c : ℕ) → c < clients → (v : Vec Notice A) × (slice_get rests c ≡ Some v) × IsEndOf v.items (notices h c)

-- ---- the clients

-- a client that runs its lines, and how many of its posts met a full lane
pub record ServedClientView (A : Type 0) : Type 0 where
  pub client : ClientView A
  pub lane_full : ℕ

-- the client has sent nothing, and may send this many orders
pub record IsNew {A : Type 0} (client : ClientView A) (most : ℕ) : Type 0 where
  pub sent : client.sent ≡ []
  pub orders : client.orders ≡ most

-- no client has sent anything, and each may send this many orders
abbrev pub AreNew : {A : Type 0} → ℕ → List (ClientView A) → Type 0
AreNew {A} most cs = (k : ℕ) (x : ClientView A) → slice_get cs k ≡ Some x → IsNew x most

-- the client, which may send this many orders, has run its lines among these events: what it sent, and how many posts met a full
-- lane, is what its posts come to; where none did and it has numbers for all, it sent all of them up to its first Close
pub record HasRun {A : Type 0} (events : List Event) (most : ℕ) (client : ClientView A) (full : ℕ) : Type 0 where
  pub part : IsSubsequence client.sent (posts client.number events)
  pub few : length client.sent ≤ length events
  pub orders : client.orders ≡ most
  pub whole : full ≡ 0 → length events < most → client.sent ≡ until_close (posts client.number events)
  pub come : ComeTo most (posts client.number events) client.sent full

-- the client has run its lines, and this is how many posts met a full lane, at most 2^32 - 1
pub record HasCounted {A : Type 0} (events : List Event) (most : ℕ) (client : ClientView A) (lane_full : ℕ) : Type 0 where
  pub full : ℕ
  pub run : HasRun events most client full
  pub counted : lane_full ≡ min full (2 ^ 32 - 1)

-- the clients have run their lines, and this many posts met a full lane
pub record AllHaveRun {A : Type 0} (events : List Event) (most : ℕ) (cs : List (ClientView A)) (lane_full : ℕ) : Type 0 where
  pub counts : List FullPosts
  pub count : length counts ≡ length cs
  pub each : (k : ℕ) (x : ClientView A) (y : FullPosts) → slice_get cs k ≡ Some x → slice_get counts k ≡ Some y → (y.client ≡ x.number) × HasRun events most x y.count
  pub sum : IsSum lane_full counts

-- the client is the same but for what it collected and knows of its outlet
pub record KeepsSent {A : Type 0} (old new : ClientView A) : Type 0 where
  pub number : new.number ≡ old.number
  pub orders : new.orders ≡ old.orders
  pub sent : new.sent ≡ old.sent
