-- Posts that count only as an order of one number.
use Rattle.std.specs.Prelude.{ℕ, ◌==◌, Bool, true, List, ◌++◌, Option, MatchBool, codes, decimal, not}
use Rattle.fleet_book.specs.declared.order.Order.{Order}
use Rattle.fleet_book.specs.declared.order.Order.TheVariants.{Go}
use Rattle.fleet_roomy.specs.Unroomy.{has}
use Rattle.fleet_text.specs.Answers.{no_room_line}
use Rattle.fleet_talk.specs.Says.{marked}
use Rattle.live_parts.specs.Notices.{capped}
use Rattle.live_parts.specs.declared.demand.Numbered.{Numbered}
use Rattle.live_fleet.specs.declared.notes.Note.{Note}
use Rattle.live_fleet.specs.declared.speaker.Speaker.{Speaker}
use Rattle.live_fleet.specs.Act.{Act}
use Rattle.live_fleet.specs.Answering.{Answers}
use Rattle.live_fleet.specs.Own.{IfOwn, is_own}
use Rattle.live_fleet.specs.Party.{Stage}
use Rattle.live_fleet.specs.Posting.{Posts}
use Rattle.live_fleet.specs.Sessions.{note_at}

-- the number that a client's next order has
abbrev pub next_order : List Note → ℕ → ℕ
next_order notes client = capped (note_at notes client).last 1

-- whether an order is none to a cell to which posts are refused
abbrev pub is_let_in : List Bool → Order → Bool
is_let_in cells (Go robot cell) = not (has cells cell)
is_let_in cells order = true

-- an order is not its client's next one, which has this number
abbrev pub not_next_line : ℕ → ℕ → List ℕ
not_next_line client next = codes "post-refused " ++ (decimal client ++ (codes " 4 next " ++ (decimal next ++ codes "\n")))

-- an order is refused that is not its client's next one
abbrev pub RefusesNumber : ℕ → Speaker → Option (List ℕ) → ℕ → Stage → List Act → Stage → Type 0
RefusesNumber k sp mark client s acts t = Answers k sp (marked mark (not_next_line client (next_order s.notes client))) s acts t

-- posts to this cell are refused
abbrev pub RefusesCell : ℕ → Speaker → Option (List ℕ) → ℕ → Stage → List Act → Stage → Type 0
RefusesCell k sp mark client s acts t = Answers k sp (marked mark (no_room_line client)) s acts t

-- an order is posted if posts to its cell are not refused
abbrev pub PostsLetIn : ℕ → Speaker → Option (List ℕ) → ℕ → Order → Stage → List Act → Stage → Type 0
PostsLetIn k sp mark client order s acts t = MatchBool (is_let_in s.door.refused order) (Posts k sp mark client order s acts t) (RefusesCell k sp mark client s acts t)

-- an order is posted if its number is that of its client's next one, and posts to its cell are not refused
abbrev pub PostsAs : ℕ → Speaker → Option (List ℕ) → Numbered → Stage → List Act → Stage → Type 0
PostsAs k sp mark post s acts t =
    MatchBool (next_order s.notes post.client == post.number) (PostsLetIn k sp mark post.client post.order s acts t) (RefusesNumber k sp mark post.client s acts t)

-- a numbered post is done, if the conversation speaks for the client
abbrev pub HearsPostAs : ℕ → Speaker → Option (List ℕ) → Numbered → Stage → List Act → Stage → Type 0
HearsPostAs k sp mark post s acts t = IfOwn (is_own sp.clients s.clients post.client) (PostsAs k sp mark post s acts t) k sp mark post.client s acts t
