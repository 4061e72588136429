-- Chapters that follow one another, and what holds of all of them together, also where a world ended between two of them.
use Rattle.std.specs.Prelude.{ℕ, ◌≡◌, List, [], ◌∷◌, ◌++◌}
use Rattle.std.specs.List.{flat_map}
use Rattle.fleet_grid.specs.Floor.{Floor}
use Rattle.fleet_book.specs.declared.notice.Notice.{Notice}
use Rattle.fleet_book.specs.declared.order.Order.{Order}
use Rattle.fleet_history.specs.declared.history.Opening.{Opening}
use Rattle.fleet_history.specs.History.{History}
use Rattle.fleet_history.specs.Laws.{orders}
use Rattle.fleet_history.specs.Legal.{IsLegal}
use Rattle.fleet_history.specs.Next.{next_opening}
use Rattle.fleet_history.specs.Notices.{notices}

-- a last chapter, and those before it: each is legal and has the property, the first begins with the opening, and each other
-- with what is after the one before
pub data AreChapters {A : Type 0} (m : Floor) (P : History A → Type 0) (o : Opening A) : List (History A) → History A → Type 0 where
  first : {h : History A} → IsLegal m h → P h → h.opening ≡ o → AreChapters m P o [] h
  next : {before : List (History A)} {h : History A} {all : List (History A)} {g : History A} → AreChapters m P o before h → IsLegal m g → P g →
      g.opening ≡ next_opening h → all ≡ before ++ h ∷ [] → AreChapters m P o all g

-- the orders that were taken of a client in all chapters
abbrev pub all_orders : {A : Type 0} → List (History A) → History A → ℕ → List Order
all_orders before h c = flat_map (λ g. orders g c) before ++ orders h c

-- the notices of a client in all chapters
abbrev pub all_notices : {A : Type 0} → List (History A) → History A → ℕ → List Notice
all_notices before h c = flat_map (λ g. notices g c) before ++ notices h c
