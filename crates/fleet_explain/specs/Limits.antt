-- The limits of a fleet and the number of its clients.
use Rattle.std.specs.Prelude.{ℕ, List, codes}
use Rattle.fleet_book.specs.declared.limits.Limits.{Limits}
use Rattle.fleet_book.specs.Limits.{AreValid, IsBetween}
use Rattle.fleet_book.specs.Limits as book
use Rattle.fleet_explain.specs.declared.limits.LimitKind.{LimitKind}
use Rattle.fleet_explain.specs.declared.limits.LimitKind.TheVariants.{Fleet, Clients}

-- the least that a limit, or the number of clients, may be
abbrev pub least_of : LimitKind → ℕ
least_of (Fleet limit) = book.least_of limit
least_of Clients = 1

-- the greatest that a limit, or the number of clients, may be
abbrev pub most_of : LimitKind → ℕ
most_of (Fleet limit) = book.most_of limit
most_of Clients = 64

-- the name by which a script gives it
abbrev pub name_of : LimitKind → List ℕ
name_of (Fleet limit) = book.name_of limit
name_of Clients = codes "clients"

-- what it is among these limits and this number of clients
abbrev pub value_of : Limits → ℕ → LimitKind → ℕ
value_of limits clients (Fleet limit) = book.value_of limits limit
value_of limits clients Clients = clients

-- it is out of its range, and those before it are in theirs; the number of clients comes last
abbrev pub IsFirstOut : Limits → ℕ → LimitKind → Type 0
IsFirstOut limits clients (Fleet limit) = book.IsFirstOut limits limit
IsFirstOut limits clients Clients = AreValid limits × (IsBetween 1 64 clients → ⊥)
