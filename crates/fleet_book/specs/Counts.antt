-- What the book counts.
use Rattle.std.specs.Prelude.{ℕ, ◌+◌, ◌-◌, ◌<◌, ◌≤◌, ◌≡◌, Bool, true, false, List, All, slice_set, slice_index_or}
use Rattle.fleet_book.specs.declared.account.Account.{Account}
use Rattle.fleet_book.specs.declared.order.Order.{Order}
use Rattle.fleet_book.specs.declared.order.Order.TheVariants.{Go}
use Rattle.fleet_book.specs.declared.verdict.Verdict.{Verdict}
use Rattle.fleet_book.specs.declared.verdict.Verdict.TheVariants.{Accepted, Closed, Withdrawn}
use Rattle.fleet_book.specs.Rule.{Standing}

-- the clients' accounts, which robots are shut, and how many errands a client may have accepted
pub record Counts : Type 0 where
  pub accounts : List Account
  pub shut : List Bool
  pub life : ℕ

-- a client's account at the opening
abbrev pub blank : Account
blank = record { accepted = 0; owed = 0; closed = false }

-- the client's account
abbrev pub account_of : Counts → ℕ → Account
account_of b client = slice_index_or b.accounts client blank

-- whether the robot takes no further errands, false where there is no such robot
abbrev pub is_shut : Counts → ℕ → Bool
is_shut b robot = slice_index_or b.shut robot false

-- whether the order names a robot that takes no further errands
abbrev pub names_shut : Counts → Order → Bool
names_shut b (Go robot cell) = is_shut b robot
names_shut b _ = false

-- what counts for the client's order
abbrev pub standing : Counts → ℕ → Order → Standing
standing b client order = record {
  closed = (account_of b client).closed;
  accepted = (account_of b client).accepted;
  life = b.life;
  shut = names_shut b order;
}

-- the book with another account of the client
abbrev pub with_account : Counts → ℕ → Account → Counts
with_account b client a = record b { accounts = slice_set b.accounts client a }

-- an account once a verdict is entered: an accepted errand is owed, a withdrawn one is owed no more
abbrev pub entered : Verdict → Account → Account
entered (Accepted number) a = record a { accepted = a.accepted + 1; owed = a.owed + 1 }
entered Closed a = record a { closed = true }
entered Withdrawn a = record a { owed = a.owed - 1 }
entered _ a = a

-- an accepted errand has the client's next number, which its life allows
abbrev pub IsNumbered : ℕ → Account → Verdict → Type 0
IsNumbered life a (Accepted number) = (number ≡ a.accepted + 1) × (number ≤ life)
IsNumbered life a _ = Unit {0}

-- a verdict that may be entered: an accepted errand has the next number, and a withdrawn one is owed
abbrev pub MayEnter : ℕ → Verdict → Account → Type 0
MayEnter life (Accepted number) a = (number ≡ a.accepted + 1) × (number ≤ life)
MayEnter life Withdrawn a = 0 < a.owed
MayEnter life _ a = Unit {0}

-- no client is owed more than it has had accepted, nor has had more than it may
abbrev pub IsWithin : ℕ → Account → Type 0
IsWithin life a = (a.owed ≤ a.accepted) × (a.accepted ≤ life)

-- no client is owed more than it has had accepted, nor has any had more than it may
abbrev pub AreWithin : ℕ → List Account → Type 0
AreWithin life accounts = All (IsWithin life) accounts
