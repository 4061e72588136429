-- The book with a verdict entered.
use Rattle.std.proofs.Common.{ℕ, ap₂, ◌∙◌, ◌+◌}
use Rattle.fleet_book.specs.Counts.{with_account}
use Rattle.fleet_book.specs.declared.account.Account.{Account}
use Rattle.fleet_book.proofs.book.Book.enter.Goals as goal

pub returns-in-Accepted : goal.returns-in-Accepted
returns-in-Accepted g c =
    let book = c.args.self.now in
    let may = rw c.in-Accepted.is at c.requires.may in
    rw c.in-Accepted.is
    (c.put.ensures
    ∙ ap₂
    (λ (n : ℕ) (a : Account). with_account book c.args.client (record a { accepted = n; owed = a.owed + 1 }))
    may.0
    c.account-account.ensures.value)

pub returns-in-Withdrawn : goal.returns-in-Withdrawn
returns-in-Withdrawn g c = rw c.in-Withdrawn.is (cc)
