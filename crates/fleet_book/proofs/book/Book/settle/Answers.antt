-- The book with one errand of the client finished.
use Rattle.std.proofs.Common.{ap, ◌∙◌, ◌-◌}
use Rattle.fleet_book.specs.Counts.{with_account}
use Rattle.fleet_book.specs.declared.account.Account.{Account}
use Rattle.fleet_book.proofs.book.Book.settle.Goals as goal

pub returns : goal.returns
returns g c =
    c.put.ensures
    ∙ ap
    (λ (a : Account). with_account c.args.self.now c.args.client (record a { owed = a.owed - 1 }))
    c.account-account.ensures.value
