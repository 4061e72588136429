-- The book with the client closed.
use Rattle.std.proofs.Common.{ap, ◌∙◌, true}
use Rattle.fleet_book.specs.Counts.{with_account}
use Rattle.fleet_book.specs.declared.account.Account.{Account}
use Rattle.fleet_book.proofs.book.Book.close_client.Goals as goal

pub returns : goal.returns
returns g c =
    c.put.ensures
    ∙ ap
    (λ (a : Account). with_account c.args.self.now c.args.client (record a { closed = true }))
    c.account-account.ensures.value
