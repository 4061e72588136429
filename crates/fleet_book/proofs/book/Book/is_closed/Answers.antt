-- Whether the client is closed, by its account.
use Rattle.std.proofs.Common.{ap}
use Rattle.fleet_book.specs.declared.account.Account.{Account}
use Rattle.fleet_book.proofs.book.Book.is_closed.Goals as goal

pub returns : goal.returns
returns g c = ap (λ (a : Account). a.closed) c.account.ensures.value
