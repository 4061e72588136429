-- What is owed, by the client's account.
use Rattle.std.proofs.Common.{ap}
use Rattle.fleet_book.specs.declared.account.Account.{Account}
use Rattle.fleet_book.proofs.book.Book.owed.Goals as goal

pub returns-clause-value : goal.returns-clause-value
returns-clause-value g c = ap (λ (a : Account). a.owed) c.account.ensures.value
