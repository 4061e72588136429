use Rattle.std.proofs.Common.{◌∙◌, arith, ap}
use Rattle.fleet_book.specs.declared.account.Account.{Account}
use Rattle.fleet_state.proofs.Parts.{inside, tally-count, account-of}
use Rattle.fleet_state.proofs.state.FleetState.owed.Goals as goal

pub returns : goal.returns
returns g c m h k = c.owed.ensures ∙ ap (λ (a : Account). a.owed) (account-of (inside c.self.view_is k) c.args.client (omega (arith, c.requires, tally-count k)))
