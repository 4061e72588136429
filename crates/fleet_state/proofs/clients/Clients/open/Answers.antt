use Rattle.std.proofs.Common.{arith, length, refl}
use Rattle.std.proofs.lemmas.List.{length-map}
use Rattle.fleet_state.specs.Opened.{account_in, tally_in}
use Rattle.fleet_state.proofs.Opened.{are-within, owed-within}
use Rattle.fleet_state.proofs.Parts.{length-by}
use Rattle.fleet_state.proofs.clients.Clients.open.Goals as goal

pub of_accounts-requires-clause-within : goal.of_accounts-requires-clause-within
of_accounts-requires-clause-within g c = rw (c.in_ok-accounts.ensures, c.as_slice-robots.ensures, c.as_slice-clients.ensures) (are-within c.requires.1)

pub invariant_of-result : goal.invariant_of-result
invariant_of-result g c =
    let clients = c.as_slice-clients.result.now in
    rw (c.of_accounts.ensures, c.in_ok-accounts.ensures, c.in_ok-tallies.ensures)
    (omega (arith, length-by (account_in clients c.as_slice-robots.result.now) (length clients), length-map clients tally_in))

pub accounts_of-requires-clause-few : goal.accounts_of-requires-clause-few
accounts_of-requires-clause-few g c = rw c.as_slice-clients.ensures c.requires.1.few_clients

pub accounts_of-requires-clause-small : goal.accounts_of-requires-clause-small
accounts_of-requires-clause-small g c =
    let order = c.requires.1 in
    rw (c.as_slice-robots.ensures, c.as_slice-clients.ensures)
    (λ k l. omega (arith, (owed-within order k l).0, (owed-within order k l).1, order.life.1))

pub of_accounts-requires-clause-life : goal.of_accounts-requires-clause-life
of_accounts-requires-clause-life g c = c.requires.1.life.1

pub returns : goal.returns
returns g c =
    rw (c.of_accounts.ensures, c.in_ok-accounts.ensures, c.in_ok-shut.ensures, c.in_ok-tallies.ensures, c.as_slice-robots.ensures, c.as_slice-clients.ensures)
    refl
