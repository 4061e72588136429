-- What is known of the client, by its account and its tally.
use Rattle.std.proofs.Common.{◌≡◌, ◌∙◌, ℕ, ◌<◌, ap, length, arith}
use Rattle.std.proofs.lemmas.List.{get_or_read}
use Rattle.fleet_book.specs.declared.account.Account.{Account}
use Rattle.fleet_book.specs.Counts.{account_of}
use Rattle.fleet_state.specs.declared.clients.Tally.{Tally}
use Rattle.fleet_state.specs.Clients.{Clients, client_known, tally_at, no_tally}
use Rattle.fleet_state.proofs.clients.Clients.state.Goals as goal

known_by : (x : Clients) (c : ℕ) (a : Account) (t : Tally) → a ≡ account_of x.counts c → t ≡ tally_at x.tallies c →
    record { taken = t.taken; accepted = a.accepted; noticed = t.noticed; closed = a.closed } ≡ client_known x c
known_by x c a t p q = cc

pub returns : goal.returns
returns g c =
    let tallies = c.self.inside.tallies.items in
    let l : c.args.client < length tallies =
    omega (arith, c.requires, ap (λ (x : Clients). length x.tallies) c.self.view_is) in
    known_by (record { counts = c.self.inside.book; tallies = tallies }) c.args.client c.account-account.result
    c.index-tally.result.now c.account-account.ensures.value
    (get_or_read tallies c.args.client c.index-tally.result.now l c.index-tally.ensures no_tally)
    ∙ ap (λ (x : Clients). client_known x c.args.client) c.self.view_is
