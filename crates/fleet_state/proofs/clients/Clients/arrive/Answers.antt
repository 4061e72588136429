-- The book and the tally of the client after one more arrival.
use Rattle.std.proofs.Common.{◌≡◌, ◌∙◌, ℕ, ◌+◌, ◌<◌, ap, sym, subst, length, arith}
use Rattle.std.specs.Prelude.{slice_set}
use Rattle.std.proofs.lemmas.List.{get_or_read}
use Rattle.fleet_book.specs.Counts.{Counts, account_of, with_account}
use Rattle.fleet_state.specs.declared.clients.Tally.{Tally}
use Rattle.fleet_state.specs.Clients.{Clients, tally_at, no_tally, settled, with_arrival}
use Rattle.fleet_state.proofs.clients.Clients.arrive.Goals as goal

arrived_by : (x : Clients) (c : ℕ) (counts : Counts) (t : Tally) → counts ≡ with_account x.counts c (settled (account_of x.counts c) 1) → t ≡ tally_at x.tallies c →
    ◌≡◌ {A = Clients} (record { counts = counts; tallies = slice_set x.tallies c (record { taken = t.taken; noticed = t.noticed + 1 }) }) (with_arrival x c)
arrived_by x c counts t p q = cc

pub settle-requires-clause-client : goal.settle-requires-clause-client
settle-requires-clause-client g c = omega (arith, c.requires.client, ap (λ (x : Clients). length x.tallies) c.self.view_is, c.self.invariant)

pub settle-requires-clause-owed : goal.settle-requires-clause-owed
settle-requires-clause-owed g c = subst (λ (x : Clients). 0 < (account_of x.counts c.args.client).owed) (sym c.self.view_is) c.requires.owed

pub returns : goal.returns
returns g c =
    let tallies = c.self.inside.tallies.items in
    let l : c.args.client < length tallies = omega (arith, c.requires.client, ap (λ (x : Clients). length x.tallies) c.self.view_is) in
    arrived_by (record { counts = c.self.inside.book; tallies = tallies }) c.args.client c.settle.new.self c.index_mut-tally.result.now c.settle.ensures
    (get_or_read tallies c.args.client c.index_mut-tally.result.now l c.index_mut-tally.ensures.value no_tally)
    ∙ ap (λ (x : Clients). with_arrival x c.args.client) c.self.view_is
