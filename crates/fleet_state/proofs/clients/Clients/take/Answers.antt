-- The book and the tally of the client after one more verdict.
use Rattle.std.proofs.Common.{◌≡◌, ◌∙◌, ℕ, ◌+◌, ◌<◌, ap, length, arith}
use Rattle.std.specs.Prelude.{slice_set}
use Rattle.std.proofs.lemmas.List.{get_or_read}
use Rattle.fleet_book.specs.declared.verdict.Verdict.{Verdict}
use Rattle.fleet_book.specs.Counts.{Counts, account_of, with_account, entered}
use Rattle.fleet_state.specs.declared.clients.Tally.{Tally}
use Rattle.fleet_state.specs.Clients.{Clients, tally_at, no_tally, with_verdict}
use Rattle.fleet_state.proofs.clients.Clients.take.Goals as goal

taken_by : (x : Clients) (c : ℕ) (v : Verdict) (counts : Counts) (t : Tally) →
    counts ≡ with_account x.counts c (entered v (account_of x.counts c)) → t ≡ tally_at x.tallies c →
    ◌≡◌ {A = Clients} (record {
      counts = counts;
      tallies = slice_set x.tallies c (record { taken = t.taken + 1; noticed = t.noticed + 1 });
    }) (with_verdict x c v)
taken_by x c v counts t p q = cc

pub returns : goal.returns
returns g c =
    let tallies = c.self.inside.tallies.items in
    let l : c.args.client < length tallies =
    omega (arith, c.requires.client, ap (λ (x : Clients). length x.tallies) c.self.view_is) in
    taken_by (record { counts = c.self.inside.book; tallies = tallies }) c.args.client c.args.verdict c.enter.new.self
    c.index_mut-tally.result.now c.enter.ensures
    (get_or_read tallies c.args.client c.index_mut-tally.result.now l c.index_mut-tally.ensures.value no_tally)
    ∙ ap (λ (x : Clients). with_verdict x c.args.client c.args.verdict) c.self.view_is
