-- The clients of a state, and what a take and an arrival make of them.
use Rattle.std.specs.Prelude.{ℕ, ◌+◌, ◌-◌, List, slice_set, slice_index_or}
use Rattle.fleet_book.specs.declared.account.Account.{Account}
use Rattle.fleet_book.specs.declared.verdict.Verdict.{Verdict}
use Rattle.fleet_book.specs.Counts.{Counts, account_of, with_account, entered}
use Rattle.fleet_history.specs.declared.history.ClientState.{ClientState}
use Rattle.fleet_state.specs.declared.clients.Tally.{Tally}

-- the book, and by client how many orders were taken and notices made
pub record Clients : Type 0 where
  pub counts : Counts
  pub tallies : List Tally

-- the tally of a client that does not exist: no orders and no notices
abbrev pub no_tally : Tally
no_tally = record { taken = 0; noticed = 0 }

-- the client's tally
abbrev pub tally_at : List Tally → ℕ → Tally
tally_at tallies c = slice_index_or tallies c no_tally

-- an account after this many arrivals
abbrev pub settled : Account → ℕ → Account
settled a n = record a { owed = a.owed - n }

-- a tally after this many more notices
abbrev pub told : Tally → ℕ → Tally
told t n = record t { noticed = t.noticed + n }

-- a tally after one more order and its verdict
abbrev pub one_taken : Tally → Tally
one_taken t = record { taken = t.taken + 1; noticed = t.noticed + 1 }

-- the clients once an order of this one has the verdict
abbrev pub with_verdict : Clients → ℕ → Verdict → Clients
with_verdict x c v = record {
  counts = with_account x.counts c (entered v (account_of x.counts c));
  tallies = slice_set x.tallies c (one_taken (tally_at x.tallies c));
}

-- the clients once an errand of this one arrived
abbrev pub with_arrival : Clients → ℕ → Clients
with_arrival x c = record {
  counts = with_account x.counts c (settled (account_of x.counts c) 1);
  tallies = slice_set x.tallies c (told (tally_at x.tallies c) 1);
}

-- what is known of a client
abbrev pub client_known : Clients → ℕ → ClientState
client_known x c = record {
  taken = (tally_at x.tallies c).taken;
  accepted = (account_of x.counts c).accepted;
  noticed = (tally_at x.tallies c).noticed;
  closed = (account_of x.counts c).closed;
}
