use Rattle.std.proofs.Common.{◌≡◌, map}
use Rattle.std.specs.List.{range_with_len}
use Rattle.fleet_state.specs.Opened.{account_in}
use Rattle.fleet_state.proofs.clients.accounts_of.Given as goal

abbrev pub invariant-loop-c : goal.invariant-loop-c
invariant-loop-c g l = l.accounts.items ≡ map (account_in l.clients l.robots) (range_with_len 0 l.c)
