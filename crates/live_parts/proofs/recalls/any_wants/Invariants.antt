-- None of the clients so far wants more.
use Rattle.std.proofs.Common.{◌≡◌, ◌-◌, length}
use Rattle.std.specs.Prelude.{slice_index_or}
use Rattle.std.specs.List.{list_any, range_with_len}
use Rattle.fleet_history.specs.History.{unknown_client}
use Rattle.live_parts.specs.Recalls.{recall_at, wants_more}
use Rattle.live_parts.proofs.recalls.any_wants.Given as goal

abbrev pub invariant-loop-at : goal.invariant-loop-at
invariant-loop-at l =
    list_any (λ c. wants_more l.most (slice_index_or l.opened c unknown_client) (recall_at l.clients c)) (range_with_len l.at (length l.opened - l.at))
    ≡ list_any (λ c. wants_more l.most (slice_index_or l.opened c unknown_client) (recall_at l.clients c)) (range_with_len 0 (length l.opened))
