use Rattle.std.proofs.Common.{◌≡◌, take}
use Rattle.std.specs.List.{sum_by}
use Rattle.fleet_office.proofs.ticker.parts_of.Given as goal

abbrev pub invariant-loop-ticker : goal.invariant-loop-ticker
invariant-loop-ticker g l = l.parts ≡ sum_by (λ t. t.parts) (take l.ticker-index l.tickers)
