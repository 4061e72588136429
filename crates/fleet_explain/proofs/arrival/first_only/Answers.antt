-- What the search of the lists says of the arrivals.
use Rattle.std.proofs.Common.{List, Option, map, sym, subst}
use Rattle.std.specs.Prelude.{MatchOption}
use Rattle.fleet_history.specs.Legal.{Due as Arriving, due_of}
use Rattle.fleet_explain.specs.Only.{HasNoOther, IsOnlyIn}
use Rattle.fleet_explain.specs.Details.{is_same}
use Rattle.fleet_explain.proofs.Arrivals.{arrivals_read, by_name}
use Rattle.fleet_explain.proofs.arrival.first_only.Goals as goal

pub returns : goal.returns
returns c =
    let ds : List Arriving = map due_of c.args.arrivals.now in
    let others : List Arriving = map due_of c.args.others.now in
    by_name (HasNoOther is_same ds others) (IsOnlyIn is_same ds others) c.find_only.result
    (subst (λ (o : Option Arriving). MatchOption o (HasNoOther is_same ds others) (IsOnlyIn is_same ds others)) (sym c.find_only.ensures) (arrivals_read ds others))
