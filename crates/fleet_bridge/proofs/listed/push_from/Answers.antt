-- What is found to the east comes before what is found to the south.
use Rattle.std.proofs.Common.{◌≡◌, ap, sym, subst, ◌∙◌, ◌++◌, ◌+◌, List, ℕ}
use Rattle.fleet_grid.specs.Floor.{IsNeighbour}
use Rattle.fleet_bridge.specs.inside.Listed.{AreListedBelow, pair_if}
use Rattle.fleet_bridge.proofs.Listing.{with_east, with_south}
use Rattle.fleet_bridge.proofs.listed.push_from.Goals as goal

pub returns : goal.returns
returns g c =
    let m = c.args.sides.now in
    let cell = c.args.cell in
    let old = c.args.list.now.items in
    let made : c.push_found-2.new.list.items ≡ (old ++ pair_if cell c.in_ok-east.east) ++ pair_if cell c.in_ok-south.south =
    c.in_ok-push_found-2.ensures ∙ ap (λ (xs : List (ℕ × ℕ)). xs ++ pair_if cell c.in_ok-south.south) c.in_ok-push_found.ensures in
    subst (AreListedBelow (IsNeighbour m) (cell + 1)) (sym made)
    (with_south m cell c.in_ok-south.south (old ++ pair_if cell c.in_ok-east.east) c.requires.form c.in_ok-south.ensures
    (with_east m cell c.in_ok-east.east old c.in_ok-east.ensures c.requires.before))
