use Rattle.std.proofs.Common.{sym, ◌∙◌}
use Rattle.std.proofs.lemmas.Bool.{false≢true}
use Rattle.fleet_bridge.proofs.Inner.{near_by, no_bridge}
use Rattle.fleet_bridge.proofs.search.searched_beside.Goals as goal

pub is_bridge-requires : goal.is_bridge-requires
is_bridge-requires g c = near_by c.args.grid.now c.args.cell c.in-Some.next c.args.dir c.in-Some.ensures

pub returns-in_default : goal.returns-in_default
returns-in_default g c = λ b n bridge. c.in_default.ensures b n

pub returns-then-branch : goal.returns-then-branch
returns-then-branch g c = (c.in-Some.ensures, c.in_ok-is_bridge.ensures.0 c.if-branch.true)

pub returns : goal.returns
returns g c = no_bridge c.args.grid.now c.args.cell c.in-Some.next c.args.dir c.in-Some.ensures (λ bridge. false≢true (sym c.if-branch.false ∙ c.in_ok-is_bridge.ensures.1 bridge))
