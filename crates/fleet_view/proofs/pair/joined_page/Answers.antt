-- One text after the other.
use Rattle.fleet_map.specs.Grammar.{view}
use Rattle.fleet_view.proofs.Paired.{joined}
use Rattle.fleet_view.proofs.pair.joined_page.Goals as goal

pub returns-in-Ok-clause-page : goal.returns-in-Ok-clause-page
returns-in-Ok-clause-page c =
    joined (view c.args.floor.now) c.args.first.items c.args.second.now c.extend_from_slice.new.self.items c.deref.result.now c.in-Ok.page.items c.in_ok-extend_from_slice.ensures.items c.deref.ensures.value c.in-Ok.ensures
