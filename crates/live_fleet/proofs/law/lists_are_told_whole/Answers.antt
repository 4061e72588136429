-- Line by line.
use Rattle.live_fleet.proofs.Lists.{lists-whole}
use Rattle.live_fleet.proofs.law.lists_are_told_whole.Goals as goal

pub returns : goal.returns
returns c = λ mark client errands. lists-whole mark client errands
