use Rattle.test_grid.proofs.ShortWaits.{short}
use Rattle.test_grid.proofs.lendings.lent.Goals as goal

pub lend-lending-requires-clause-early : goal.lend-lending-requires-clause-early
lend-lending-requires-clause-early c = short
