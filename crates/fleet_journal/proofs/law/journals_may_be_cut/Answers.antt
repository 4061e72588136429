use Rattle.fleet_journal.proofs.Cuts.{cut-short, cut-within}
use Rattle.fleet_journal.proofs.law.journals_may_be_cut.Goals as goal

pub returns : goal.returns
returns c = record { short = cut-short; cut = cut-within }
