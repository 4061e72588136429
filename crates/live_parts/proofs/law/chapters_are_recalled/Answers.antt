-- By the numbers of the notices, and by how few they are.
use Rattle.live_parts.proofs.InARow.{recalled}
use Rattle.live_parts.proofs.MadeNotices.{legal-counted}
use Rattle.live_parts.proofs.law.chapters_are_recalled.Goals as goal

pub returns-clause-kept : goal.returns-clause-kept
returns-clause-kept c = recalled

pub returns-clause-counted : goal.returns-clause-counted
returns-clause-counted c = legal-counted
