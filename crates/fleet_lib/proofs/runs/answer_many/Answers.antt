-- The page, and what is said of it.
use Rattle.fleet_lib.proofs.runs.answer_many.Goals as goal

pub returns : goal.returns
returns c = (c.in_ok-page.page, c.in_ok-page.ensures, c.said_many.ensures)
