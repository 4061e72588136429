-- Letters by their directions.
use Rattle.fleet_plans.proofs.Leading.{leads, leads_only}
use Rattle.fleet_plans.proofs.law.letters_lead_to_the_next_cell.Goals as goal

pub returns-clause-leads : goal.returns-clause-leads
returns-clause-leads c = leads

pub returns-clause-only : goal.returns-clause-only
returns-clause-only c = leads_only
