-- What is said of the site after an opening.
use Rattle.fleet_refit.proofs.site.Site.after.Goals as goal

pub returns-in-Ok-clause-site : goal.returns-in-Ok-clause-site
returns-in-Ok-clause-site g c = c.in-Ok.ensures.site

pub returns-in-Ok-clause-opening : goal.returns-in-Ok-clause-opening
returns-in-Ok-clause-opening g c = c.in-Ok.ensures.opening

pub returns-in-Ok-clause-numbers : goal.returns-in-Ok-clause-numbers
returns-in-Ok-clause-numbers g c = c.in-Ok.ensures.numbers

pub returns-in-Ok-clause-the_moving : goal.returns-in-Ok-clause-the_moving
returns-in-Ok-clause-the_moving g c = c.in-Ok.ensures.the_moving

pub returns-in-Ok-clause-others : goal.returns-in-Ok-clause-others
returns-in-Ok-clause-others g c = c.in-Ok.ensures.others

pub returns-in-Ok-clause-map : goal.returns-in-Ok-clause-map
returns-in-Ok-clause-map g c = c.in-Ok.ensures.map

pub returns-in-Ok-clause-in_order : goal.returns-in-Ok-clause-in_order
returns-in-Ok-clause-in_order g c = c.in-Ok.ensures.in_order
