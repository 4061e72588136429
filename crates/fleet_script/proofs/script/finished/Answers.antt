-- The plan of a script that names its robots.
use Rattle.std.proofs.Common.{refl}
use Rattle.fleet_script.proofs.script.finished.Goals as goal

pub returns-in-Some : goal.returns-in-Some
returns-in-Some g c = rw (c.in-Some.is, c.unwrap_or.ensures, c.limits.ensures, c.unwrap_or-in-Some.ensures, c.unwrap_or-in-Some-2.ensures) refl
