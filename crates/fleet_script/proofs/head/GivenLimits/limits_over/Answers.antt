-- The limits, each by its own default.
use Rattle.std.proofs.Common.{refl}
use Rattle.fleet_script.proofs.head.GivenLimits.limits_over.Goals as goal

pub returns : goal.returns
returns c =
    rw (c.unwrap_or.ensures, c.unwrap_or-2.ensures, c.unwrap_or-3.ensures, c.unwrap_or-4.ensures, c.unwrap_or-5.ensures, c.unwrap_or-6.ensures, c.unwrap_or-7.ensures, c.unwrap_or-8.ensures, c.unwrap_or-9.ensures) refl
