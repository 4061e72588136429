use Rattle.std.proofs.Common.{refl}
use Rattle.fleet_reopen.proofs.law.reopened_is_next.Goals as goal

pub returns : goal.returns
returns g c = λ w laws same none. rw (same, none) refl
