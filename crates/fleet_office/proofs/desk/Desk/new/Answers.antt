-- What passes the three tests is in range.
use Rattle.std.proofs.Common.{arith, rules}
use Rattle.fleet_office.proofs.desk.Desk.new.Goals as goal

pub make-requires : goal.make-requires
make-requires g c = (search rules, (omega arith, omega arith))
