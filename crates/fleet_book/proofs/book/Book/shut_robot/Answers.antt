-- The book with the robot shut.
use Rattle.std.proofs.Common.{ap, true}
use Rattle.std.specs.Prelude.{slice_set}
use Rattle.fleet_book.specs.Counts.{Counts}
use Rattle.fleet_book.proofs.book.Book.shut_robot.Goals as goal

pub returns : goal.returns
returns g c = ap (λ (w : Counts). record w { shut = slice_set w.shut c.args.robot true }) c.self.view_is
