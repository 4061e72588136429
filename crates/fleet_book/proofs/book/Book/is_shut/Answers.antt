-- Whether the robot is shut, read at its place.
use Rattle.std.proofs.Common.{rules}
use Rattle.fleet_book.proofs.book.Book.is_shut.Goals as goal

pub returns-in-Some : goal.returns-in-Some
returns-in-Some g c = search rules
