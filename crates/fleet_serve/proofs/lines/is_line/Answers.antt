-- A post is a line of a client in range.
use Rattle.std.proofs.Common.{rules}
use Rattle.fleet_serve.proofs.lines.is_line.Goals as goal

pub returns-in-Post : goal.returns-in-Post
returns-in-Post c = search rules
