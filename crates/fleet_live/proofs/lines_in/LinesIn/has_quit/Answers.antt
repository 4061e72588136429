-- No byte is lost by one more piece.
use Rattle.fleet_live.proofs.Pulled.{takes-more, takes-none}
use Rattle.fleet_live.proofs.lines_in.LinesIn.has_quit.Goals as goal

pub loop-init : goal.loop-init
loop-init g c = takes-none c.args.self.now

pub loop-preserved : goal.loop-preserved
loop-preserved g c = takes-more c.args.self.now c.loop.self c.look.new.self c.pull.new.self c.look.ensures.ring c.look.ensures.bytes c.loop.invariant c.in_ok-pull.ensures
