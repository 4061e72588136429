-- The reading from the first line on.
use Rattle.std.proofs.Common.{ap, arith}
use Rattle.fleet_map.specs.Text.{lines_of}
use Rattle.fleet_script.specs.Script.{Draft, draft_of}
use Rattle.fleet_script.proofs.script.read_runs.Goals as goal

pub loop-line-init : goal.loop-line-init
loop-line-init g c = record { read = ap (λ (d : Draft). draft_of d 1 (lines_of c.args.bytes.now)) c.new-draft.ensures; room = omega arith }
