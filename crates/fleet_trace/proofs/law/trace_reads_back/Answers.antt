use Rattle.fleet_trace.proofs.RoundTrip.{reads_again}
use Rattle.fleet_trace.proofs.law.trace_reads_back.Goals as goal

pub returns : goal.returns
returns c = reads_again
