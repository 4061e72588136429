-- The status of a map's fault.
use Rattle.std.proofs.Common.{ap, sym}
use Rattle.fleet_text.specs.Complaint.{status_of}
use Rattle.fleet_text.proofs.said.Complaint.status.Goals as goal

pub returns-in-Map : goal.returns-in-Map
returns-in-Map c = ap status_of (sym c.in-Map.is)
