-- The names of the arrivals.
use Rattle.std.proofs.Common.{◌∙◌, sym}
use Rattle.fleet_history.specs.Legal.{due_of}
use Rattle.fleet_explain.specs.Details.{named, is_same}
use Rattle.fleet_explain.proofs.Only.{any_map}
use Rattle.fleet_explain.proofs.arrival.is_among.Goals as goal

pub returns : goal.returns
returns c = c.has_name.ensures ∙ sym (any_map due_of (λ d. is_same d (named c.args.name)) c.args.arrivals.now)
