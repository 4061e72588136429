use Rattle.std.proofs.Common.{sym, ◌∙◌}
use Rattle.fleet_history.proofs.Legal.{length-place}
use Rattle.fleet_c.proofs.shown.show.Goals as goal

pub returns-in-Some-clause-cells : goal.returns-in-Some-clause-cells
returns-in-Some-clause-cells c = (c.placement.ensures.0 (c.requires ∙ sym (length-place c.args.core.now.floor c.args.core.now.history c.chapter.ensures.legal))).1
