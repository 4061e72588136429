use Rattle.std.proofs.Common.{◌≡◌, ◌++◌, drop}
use Rattle.fleet_view.specs.Verdicts.{verdicts_text}
use Rattle.fleet_view.proofs.page.write_verdicts.Given as goal

abbrev pub invariant-loop-verdict : goal.invariant-loop-verdict
invariant-loop-verdict l = l.out.items ++ verdicts_text (drop l.verdict-index l.verdicts) ≡ l.fn.out.items ++ verdicts_text l.verdicts
