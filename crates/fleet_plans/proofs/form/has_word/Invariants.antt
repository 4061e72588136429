use Rattle.std.proofs.Common.{◌≡◌, length}
use Rattle.fleet_plans.specs.Form.{has_word}
use Rattle.fleet_plans.proofs.form.has_word.Given as goal

abbrev pub invariant-loop-first : goal.invariant-loop-first
invariant-loop-first l = has_word l.word l.rest ≡ has_word l.word l.text

abbrev pub decreases-loop-first : goal.decreases-loop-first
decreases-loop-first l = length l.rest
