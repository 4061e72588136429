-- What is said are the client's open errands.
use Rattle.std.proofs.Common.{◌∙◌, List, ℕ, subst}
use Rattle.std.proofs.lemmas.Result.{on_ok_weaker}
use Rattle.fleet_talk.specs.Said.{IsAdded, under}
use Rattle.fleet_talk.specs.Says.{marked}
use Rattle.fleet_talk.proofs.doing.list.Goals as goal

pub returns-clause-ok : goal.returns-clause-ok
returns-clause-ok g c =
    on_ok_weaker c.say.result (λ h. subst (λ (text : List ℕ). IsAdded c.args.pen.now c.say.new.self (marked (under c.args.mark) text)) (c.as_str.ensures.value ∙ c.in_ok-lines.ensures) h)
    c.say.ensures.ok
