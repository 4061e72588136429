-- The bound by the eldest robot; where nobody waits there is nothing to keep.
use Rattle.std.proofs.Common.{arith, ◌∙◌, ℕ, List, Option, ap, length, sym, subst}
use Rattle.std.proofs.lemmas.Result.{IfOk-weaker}
use Rattle.fleet_pibt.specs.Eldest.{IsEldest}
use Rattle.fleet_state.proofs.Parts.{wait-count, queue-count, robots-few}
use Rattle.fleet_reopen.proofs.Rooms.{eldest-front}
use Rattle.fleet_reopen.proofs.bound.is_within_bound.Goals as goal

pub eldest-requires : goal.eldest-requires
eldest-requires g c =
    let k = c.requires.is.1 in
    omega (arith, ap length c.waits.ensures.waits, wait-count k, queue-count k, robots-few k)

pub returns-in_default-front-clause-yes : goal.returns-in_default-front-clause-yes
returns-in_default-front-clause-yes g c = λ t h k bridgeless.
    let eldest = subst (λ (ws : List (Option ℕ)). IsEldest ws c.in-Some.robot) c.waits.ensures.waits c.in-Some.ensures in
    absurd (eldest-front k c.in-Some.robot eldest (sym (c.front.ensures.of c.args.grid.now h k) ∙ c.in_default-front.is))

pub returns-clause-no : goal.returns-clause-no
returns-clause-no g c =
    IfOk-weaker c.keeps_bound.result _ _ (λ within full is h k. (c.in_ok-has_no_bridge.ensures.0 c.if-not-branch.false, full is h k)) c.keeps_bound.ensures.no
