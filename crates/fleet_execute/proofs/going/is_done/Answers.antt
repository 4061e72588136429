-- Whether all is reached.
use Rattle.std.proofs.Common.{◌≡◌, ℕ, ◌≤◌, List, true, leb, sym, ◌∙◌, ap, arith, rules}
use borrow.Author.Tests.{leb-true}
use Rattle.fleet_execute.specs.Goes.{steps_in, last_step}
use Rattle.fleet_execute.proofs.going.is_done.Goals as goal

some_test : (m n : ℕ) → m ≤ n → leb m n ≡ true
some_test m n small = search rules

pub returns-then-behind-eq0 : goal.returns-then-behind-eq0
returns-then-behind-eq0 c o x =
    let last : c.steps_in.result ≡ last_step c.args.plan.now = c.steps_in.ensures ∙ ap (λ (xs : List ℕ). steps_in c.args.plan.now.robots xs) c.as_slice.ensures.value in
    let steps : c.steps.result ≡ o.run.plan.steps = c.steps.ensures ∙ sym x.steps in (
      λ it_is. record {
        planned = (let small : c.steps_in.result ≤ c.steps.result = leb-true c.steps_in.result c.steps.result it_is in omega (arith, small, last, steps));
        reached = λ r t inside small moves. (c.behind.ensures o x).before r t inside (omega (arith, c.if-behind-eq0.true, small)) moves;
      },
      λ done. some_test c.steps_in.result c.steps.result (omega (arith, done.planned, last, steps)),
    )
