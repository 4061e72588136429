-- The verdicts of an errand to a cell that is not there, and of an errand that nothing refuses.
use Rattle.std.proofs.Common.{◌≡◌, ◌∙◌, ap, sym, refl, false, arith, nat_eq, ne_eqb}
use Rattle.std.proofs.lemmas.Bool.{not-false, not-true}
use Rattle.fleet_book.specs.Counts.{Counts}
use Rattle.fleet_book.proofs.book.Book.judge_go.Goals as goal

pub returns-then-not-facts-2-clause-verdict : goal.returns-then-not-facts-2-clause-verdict
returns-then-not-facts-2-clause-verdict g c =
    rw (
      not-false c.args.facts.robot_known c.if-not-facts.false,
      sym c.is_shut.ensures ∙ c.if-is_shut.false,
      not-true c.args.facts.in_range c.if-not-facts-2.true,
    )

pub returns-clause-verdict : goal.returns-clause-verdict
returns-clause-verdict g c =
    let spent : nat_eq c.args.account.accepted c.args.self.now.life ≡ false =
    ne_eqb c.args.account.accepted c.args.self.now.life
    (λ e. c.if-account-self.false (e ∙ ap (λ (w : Counts). w.life) (sym c.self.view_is))) in
    rw (
      not-false c.args.facts.robot_known c.if-not-facts.false,
      sym c.is_shut.ensures ∙ c.if-is_shut.false,
      not-false c.args.facts.in_range c.if-not-facts-2.false,
      not-false c.args.facts.floor c.if-not-facts-3.false,
      not-false c.args.facts.same_part c.if-not-facts-4.false,
      c.if-facts.false,
      spent,
    )

pub returns-clause-numbered : goal.returns-clause-numbered
returns-clause-numbered g c = (refl, omega (arith, ap (λ (w : Counts). w.life) c.self.view_is))
