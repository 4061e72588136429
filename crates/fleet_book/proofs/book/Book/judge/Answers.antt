-- The verdicts of a closed client's order, and of a withdrawal of a front.
use Rattle.std.proofs.Common.{◌≡◌, ◌∙◌, ap, sym, true, false}
use Rattle.fleet_book.specs.Counts.{account_of, standing}
use Rattle.fleet_book.specs.Rule.{Standing, verdict_of}
use Rattle.fleet_book.specs.declared.account.Account.{Account}
use Rattle.fleet_book.specs.declared.facts.Facts.{Facts}
use Rattle.fleet_book.specs.declared.order.Order.{Order}
use Rattle.fleet_book.specs.declared.order.Order.TheVariants.{Go, Close, Withdraw}
use Rattle.fleet_book.specs.declared.verdict.Verdict.TheVariants.{ClientClosed}
use Rattle.fleet_book.proofs.book.Book.judge.Goals as goal

-- whatever a closed client orders
closed_verdict : (order : Order) (s : Standing) (f : Facts) → s.closed ≡ true → ClientClosed ≡ verdict_of order s f
closed_verdict (Go robot cell) s f e = rw e
closed_verdict Close s f e = rw e
closed_verdict (Withdraw number) s f e = rw e

pub returns-then-account-clause-verdict : goal.returns-then-account-clause-verdict
returns-then-account-clause-verdict g c =
    closed_verdict
    c.args.order
    (standing c.args.self.now c.args.client c.args.order)
    c.args.facts
    (ap (λ (a : Account). a.closed) (sym c.account-account.ensures.value) ∙ c.if-account.true)

pub returns-then-account-clause-numbered : goal.returns-then-account-clause-numbered
returns-then-account-clause-numbered g c = tt

pub returns-in-Front-clause-verdict : goal.returns-in-Front-clause-verdict
returns-in-Front-clause-verdict g c =
    let opened : (account_of c.args.self.now c.args.client).closed ≡ false =
    ap (λ (a : Account). a.closed) (sym c.account-account.ensures.value) ∙ c.if-account.false in
    rw (c.in-Withdraw.is, opened, c.in-Front.is)
