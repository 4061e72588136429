-- The answers of a post to a closed client, of one with no number left, and of one that was sent.
use Rattle.std.proofs.Common.{ℕ, ◌≡◌, ◌+◌, ◌∙◌, sym, refl, arith, Ok, Err}
use Rattle.fleet_book.specs.declared.order.Order.{Order}
use Rattle.fleet_lanes.specs.declared.fault.PostFault.TheVariants.{LaneFull}
use Rattle.fleet_lanes.proofs.client.Client.post.Goals as goal

-- what was sent was not refused
sent_not_full : (n : ℕ) (order : Order) → Ok n ≡ Err (LaneFull order) → ⊥
sent_not_full n order e = cc

pub returns-then-self-clause-ok : goal.returns-then-self-clause-ok
returns-then-self-clause-ok g c = tt

pub returns-then-self-clause-closed : goal.returns-then-self-clause-closed
returns-then-self-clause-closed g c =
    rw (← c.self.view_is) (λ _. sym c.self.invariant.1 ∙ c.if-self.true, λ _. refl)

pub returns-then-self-number-clause-spent : goal.returns-then-self-number-clause-spent
returns-then-self-number-clause-spent g c =
    rw (← c.self.view_is) (
      λ _. (
        sym c.self.invariant.1 ∙ c.if-self.false,
        sym c.is_close-last.ensures ∙ c.if-not-last.true,
        omega (arith, c.self.invariant.2 c.if-self.false),
      ),
      λ _. refl,
    )

pub returns-clause-full : goal.returns-clause-full
returns-clause-full g c e = absurd (sent_not_full (c.self.inside.count + 1) c.args.order e)

pub returns-clause-refused : goal.returns-clause-refused
returns-clause-refused g c = tt
