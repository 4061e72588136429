-- Whether it continues is what the two tests say.
use Rattle.std.proofs.Common.{◌≡◌, ◌∙◌, Option, refl, sym, subst}
use Rattle.std.specs.Prelude.{MatchOption}
use Rattle.fleet_grid.specs.Floor.{Floor}
use Rattle.fleet_history.specs.declared.history.Opening.{Opening}
use Rattle.fleet_history.specs.History.{History, history_of}
use Rattle.fleet_history.specs.Next.{next_opening}
use Rattle.fleet_trace.specs.Trace.{trace_of}
use Rattle.fleet_trace.specs.Chapters.{IsSound}
use Rattle.fleet_trace.proofs.ErrandNames.{impossible}
use Rattle.fleet_trace.proofs.Turns.{continued, goes}
use Rattle.fleet_trace.proofs.chapters.turn.continues.Goals as goal

-- what is known of the opening that follows
abbrev IsNext : {A : Type 0} → Floor → History A → Option (Opening A) → Type 0
IsNext m h next = MatchOption next (IsSound m h → ⊥) (λ o. IsSound m h × (o ≡ next_opening h))

pub returns-then-not-branch : goal.returns-then-not-branch
returns-then-not-branch c = (
  λ e. absurd (impossible e),
  λ next. absurd (impossible (sym c.if-not-branch.true ∙ (c.in_ok-goes_on.ensures ∙ goes c.args.grid.now (trace_of c.args.first.now) (trace_of c.args.next.now) next))),
)

pub returns-in-Some : goal.returns-in-Some
returns-in-Some c =
    let after = subst (IsNext c.args.grid.now (history_of c.args.first.now)) c.in-Some.is c.in_ok-opening.ensures in (
      λ e. continued c.args.grid.now (trace_of c.args.first.now) (trace_of c.args.next.now) (sym c.in_ok-goes_on.ensures ∙ c.if-not-branch.false) (λ sound. c.is_same_opening.ensures.0 e ∙ after.1),
      λ next. c.is_same_opening.ensures.1 (next.state after.0 ∙ sym after.1),
    )

pub returns-in-None : goal.returns-in-None
returns-in-None c =
    let after = subst (IsNext c.args.grid.now (history_of c.args.first.now)) c.in-None.is c.in_ok-opening.ensures in (
      λ e. continued c.args.grid.now (trace_of c.args.first.now) (trace_of c.args.next.now) (sym c.in_ok-goes_on.ensures ∙ c.if-not-branch.false) (λ sound. absurd (after sound)),
      λ next. refl,
    )
