use Rattle.std.proofs.Common.{◌≡◌, ◌∙◌, ◌+◌, arith, sym, refl, subst}
use Rattle.std.proofs.lemmas.Result.{err_from_is_err_and}
use Rattle.fleet_history.specs.History.{History, history_of, start}
use Rattle.fleet_history.specs.Next.{next_opening}
use Rattle.fleet_history.proofs.Next.{next-robots}
use Rattle.fleet_history.proofs.Ticks.{each_tick-start}
use Rattle.mover.specs.Moving.{HasTurns, IsPlannedAs}
use Rattle.fleet_state.proofs.NextOpening.{goes-on}
use Rattle.fleet_state.proofs.Parts.{queue-count}
use Rattle.fleet_core.specs.Hooks.{AreArrivals, AreFarewells}
use Rattle.fleet_core.specs.inside.Kept.{IsKept}
use Rattle.fleet_bound.proofs.BoundLaws.{bound-next}
use Rattle.fleet_bound.proofs.Roomy.{bound-bridgeless}
use Rattle.fleet_core.proofs.WaitBound.{advances-kept, bound-kept, plain-kept, waits-kept, serves-kept}
use Rattle.fleet_planner.proofs.GoalsKept.{aimed-next}
use Rattle.fleet_core.proofs.ClosuresKept.{arrivals-next, farewells-next}
use Rattle.fleet_core.proofs.CoreKept.{boxes-next, within-next, within-room}
use Rattle.fleet_core.proofs.FaultCases.{chapter-no_memory-book_spent, done}
use Rattle.fleet_core.proofs.Refusals.{not_same}
use Rattle.fleet_core.proofs.kernel.Core.next_chapter.Goals as goal

-- the next chapter's history starts at the opening that follows
history_is : (g : _) (c : goal.After-replace g) → history_of c.replace.new.dest ≡ start (next_opening (history_of c.self.inside.chapter))
history_is g c =
    let same = c.in_ok-opening.ensures.next c.self.inside.grid (history_of c.self.inside.chapter) c.self.invariant.is refl in
    rw (c.replace.ensures.after, c.new.ensures.items, same) refl

number_is : (g : _) (c : goal.After-replace g) → c.replace.new.dest.number ≡ c.self.inside.chapter.number + 1
number_is g c = rw c.replace.ensures.after refl

pub next_opening-requires : goal.next_opening-requires
next_opening-requires g c = sym (queue-count c.self.invariant.is)

pub invariant_of-self : goal.invariant_of-self
invariant_of-self g c =
    let k = c.self.invariant in
    let h = history_of c.self.inside.chapter in
    subst (λ (x : History g.row.A.Denot). IsKept c.self.inside.grid c.self.inside.limits c.self.inside.ties.items c.replace.new.dest.number x c.self.inside.state c.self.inside.planner c.self.inside.mailboxes) (sym (history_is g c))
    (subst (λ n. IsKept c.self.inside.grid c.self.inside.limits c.self.inside.ties.items n (start (next_opening h)) c.self.inside.state c.self.inside.planner c.self.inside.mailboxes) (sym (number_is g c))
    (record {
      is = goes-on k.is (within-room k.within);
      room = k.room;
      within = within-next k.within c.if-self.false;
      boxed = boxes-next k.is.legal k.boxed;
      aimed = aimed-next k.is k.aimed;
      turns = subst (λ n. HasTurns c.self.inside.grid n c.self.inside.planner.turns) (sym (next-robots h)) k.turns;
      tied = record { count = k.tied.count ∙ sym (next-robots h); planned = each_tick-start (IsPlannedAs c.self.inside.planner.turns c.self.inside.grid c.self.inside.ties.items) (next_opening h) };
      bounded = λ none. bound-next c.self.inside.grid h k.is.legal (bound-kept k (plain-kept k none) (bound-bridgeless c.self.inside.grid h none));
    }))

pub returns-clause-planned : goal.returns-clause-planned
returns-clause-planned g c = rw (← c.self.view_is) c.self.invariant.tied.planned

pub returns-clause-advancing : goal.returns-clause-advancing
returns-clause-advancing g c = rw (← c.self.view_is) (advances-kept c.self.invariant)

pub returns-clause-next : goal.returns-clause-next
returns-clause-next g c = rw (← c.self.view_is, history_is g c, number_is g c) refl

pub returns-clause-arrivals : goal.returns-clause-arrivals
returns-clause-arrivals g c = λ laws k.
    subst (λ (x : History g.row.A.Denot). AreArrivals x laws) (sym (history_is g c))
    (arrivals-next (history_of c.self.inside.chapter) laws (subst (λ w. AreArrivals w.history laws) (sym c.self.view_is) k))

pub returns-clause-farewells : goal.returns-clause-farewells
returns-clause-farewells g c = λ spare k.
    subst (λ (x : History g.row.A.Denot). AreFarewells x spare) (sym (history_is g c))
    (farewells-next (history_of c.self.inside.chapter) spare (subst (λ w. AreFarewells w.history spare) (sym c.self.view_is) k))

pub returns-clause-served : goal.returns-clause-served
returns-clause-served g c = rw (← c.self.view_is) (serves-kept c.self.invariant)

pub returns-clause-bounded : goal.returns-clause-bounded
returns-clause-bounded g c = rw (← c.self.view_is) (waits-kept c.self.invariant)

pub returns-then-self : goal.returns-then-self
returns-then-self g c =
    let spent = subst (λ w. w.number + 1 ≡ w.limits.chapters) c.self.view_is (omega (arith, c.if-self.true, c.self.invariant.within.numbered)) in
    record {
      book_spent = (λ e. spent, λ q. refl);
      history = tt;
      number = tt;
      legal = tt;
      planned = tt;
      advancing = tt;
      bounded = tt;
      served = tt;
      next = tt;
      arrivals = λ laws k. k;
      farewells = λ spare k. k;
      err = refl;
    }

pub returns-clause-book_spent : goal.returns-clause-book_spent
returns-clause-book_spent g c = (done, λ q. absurd (not_same c.if-self.false (subst (λ w. w.number + 1 ≡ w.limits.chapters) (sym c.self.view_is) q)))

pub returns-clause-legal : goal.returns-clause-legal
returns-clause-legal g c = rw (← c.self.view_is) c.self.invariant.is.legal

pub returns-in_err-opening : goal.returns-in_err-opening
returns-in_err-opening g c =
    let p = err_from_is_err_and c.from_residual.result c.from_residual.ensures.1 in
    rw (p.1, p.2)
    record {
      book_spent = (chapter-no_memory-book_spent, λ q. absurd (not_same c.if-self.false (subst (λ w. w.number + 1 ≡ w.limits.chapters) (sym c.self.view_is) q)));
      history = tt;
      number = tt;
      legal = tt;
      planned = tt;
      advancing = tt;
      bounded = tt;
      served = tt;
      next = tt;
      arrivals = λ laws k. k;
      farewells = λ spare k. k;
      err = refl;
    }

pub returns-clause-history : goal.returns-clause-history
returns-clause-history g c = rw (c.replace.ensures.value, ← c.self.view_is) refl

pub returns-clause-number : goal.returns-clause-number
returns-clause-number g c = rw (c.replace.ensures.value, ← c.self.view_is) refl

pub returns-clause-err : goal.returns-clause-err
returns-clause-err g c = tt
