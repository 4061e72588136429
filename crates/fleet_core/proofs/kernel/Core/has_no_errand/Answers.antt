use Rattle.std.proofs.Common.{arith, ◌≡◌, ◌<◌, subst, sym, List, [], ◌∷◌, Some, None, true, false, refl}
use Rattle.std.specs.Prelude.{slice_get}
use Rattle.fleet_queue.specs.declared.errand.Errand.{Errand}
use Rattle.fleet_history.specs.History.{history_of, robots, unfinished}
use Rattle.fleet_history.specs.Legal.{is_none_left}
use Rattle.fleet_state.proofs.Parts.{queue-count}
use Rattle.fleet_core.proofs.kernel.Core.has_no_errand.Goals as goal

some_left : (u : List Errand) (f : Errand) → Some f ≡ slice_get u 0 → false ≡ is_none_left u
some_left [] f e = cc
some_left (x ∷ u) f e = refl

none_left : (u : List Errand) → None ≡ slice_get u 0 → true ≡ is_none_left u
none_left [] e = refl
none_left (x ∷ u) e = cc

pub front-requires : goal.front-requires
front-requires g c =
    let known : c.args.robot < robots (history_of c.self.inside.chapter) = subst (λ w. c.args.robot < robots w.history) (sym c.self.view_is) c.requires in
    omega (arith, queue-count c.self.invariant.is)

pub returns-in-Some : goal.returns-in-Some
returns-in-Some g c =
    let h = history_of c.self.inside.chapter in
    rw (← c.self.view_is) (some_left (unfinished h c.args.robot) c.in-Some._front (c.in-Some.ensures.of c.self.inside.grid h c.self.invariant.is))

pub returns-in-None : goal.returns-in-None
returns-in-None g c =
    let h = history_of c.self.inside.chapter in
    rw (← c.self.view_is) (none_left (unfinished h c.args.robot) (c.in-None.ensures.of c.self.inside.grid h c.self.invariant.is))
