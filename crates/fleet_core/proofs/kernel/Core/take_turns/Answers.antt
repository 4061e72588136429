-- The robots aim at the goals that they had, and no tick of the chapter was planned in another manner.
use Rattle.std.proofs.Common.{◌≡◌, [], refl, sym, subst}
use Rattle.fleet_history.specs.History.{history_of}
use Rattle.mover.specs.Moving.{HasTurns, IsPlannedAs}
use Rattle.fleet_state.proofs.Parts.{queue-count}
use Rattle.fleet_core.proofs.Manners.{none-planned}
use Rattle.fleet_core.proofs.kernel.Core.take_turns.Goals as goal

pub resume-requires : goal.resume-requires
resume-requires g c = (history_of c.self.inside.chapter, c.self.invariant.is)

pub invariant_of-self : goal.invariant_of-self
invariant_of-self g c =
    let k = c.self.invariant in
    let h = history_of c.self.inside.chapter in
    let p = c.in_ok-planner.planner in
    let none : h.entries ≡ [] = subst (λ w. w.history.entries ≡ []) (sym c.self.view_is) c.requires in
    rw c.replace.ensures.after
    record {
      is = k.is;
      room = k.room;
      within = k.within;
      boxed = k.boxed;
      aimed = c.in_ok-planner.ensures.aimed h k.is;
      turns = subst (λ n. HasTurns c.self.inside.grid n p.turns) (queue-count k.is) c.in_ok-planner.ensures.turns;
      tied = record { count = k.tied.count; planned = none-planned (IsPlannedAs p.turns c.self.inside.grid c.self.inside.ties.items) h none };
      bounded = k.bounded;
    }

pub returns-clause-taken : goal.returns-clause-taken
returns-clause-taken g c =
    let p = c.in_ok-planner.planner in
    rw (← c.self.view_is, c.replace.ensures.after)
    record {
      has = subst (λ n. HasTurns c.self.inside.grid n p.turns) (queue-count c.self.invariant.is) c.in_ok-planner.ensures.turns;
      taken = c.in_ok-planner.ensures.chosen;
      world = refl;
    }
