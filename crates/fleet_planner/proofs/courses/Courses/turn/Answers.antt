use Rattle.std.proofs.Common.{◌≡◌, ℕ, List, Option, Some, None, length, map, slice_index_or, sym, ap, subst, ◌∙◌, arith}
use Rattle.std.proofs.lemmas.List.{length-map}
use Rattle.std.proofs.lemmas.Result.{IfOk-from_err}
use Rattle.fleet_field.specs.Field.{Aim}
use Rattle.fleet_field.specs.Growing.{Growth, IsGrown}
use Rattle.fleet_planner.specs.Aims.{goal_in, goals_of as shared_goals}
use Rattle.fleet_planner.specs.Courses.{Courses, goals_of, growth_in, own_goal, merged, AreOn}
use Rattle.fleet_planner.specs.Turned.{turned, AreKnownTurns}
use Rattle.fleet_planner.specs.declared.turns.GoalChange.{GoalChange}
use Rattle.fleet_planner.specs.inside.Started.{shared_parts, placed}
use Rattle.fleet_planner.proofs.Merged.{goals-length}
use Rattle.fleet_planner.proofs.Refused.{all_err}
use Rattle.fleet_planner.proofs.Starts.{starts-length, parts-length, parts-known, parts-floor, turned-merged, placed-grown, placed-length, placed-map}
use Rattle.fleet_planner.proofs.courses.Courses.turn.Goals as goal

pub start_all-requires : goal.start_all-requires
start_all-requires g c =
    let count : length (goals_of c.args.self.now) ≡ length c.self.inside.shared = ap (λ (x : Courses). length (goals_of x)) (sym c.self.view_is) ∙ goals-length _ in
    let few = c.requires.few in
    let same = c.self.invariant.0 in
    let shared = c.self.invariant.1 in
    let own = c.self.invariant.2 in
    record {
      known = subst (λ (n : ℕ). AreKnownTurns n c.args.turns.now) (sym c.requires.cells) c.requires.known;
      floor = c.requires.floor;
      room_shared = omega (arith, count, few, same, shared);
      room_own = omega (arith, count, few, same, own);
    }

pub turn-requires : goal.turn-requires
turn-requires g c =
    let m = c.args.grid.now in
    let turns = c.args.turns.now in
    let fs = map growth_in c.start_all.new.self.own.items in
    let starts = c.in_ok-start_all.ensures.starts in
    let parts : c.as_slice.result.now ≡ shared_parts turns fs = c.as_slice.ensures.value ∙ c.in_ok-start_all.ensures.shared in
    let count : length (goals_of c.args.self.now) ≡ length c.self.inside.shared = ap (λ (x : Courses). length (goals_of x)) (sym c.self.view_is) ∙ goals-length _ in
    let many = parts-length m turns fs starts in
    let few = c.requires.few in
    let on = subst (AreOn m) (sym c.self.view_is) c.requires.on in
    rw parts record {
      few = omega (arith, many, few, count);
      known = subst (λ (n : ℕ). AreKnownTurns n (shared_parts turns fs)) count (parts-known m turns fs (length (goals_of c.args.self.now)) starts c.requires.known);
      floor = parts-floor m turns fs starts c.requires.floor;
      on = on.shared;
      keeps = c.requires.keeps;
    }

pub place_own-requires : goal.place_own-requires
place_own-requires g c =
    let count : length (goals_of c.args.self.now) ≡ length c.self.inside.own.items = ap (λ (x : Courses). length (goals_of x)) (sym c.self.view_is) ∙ (goals-length _ ∙ sym c.self.invariant.0) in
    let starts = starts-length c.args.grid.now c.args.turns.now (map growth_in c.start_all.new.self.own.items) c.in_ok-start_all.ensures.starts in
    let same = length-map c.start_all.new.self.own.items growth_in in
    record {
      count = omega (arith, starts, same);
      known = subst (λ (n : ℕ). AreKnownTurns n c.args.turns.now) count c.requires.known;
    }

pub returns-in_err-start_all : goal.returns-in_err-start_all
returns-in_err-start_all g c = record {
  count = ap (λ (x : Courses). length (goals_of x)) c.self.view_is;
  on = subst (AreOn c.args.grid.now) (sym c.self.view_is) c.requires.on;
  keeps = c.requires.keeps;
  goals = IfOk-from_err c.from_residual.result _ c.from_residual.ensures.0;
  refused = all_err c.from_residual.result c.self.view_is;
}

pub returns-in_err-turn : goal.returns-in_err-turn
returns-in_err-turn g c =
    let same : record { shared = c.turn.new.self; own = map growth_in c.self.inside.own.items } ≡ c.args.self.now =
    ap (λ (shared : List (Option Aim)). record { shared = shared; own = map growth_in c.self.inside.own.items }) c.in_err-turn.ensures.refused ∙ c.self.view_is in
    record {
      count = ap (λ (x : Courses). length (goals_of x)) same;
      on = subst (AreOn c.args.grid.now) (sym same) c.requires.on;
      keeps = c.turn.ensures.keeps;
      goals = IfOk-from_err c.from_residual-in_err-turn.result _ c.from_residual-in_err-turn.ensures.0;
      refused = all_err c.from_residual-in_err-turn.result same;
    }

pub returns : goal.returns
returns g c =
    let m = c.args.grid.now in
    let turns = c.args.turns.now in
    let fresh = c.start_all.new.self.own.items in
    let was = c.self.inside.own.items in
    let fs = map growth_in fresh in
    let own = map growth_in was in
    let ss = shared_goals c.self.inside.shared in
    let starts = c.in_ok-start_all.ensures.starts in
    let on = subst (AreOn m) (sym c.self.view_is) c.requires.on in
    let own_is : map growth_in c.place_own.new.own.items ≡ placed turns fs own = ap (map growth_in) c.place_own.ensures.placed ∙ placed-map growth_in turns fresh was in
    let parts : c.as_slice.result.now ≡ shared_parts turns fs = c.as_slice.ensures.value ∙ c.in_ok-start_all.ensures.shared in
    let many : length own ≡ length ss = length-map was growth_in ∙ (c.self.invariant.0 ∙ sym (length-map c.self.inside.shared goal_in)) in
    let new : Courses = record { shared = c.turn.new.self; own = map growth_in c.place_own.new.own.items } in
    record {
      count = goals-length new ∙ (c.turn.ensures.count ∙ (sym (goals-length _) ∙ ap (λ (x : Courses). length (goals_of x)) c.self.view_is));
      on = record {
        shared = c.turn.ensures.on;
        grown = subst (λ (x : List (Option Growth)). (r : ℕ) (f : Growth) → slice_index_or x r None ≡ Some f → IsGrown m f) (sym own_is) (placed-grown m turns fs own starts on.grown);
      };
      keeps = c.turn.ensures.keeps;
      goals = ap (λ (x : List (Option Growth)). merged (map own_goal x) (shared_goals c.turn.new.self)) own_is
          ∙ (ap (λ (gs : List (Option ℕ)). merged (map own_goal (placed turns fs own)) gs) (c.in_ok-turn.ensures.goals ∙ ap (λ (ts : List GoalChange). turned ts ss) parts)
          ∙ (turned-merged m turns fs own ss starts many ∙ ap (λ (x : Courses). turned turns (goals_of x)) c.self.view_is));
      refused = tt;
    }

pub invariant_of-self : goal.invariant_of-self
invariant_of-self g c =
    let own = c.start_all.ensures.room_own in
    let shared = c.start_all.ensures.room_shared in
    let inv = c.self.invariant in
    (inv.0, omega (arith, inv.1, shared), omega (arith, inv.2, own))

pub invariant_of-self-2 : goal.invariant_of-self-2
invariant_of-self-2 g c =
    let own = c.start_all.ensures.room_own in
    let shared = c.start_all.ensures.room_shared in
    let inv = c.self.invariant in
    let count = c.turn.ensures.count in
    let long : length c.place_own.new.own.items ≡ length c.self.inside.own.items = ap (λ xs. length xs) c.place_own.ensures.placed ∙ placed-length c.args.turns.now c.start_all.new.self.own.items c.self.inside.own.items in
    let room = c.place_own.ensures.room in
    let last_shared = c.recycle.ensures.room_shared in
    let last_own = c.recycle.ensures.room_own in
    (omega (arith, inv.0, count, long), omega (arith, inv.1, shared, long, last_shared), omega (arith, inv.2, own, long, room, last_own))
