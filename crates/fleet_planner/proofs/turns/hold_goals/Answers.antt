use Rattle.std.proofs.Common.{◌≡◌, vec_capacity, ◌+◌, ◌<◌, List, Option, Some, None, length, map, get_or, refl, sym, ap, subst, ◌∙◌, arith}
use Rattle.std.proofs.lemmas.List.{take_all}
use Rattle.std.proofs.lemmas.Option.{slice_get-get_or}
use Rattle.fleet_field.specs.Field.{Aim}
use Rattle.fleet_field.specs.declared.store.Held.{Held}
use Rattle.fleet_field.specs.Store.{Serves, Keeps}
use Rattle.fleet_planner.specs.declared.turns.GoalChange.{GoalChange}
use Rattle.fleet_planner.specs.Keys.{AreCounted}
use Rattle.fleet_planner.specs.inside.Turns.{AreShownOn}
use Rattle.fleet_planner.proofs.Holding.{holding_first, holding_idle, holding_goal, holding_is}
use Rattle.fleet_planner.proofs.turns.hold_goals.Goals as goal
use Rattle.fleet_planner.proofs.turns.hold_goals.Goals.{in-Some+in_ok-hold_from-in-Some, in-None}

pub loop-turn-init : goal.loop-turn-init
loop-turn-init g c = record {
  holding = holding_first c.args.turns.now c.args.store.now c.args.fresh.now.items c.requires.uses c.requires.empty;
  serves = c.requires.serves;
  keeps = c.requires.keeps;
  room = refl;
}

pub hold_from-requires : goal.hold_from-requires
hold_from-requires g c =
    let n = c.loop-turn.turn-index in
    let d : GoalChange = record { robot = 0; goal = None } in
    record {
      floor = c.requires.floor n (get_or c.args.turns.now n d) c.in-Some.goal (slice_get-get_or c.args.turns.now n d c.loop-turn-test.true) c.in-Some.is;
      serves = c.loop-turn.invariant.serves;
      keeps = c.loop-turn.invariant.keeps;
      fewer = λ key held at same. (let uses = c.loop-turn.invariant.holding.uses key held at in let less = c.loop-turn-test.true in let few = c.requires.few in omega (arith, uses, less, few));
    }

pub returns-in_err-hold_from-in-Some-clause-shown : goal.returns-in_err-hold_from-in-Some-clause-shown
returns-in_err-hold_from-in-Some-clause-shown g c =
    subst (AreShownOn c.args.store.now) (sym c.in_err-hold_from-in-Some.ensures.refused) c.loop-turn.invariant.holding.shown_on

pub returns-in_err-hold_from-in-Some-clause-serves : goal.returns-in_err-hold_from-in-Some-clause-serves
returns-in_err-hold_from-in-Some-clause-serves g c = c.in_err-hold_from-in-Some.ensures.serves

pub returns-in_err-hold_from-in-Some-clause-keeps : goal.returns-in_err-hold_from-in-Some-clause-keeps
returns-in_err-hold_from-in-Some-clause-keeps g c = c.in_err-hold_from-in-Some.ensures.keeps

pub returns-in_err-hold_from-in-Some-clause-room : goal.returns-in_err-hold_from-in-Some-clause-room
returns-in_err-hold_from-in-Some-clause-room g c = c.loop-turn.invariant.room

pub push_reserved-requires : goal.push_reserved-requires
push_reserved-requires g c =
    let count : length c.loop-turn.fresh.items ≡ c.loop-turn.turn-index = c.loop-turn.invariant.holding.count in
    let same = c.loop-turn.invariant.room in
    let less = c.loop-turn-test.true in
    let room = c.requires.room in
    omega (arith, count, same, less, room, c.loop-turn.fresh.ok)

pub returns : goal.returns
returns g c =
    let i = c.loop-turn.invariant in
    record {
      counted = i.holding.counted;
      shown = i.holding.shown_on;
      goals = i.holding.goals ∙ ap (λ (turns : List GoalChange). map (λ t. t.goal) turns) (take_all c.loop-turn.turn-index c.args.turns.now c.loop-turn-test.false);
      serves = i.serves;
      keeps = i.keeps;
      room = i.room;
    }

pub returns-in_err-hold_from-in-Some-clause-counted : goal.returns-in_err-hold_from-in-Some-clause-counted
returns-in_err-hold_from-in-Some-clause-counted g c =
    λ keys counted. subst (λ (s : List (Option (Held Aim))). AreCounted s keys c.loop-turn.fresh.items) (sym c.in_err-hold_from-in-Some.ensures.refused) (c.loop-turn.invariant.holding.counted keys counted)

pub loop-turn-preserved : goal.loop-turn-preserved
loop-turn-preserved g c =
    let turns = c.args.turns.now in
    let n = c.loop-turn.turn-index in
    let old = c.args.store.now in
    let before = c.loop-turn.store in
    let fresh = c.loop-turn.fresh.items in
    let i = c.loop-turn.invariant in
    let d : GoalChange = record { robot = 0; goal = None } in
    let less : n < length turns = omega (arith, c.loop-turn-test.true) in
    let room : vec_capacity c.push_reserved.new.self ≡ vec_capacity c.args.fresh.now = ◌∙◌ {a = vec_capacity c.push_reserved.new.self} c.push_reserved.ensures.capacity i.room in
    elim c.match-turn.branch [
      | in-Some+in_ok-hold_from-in-Some w ↦ (
          let key = w.in_ok-hold_from-in-Some.field-0 in
          let new = w.hold_from.new.self in
          let held = w.in_ok-hold_from-in-Some.ensures in
          record {
            holding = holding_is turns old (n + 1) new c.match-turn.store fresh c.push_reserved.new.self.items (Some key) c.match-turn.key w.store-is c.push_reserved.ensures.items w.key-is
                (holding_goal c.args.grid.now w.in-Some.goal turns old n d before new fresh key less w.in-Some.is held.held i.holding);
            serves = subst (Serves c.args.grid.now) (sym w.store-is) held.serves;
            keeps = subst (Keeps c.args.grid.now) (sym w.cache-is) held.keeps;
            room = room;
          })
      | in-None w ↦ record {
        holding = holding_is turns old (n + 1) before c.match-turn.store fresh c.push_reserved.new.self.items None c.match-turn.key w.store-is c.push_reserved.ensures.items w.key-is
            (holding_idle turns old n d before fresh less w.in-None.is i.holding);
        serves = subst (Serves c.args.grid.now) (sym w.store-is) i.serves;
        keeps = subst (Keeps c.args.grid.now) (sym w.cache-is) i.keeps;
        room = room;
      }
    ]
