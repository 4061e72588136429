use Rattle.std.proofs.Common.{ℕ, List, Option, length, refl, sym, subst, ap, ◌∙◌, arith}
use Rattle.std.proofs.lemmas.List.{length-map}
use Rattle.fleet_planner.specs.declared.turns.GoalChange.{GoalChange}
use Rattle.fleet_planner.specs.Aims.{AreOn}
use Rattle.fleet_planner.specs.Keys.{uses_in}
use Rattle.fleet_planner.specs.inside.Turns.{dealt}
use Rattle.fleet_planner.proofs.Counts.{holders_few}
use Rattle.fleet_planner.proofs.Fields.{serves_on, length-goals}
use Rattle.fleet_planner.proofs.Outcome.{length-dealt, counted_dealt, fields_refused, own_turned, goals_turned, on_turned}
use Rattle.fleet_planner.proofs.turns.turn_to.Goals as goal

pub hold_goals-requires-clause-few : goal.hold_goals-requires-clause-few
hold_goals-requires-clause-few g c = (let few = c.requires.few in let own = c.requires.own.few in omega (arith, few, own))

pub hold_goals-requires-clause-floor : goal.hold_goals-requires-clause-floor
hold_goals-requires-clause-floor g c = c.requires.floor

pub hold_goals-requires-clause-uses : goal.hold_goals-requires-clause-uses
hold_goals-requires-clause-uses g c = λ key held at. (
    let is = ap uses_in at in
    let all = c.requires.own.counted.counted key in
    let most = holders_few c.args.keys.now key in
    let few = c.requires.own.few in
    omega (arith, is, all, most, few))

pub hold_goals-requires-clause-serves : goal.hold_goals-requires-clause-serves
hold_goals-requires-clause-serves g c = serves_on c.args.grid.now c.args.store.now c.args.keys.now c.requires.own c.requires.on

pub hold_goals-requires-clause-keeps : goal.hold_goals-requires-clause-keeps
hold_goals-requires-clause-keeps g c = c.requires.keeps

pub hold_goals-requires-clause-empty : goal.hold_goals-requires-clause-empty
hold_goals-requires-clause-empty g c = c.requires.empty

pub hold_goals-requires-clause-room : goal.hold_goals-requires-clause-room
hold_goals-requires-clause-room g c = (let few = c.requires.few in let room = c.requires.room in omega (arith, few, room))

-- refused

pub give_back-requires : goal.give_back-requires
give_back-requires g c = record { counted = (c.args.keys.now, c.hold_goals.ensures.counted c.args.keys.now c.requires.own.counted) }

pub returns-in-Err-clause-own : goal.returns-in-Err-clause-own
returns-in-Err-clause-own g c = record {
  few = c.requires.own.few;
  counted = c.give_back.ensures.counted c.args.keys.now (c.hold_goals.ensures.counted c.args.keys.now c.requires.own.counted);
}

pub returns-in-Err-clause-refused : goal.returns-in-Err-clause-refused
returns-in-Err-clause-refused g c =
    fields_refused c.args.grid.now c.args.turns.now c.args.store.now c.hold_goals.new.store c.give_back.new.store c.args.keys.now c.requires.own c.hold_goals.ensures.shown c.give_back.ensures.kept
    (c.give_back.ensures.counted c.args.keys.now (c.hold_goals.ensures.counted c.args.keys.now c.requires.own.counted))

pub returns-in-Err-clause-on : goal.returns-in-Err-clause-on
returns-in-Err-clause-on g c =
    subst (AreOn c.args.grid.now) (sym (fields_refused c.args.grid.now c.args.turns.now c.args.store.now c.hold_goals.new.store c.give_back.new.store c.args.keys.now c.requires.own c.hold_goals.ensures.shown c.give_back.ensures.kept
    (c.give_back.ensures.counted c.args.keys.now (c.hold_goals.ensures.counted c.args.keys.now c.requires.own.counted)))) c.requires.on

pub returns-in-Err-clause-keeps : goal.returns-in-Err-clause-keeps
returns-in-Err-clause-keeps g c = c.give_back.ensures.keeps c.args.grid.now c.hold_goals.ensures.serves c.hold_goals.ensures.keeps

pub returns-in-Err-clause-count : goal.returns-in-Err-clause-count
returns-in-Err-clause-count g c = refl

pub returns-in-Err-clause-empty : goal.returns-in-Err-clause-empty
returns-in-Err-clause-empty g c = c.give_back.ensures.empty

pub returns-in-Err-clause-room : goal.returns-in-Err-clause-room
returns-in-Err-clause-room g c = c.give_back.ensures.room ∙ c.hold_goals.ensures.room

-- dealt

pub deal-requires-clause-count : goal.deal-requires-clause-count
deal-requires-clause-count g c =
    let goals = c.in_default.ensures.goals in
    let count = ap (λ (goals : List (Option ℕ)). length goals) goals in
    let long = length-goals c.hold_goals.new.store c.hold_goals.new.fresh.items in
    let turns = length-map c.args.turns.now (λ (t : GoalChange). t.goal) in
    let own = ap (λ (keys : List (Option ℕ)). length keys) c.as_mut_slice.ensures.value in
    omega (arith, count, long, turns, own)

pub deal-requires-clause-known : goal.deal-requires-clause-known
deal-requires-clause-known g c = c.requires.known

pub give_back-requires-2 : goal.give_back-requires-2
give_back-requires-2 g c = record {
  counted = (
    c.deal.new.keys,
    counted_dealt c.hold_goals.new.store c.args.keys.now c.hold_goals.new.fresh.items c.as_mut_slice.result.now c.deal.new.keys c.deal.new.fresh c.hold_goals.new.fresh.len c.as_mut_slice.ensures.value c.as_mut_slice.ensures.len c.deal.ensures.count c.deal.ensures.swapped
        (c.hold_goals.ensures.counted c.args.keys.now c.requires.own.counted),
  );
}

pub returns-clause-count : goal.returns-clause-count
returns-clause-count g c = ap (λ (keys : List (Option ℕ)). length keys) c.deal.ensures.dealt ∙ length-dealt c.args.turns.now c.as_mut_slice.result.now c.args.keys.now

pub returns-clause-empty : goal.returns-clause-empty
returns-clause-empty g c = c.give_back-2.ensures.empty

pub returns-clause-room : goal.returns-clause-room
returns-clause-room g c = c.give_back-2.ensures.room ∙ c.hold_goals.ensures.room

pub returns-clause-own : goal.returns-clause-own
returns-clause-own g c =
    let is = c.deal.ensures.dealt ∙ ap (λ (fresh : List (Option ℕ)). dealt c.args.turns.now fresh c.args.keys.now) c.as_mut_slice.ensures.value in
    let counted = c.give_back-2.ensures.counted c.deal.new.keys (counted_dealt c.hold_goals.new.store c.args.keys.now c.hold_goals.new.fresh.items c.as_mut_slice.result.now c.deal.new.keys c.deal.new.fresh c.hold_goals.new.fresh.len c.as_mut_slice.ensures.value c.as_mut_slice.ensures.len c.deal.ensures.count c.deal.ensures.swapped
    (c.hold_goals.ensures.counted c.args.keys.now c.requires.own.counted)) in
    own_turned c.args.grid.now c.args.turns.now c.args.store.now c.hold_goals.new.store c.give_back-2.new.store c.args.keys.now c.requires.own c.hold_goals.ensures.shown c.give_back-2.ensures.kept
    c.hold_goals.new.fresh.items c.deal.new.keys is c.in_default.ensures.goals counted

pub returns-clause-goals : goal.returns-clause-goals
returns-clause-goals g c =
    let is = c.deal.ensures.dealt ∙ ap (λ (fresh : List (Option ℕ)). dealt c.args.turns.now fresh c.args.keys.now) c.as_mut_slice.ensures.value in
    let counted = c.give_back-2.ensures.counted c.deal.new.keys (counted_dealt c.hold_goals.new.store c.args.keys.now c.hold_goals.new.fresh.items c.as_mut_slice.result.now c.deal.new.keys c.deal.new.fresh c.hold_goals.new.fresh.len c.as_mut_slice.ensures.value c.as_mut_slice.ensures.len c.deal.ensures.count c.deal.ensures.swapped
    (c.hold_goals.ensures.counted c.args.keys.now c.requires.own.counted)) in
    goals_turned c.args.grid.now c.args.turns.now c.args.store.now c.hold_goals.new.store c.give_back-2.new.store c.args.keys.now c.requires.own c.hold_goals.ensures.shown c.give_back-2.ensures.kept
    c.hold_goals.new.fresh.items c.deal.new.keys is c.in_default.ensures.goals counted

pub returns-clause-on : goal.returns-clause-on
returns-clause-on g c =
    let is = c.deal.ensures.dealt ∙ ap (λ (fresh : List (Option ℕ)). dealt c.args.turns.now fresh c.args.keys.now) c.as_mut_slice.ensures.value in
    let counted = c.give_back-2.ensures.counted c.deal.new.keys (counted_dealt c.hold_goals.new.store c.args.keys.now c.hold_goals.new.fresh.items c.as_mut_slice.result.now c.deal.new.keys c.deal.new.fresh c.hold_goals.new.fresh.len c.as_mut_slice.ensures.value c.as_mut_slice.ensures.len c.deal.ensures.count c.deal.ensures.swapped
    (c.hold_goals.ensures.counted c.args.keys.now c.requires.own.counted)) in
    on_turned c.args.grid.now c.args.turns.now c.args.store.now c.hold_goals.new.store c.give_back-2.new.store c.args.keys.now c.requires.own c.hold_goals.ensures.shown c.give_back-2.ensures.kept
    c.hold_goals.new.fresh.items c.deal.new.keys is c.in_default.ensures.goals counted c.hold_goals.ensures.serves c.requires.known c.requires.floor c.requires.on

pub returns-clause-keeps : goal.returns-clause-keeps
returns-clause-keeps g c = c.give_back-2.ensures.keeps c.args.grid.now c.hold_goals.ensures.serves c.hold_goals.ensures.keeps
