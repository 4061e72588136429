use Rattle.std.proofs.Common.{◌≡◌, ℕ, ◌+◌, List, [], ◌∷◌, ◌++◌, Option, None, length, map, take, get_or, vec_len, vec_capacity, sym, ap, subst, ◌∙◌, arith}
use Rattle.std.proofs.lemmas.List.{take_more, map_push}
use Rattle.fleet_field.specs.Growing.{Growth}
use Rattle.fleet_planner.specs.Courses.{growth_in}
use Rattle.fleet_planner.specs.inside.Started.{AreStarts, shared_parts}
use Rattle.fleet_planner.specs.declared.turns.GoalChange.{GoalChange}
use Rattle.fleet_planner.proofs.Starts.{starts-push, parts-push}
use Rattle.fleet_planner.proofs.started.Started.start_all.Goals as goal

pub loop-at-init : goal.loop-at-init
loop-at-init g c = record {
  starts = subst (λ (own : List _). AreStarts c.args.grid.now [] (map growth_in own)) (sym c.clear-2.ensures.items) tt;
  shared = c.clear.ensures.items;
  len_shared = omega (arith, c.clear.new.self.ok.0, ap (λ (xs : List _). length xs) c.clear.ensures.items);
  len_own = omega (arith, c.clear-2.new.self.ok.0, ap (λ (xs : List _). length xs) c.clear-2.ensures.items);
  room_shared = c.clear.ensures.capacity;
  room_own = c.clear-2.ensures.capacity;
}

pub push_reserved-requires : goal.push_reserved-requires
push_reserved-requires g c =
    let i = c.loop-at.invariant in
    let len = ap (λ v. vec_len v) c.start.ensures.shared in
    let room = ap (λ v. vec_capacity v) c.start.ensures.shared in
    omega (arith, i.len_shared, i.room_shared, c.requires.room_shared, len, room, c.loop-at-test.true)

pub push_reserved-requires-in-loop-at : goal.push_reserved-requires-in-loop-at
push_reserved-requires-in-loop-at g c =
    let i = c.loop-at.invariant in
    let len = ap (λ v. vec_len v) c.start.ensures.own in
    let room = ap (λ v. vec_capacity v) c.start.ensures.own in
    omega (arith, i.len_own, i.room_own, c.requires.room_own, len, room, c.loop-at-test.true)

pub loop-at-preserved : goal.loop-at-preserved
loop-at-preserved g c =
    let i = c.loop-at.invariant in
    let m = c.args.grid.now in
    let turns = c.args.turns.now in
    let n = c.loop-at.at in
    let d : GoalChange = record { robot = 0; goal = None } in
    let t = get_or turns n d in
    let f = growth_in c.in_ok-field.field in
    let own = map growth_in c.loop-at.self.own.items in
    let more : take (n + 1) turns ≡ take n turns ++ t ∷ [] = take_more turns n d c.loop-at-test.true in
    let longer : map growth_in c.push_reserved-in-loop-at.new.self.items ≡ own ++ f ∷ [] =
    ap (map growth_in) (c.push_reserved-in-loop-at.ensures.items ∙ ap (λ v. v.items ++ c.in_ok-field.field ∷ []) c.start.ensures.own) ∙ map_push growth_in c.loop-at.self.own.items c.in_ok-field.field in
    record {
      starts = rw (more, longer) (starts-push m (take n turns) own t f i.starts c.in_ok-field.ensures.start);
      shared = c.push_reserved.ensures.items
          ∙ (ap (λ v. v.items ++ c.shared_part.result ∷ []) c.start.ensures.shared
          ∙ (ap (λ (xs : List GoalChange). xs ++ c.shared_part.result ∷ []) i.shared
          ∙ (ap (λ (x : GoalChange). shared_parts (take n turns) own ++ x ∷ []) c.shared_part.ensures
          ∙ (sym (parts-push m (take n turns) own t f i.starts)
          ∙ sym (ap (λ (ts : List GoalChange). shared_parts ts (map growth_in c.push_reserved-in-loop-at.new.self.items)) more ∙ ap (λ (fs : List (Option Growth)). shared_parts (take n turns ++ t ∷ []) fs) longer)))));
      len_shared = c.push_reserved.ensures.len ∙ ap (λ (k : ℕ). k + 1) (ap (λ v. vec_len v) c.start.ensures.shared ∙ i.len_shared);
      len_own = c.push_reserved-in-loop-at.ensures.len ∙ ap (λ (k : ℕ). k + 1) (ap (λ v. vec_len v) c.start.ensures.own ∙ i.len_own);
      room_shared = c.push_reserved.ensures.capacity ∙ (ap (λ v. vec_capacity v) c.start.ensures.shared ∙ i.room_shared);
      room_own = c.push_reserved-in-loop-at.ensures.capacity ∙ (ap (λ v. vec_capacity v) c.start.ensures.own ∙ i.room_own);
    }
