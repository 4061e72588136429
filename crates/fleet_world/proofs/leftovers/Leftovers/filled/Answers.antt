-- What one more client leaves.
use Rattle.std.proofs.Common.{arith, ◌≡◌, ◌∙◌, ℕ, ◌+◌, ◌<◌, ◌≤◌, ◌++◌, ◌∷◌, [], List, length, map, ap, sym, refl}
use Rattle.std.proofs.lemmas.List.{map_push}
use Rattle.std.proofs.lemmas.Iterator.Adapters.{YieldsList-from_vec}
use Rattle.std.proofs.lemmas.Iterator.Consumers.{YieldsList-end}
use Rattle.fleet_world.specs.Talk.{Waiting}
use Rattle.fleet_world.proofs.leftovers.Leftovers.filled.Goals as goal

one-more : {A B C : Type 0} (f : A → C) (h : B → C) (before after : List A) (seen : List B) (x : A) (y : B) →
    after ≡ before ++ x ∷ [] → map f before ≡ map h seen → f x ≡ h y → map f after ≡ map h (seen ++ y ∷ [])
one-more f h before after seen x y grown so_far same =
    ap (map f) grown ∙ map_push f before x ∙ ap (λ z. z ++ f x ∷ []) so_far ∙ ap (λ z. map h seen ++ z ∷ []) same ∙ sym (map_push h seen y)

pub push_reserved-requires : goal.push_reserved-requires
push_reserved-requires g c = omega (arith, c.loop-client.invariant.lane_room, c.in-Some.ensures.steps.1)

pub push_reserved-requires-in-loop-client : goal.push_reserved-requires-in-loop-client
push_reserved-requires-in-loop-client g c = omega (arith, c.loop-client.invariant.outlet_room, c.in-Some.ensures.steps.1)

pub loop-client-preserved : goal.loop-client-preserved
loop-client-preserved g c = record {
  lanes = one-more _ (λ (w : Waiting). w.lane) _ _ c.loop-client.yielded _ c.in-Some.client c.push_reserved.ensures.items c.loop-client.invariant.lanes c.leave-lane.ensures.lane;
  outlets = one-more _ (λ (w : Waiting). w.outlet) _ _ c.loop-client.yielded _ c.in-Some.client c.push_reserved-in-loop-client.ensures.items c.loop-client.invariant.outlets c.leave-lane.ensures.outlet;
  lane_room = omega (arith, c.push_reserved.ensures.len, c.push_reserved.ensures.capacity, c.loop-client.invariant.lane_room, c.in-Some.ensures.steps.1);
  outlet_room = omega (arith, c.push_reserved-in-loop-client.ensures.len, c.push_reserved-in-loop-client.ensures.capacity, c.loop-client.invariant.outlet_room, c.in-Some.ensures.steps.1);
}

none : {X Y : Type 0} (f : X → Y) (xs : List X) {n : ℕ} → n ≡ length xs → n ≡ 0 → map f xs ≡ []
none f [] same empty = refl
none f (x ∷ xs) same empty = absurd (omega (arith, same, empty))

room : {a b n room : ℕ} → a ≡ 0 → b ≡ n → n ≤ room → a + b ≤ room
room empty len fits = omega (arith, empty, len, fits)

pub loop-client-init : goal.loop-client-init
loop-client-init g c =
    let len = c.into_iter-client-iterator.ensures.into_iter_gives.1 in
    record {
      lanes = none (λ v. v.items) c.args.self.lanes.items c.args.self.lanes.ok.0 c.requires.no_lanes;
      outlets = none (λ v. v.items) c.args.self.outlets.items c.args.self.outlets.ok.0 c.requires.no_outlets;
      lane_room = room c.requires.no_lanes len c.requires.lanes;
      outlet_room = room c.requires.no_outlets len c.requires.outlets;
    }

less : {a b : ℕ} → a + 1 ≡ b → a < b
less more = omega (arith, more)

pub loop-client-smaller : goal.loop-client-smaller
loop-client-smaller g c = less c.in-Some.ensures.steps.1

kept : {X : Type 0} (xs : List X) → map (λ x. x) xs ≡ xs
kept [] = refl
kept (x ∷ xs) = ap (λ ys. x ∷ ys) (kept xs)

-- all were yielded
all_yielded : (g : _) (c : goal.After-drop-client-iterator g) → c.loop-client.yielded ≡ c.args.waiting.items
all_yielded g c =
    let gives = c.into_iter-client-iterator.ensures.into_iter_gives in
    let all = YieldsList-end (YieldsList-from_vec {s = c.into_iter-client-iterator.result} c.args.waiting.items gives.0 (gives.1 ∙ c.args.waiting.ok.0)) c.loop-client.yielded c.loop-client.client-iterator c.loop-client.yielded_by c.next.result c.next.new.self c.in-None.is c.next.ensures.steps in
    sym (kept c.loop-client.yielded) ∙ all.0

pub returns-clause-lanes : goal.returns-clause-lanes
returns-clause-lanes g c = c.loop-client.invariant.lanes ∙ ap (map (λ (w : Waiting). w.lane)) (all_yielded g c)

pub returns-clause-outlets : goal.returns-clause-outlets
returns-clause-outlets g c = c.loop-client.invariant.outlets ∙ ap (map (λ (w : Waiting). w.outlet)) (all_yielded g c)
