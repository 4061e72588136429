-- The farewells so far, and all of them.
use Rattle.std.proofs.Common.{◌≡◌, ◌∙◌, ℕ, ◌+◌, ◌<◌, ◌≤◌, ◌++◌, ◌∷◌, [], List, Some, map, ap, sym, refl, arith}
use Rattle.std.proofs.lemmas.Iterator.Adapters.{YieldsList-from_vec}
use Rattle.std.proofs.lemmas.Iterator.Consumers.{YieldsList-end}
use Rattle.std.proofs.lemmas.List.{map_push}
use Rattle.std.proofs.lemmas.Result.{IfOk-from_err}
use Rattle.fleet_core.specs.Hooks.{spare_laws}
use Rattle.fleet_core.proofs.world_opening.spare.Goals as goal

pub returns-in_err-farewells : goal.returns-in_err-farewells
returns-in_err-farewells g c = IfOk-from_err c.from_residual.result _ c.from_residual.ensures.0

room : {a b n m most : ℕ} → a ≡ 0 → b ≡ n → m ≡ n → m ≤ most → a + b ≤ most
room none len same fits = omega (arith, none, len, same, fits)

pub loop-hook-init : goal.loop-hook-init
loop-hook-init g c = record {
  laws = ap (λ fs. spare_laws fs) c.in_ok-farewells.ensures.items;
  room = room c.in_ok-farewells.ensures.len c.into_iter-hook-iterator.ensures.into_iter_gives.1 c.len.ensures c.in_ok-farewells.ensures.capacity;
}

here : (a b rest most : ℕ) → a + b ≤ most → rest + 1 ≡ b → a < most
here a b rest most fits one = omega (arith, fits, one)

pub push_reserved-requires : goal.push_reserved-requires
push_reserved-requires g c = here _ _ _ _ c.loop-hook.invariant.room c.in-Some.ensures.steps.1

one-more : {A B C : Type 0} (f : A → C) (h : B → C) (before after : List A) (seen : List B) (x : A) (y : B) →
    after ≡ before ++ x ∷ [] → map f before ≡ map h seen → f x ≡ h y → map f after ≡ map h (seen ++ y ∷ [])
one-more f h before after seen x y grown so_far same =
    ap (map f) grown ∙ map_push f before x ∙ ap (λ z. z ++ f x ∷ []) so_far ∙ ap (λ z. map h seen ++ z ∷ []) same ∙ sym (map_push h seen y)

behind : (a b len rest most all : ℕ) → len ≡ a + 1 → all ≡ most → rest + 1 ≡ b → a + b ≤ most → len + rest ≤ all
behind a b len rest most all more same one fits = omega (arith, more, same, one, fits)

pub loop-hook-preserved : goal.loop-hook-preserved
loop-hook-preserved g c = record {
  laws = one-more _ (λ h. Some h.law) c.loop-hook.farewells.items c.push_reserved.new.self.items c.loop-hook.yielded (Some c.in-Some.hook) c.in-Some.hook c.push_reserved.ensures.items c.loop-hook.invariant.laws refl;
  room = behind _ _ _ _ _ _ c.push_reserved.ensures.len c.push_reserved.ensures.capacity c.in-Some.ensures.steps.1 c.loop-hook.invariant.room;
}

less : {a b : ℕ} → a + 1 ≡ b → a < b
less more = omega (arith, more)

pub loop-hook-smaller : goal.loop-hook-smaller
loop-hook-smaller g c = less c.in-Some.ensures.steps.1

kept : {X : Type 0} (xs : List X) → map (λ x. x) xs ≡ xs
kept [] = refl
kept (x ∷ xs) = ap (λ ys. x ∷ ys) (kept xs)

pub returns : goal.returns
returns g c =
    let gives = c.into_iter-hook-iterator.ensures.into_iter_gives in
    let all = YieldsList-end (YieldsList-from_vec {s = c.into_iter-hook-iterator.result} c.args.hooks.items gives.0 (gives.1 ∙ c.args.hooks.ok.0)) c.loop-hook.yielded c.loop-hook.hook-iterator c.loop-hook.yielded_by c.next.result c.next.new.self c.in-None.is c.next.ensures.steps in
    c.loop-hook.invariant.laws ∙ ap (map (λ h. Some h.law)) (sym (kept c.loop-hook.yielded) ∙ all.0)
