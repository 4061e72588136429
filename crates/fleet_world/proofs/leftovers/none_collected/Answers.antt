-- One more client that collected nothing.
use Rattle.std.proofs.Common.{arith, ◌≡◌, ◌∙◌, ℕ, ◌+◌, ◌∷◌, [], ◌++◌, List, map, ap, replicate}
use Rattle.std.proofs.lemmas.List.{map_push, replicate_more}
use Rattle.fleet_world.proofs.leftovers.none_collected.Goals as goal

grows : {X Y : Type 0} (f : X → Y) (before after : List X) (n : ℕ) (x : X) (y : Y) → after ≡ before ++ x ∷ [] → map f before ≡ replicate n y → f x ≡ y → map f after ≡ replicate (n + 1) y
grows f before after n x y more so_far same =
    ap (map f) more ∙ map_push f before x ∙ ap (λ z. z ++ f x ∷ []) so_far ∙ ap (λ z. replicate n y ++ z ∷ []) same ∙ replicate_more n y

pub push_reserved-requires : goal.push_reserved-requires
push_reserved-requires g c = omega (arith, c.loop-i.invariant.len, c.loop-i.invariant.room, c.loop-i-test.true)

pub loop-i-preserved : goal.loop-i-preserved
loop-i-preserved g c = record {
  items = grows (λ v. v.items) _ _ c.loop-i._i _ [] c.push_reserved.ensures.items c.loop-i.invariant.items c.new.ensures.items;
  len = c.push_reserved.ensures.len ∙ ap (λ n. n + 1) c.loop-i.invariant.len;
  room = rw c.push_reserved.ensures.capacity c.loop-i.invariant.room;
}

pub returns-clause-items : goal.returns-clause-items
returns-clause-items g c =
    let all : c.loop-i._i ≡ c.args.count = omega (arith, c.loop-i.auto._i-end, c.loop-i-test.false) in
    c.loop-i.invariant.items ∙ ap (λ n. replicate n []) all

pub returns-clause-len : goal.returns-clause-len
returns-clause-len g c = omega (arith, c.loop-i.invariant.len, c.loop-i.auto._i-end, c.loop-i-test.false)
