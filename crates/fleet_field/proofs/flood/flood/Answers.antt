use Rattle.std.proofs.Common.{◌≡◌, ℕ, List, [], ◌∷◌, ◌++◌, length, set, take, drop, refl, sym, ap, subst, ◌∙◌, arith}
use Rattle.std.proofs.lemmas.List.{length-set}
use Rattle.fleet_field.specs.inside.Search.{AreLevels, SameWalls}
use Rattle.fleet_field.proofs.Whole.{begun, begun_size, begun_few, begun_goal, begun_walls, written_back}
use Rattle.fleet_field.proofs.flood.flood.Goals as goal

-- the list comes back from the search whole
back : (n : ℕ) (new items : List ℕ) (goal : ℕ) → n ≡ length items → length new ≡ length (set items goal 0) → take n (new ++ drop (length new) (set items goal 0)) ≡ new
back n new items goal len e = written_back n new (set items goal 0) e (omega (arith, len, length-set items goal 0))

pub spread_all-requires-clause-size : goal.spread_all-requires-clause-size
spread_all-requires-clause-size g c =
    let same = begun_size c.args.blank.now c.args.stride c.args.goal c.requires.walled c.requires.blank c.requires.goal c.deref_mut.result.now c.in_ok-dist.dist.items ([] ++ c.args.goal ∷ []) c.in_ok-dist.ensures.items c.deref_mut.ensures.value refl in
    omega (arith, c.requires.size, same)

pub spread_all-requires-clause-step : goal.spread_all-requires-clause-step
spread_all-requires-clause-step g c = c.requires.step

pub spread_all-requires-clause-search : goal.spread_all-requires-clause-search
spread_all-requires-clause-search g c =
    let front = c.in_ok-push.ensures.items ∙ ap (λ (xs : List ℕ). xs ++ c.args.goal ∷ []) c.new-now.ensures.items in
    begun c.args.blank.now c.args.stride c.args.goal c.requires.walled c.requires.blank c.requires.goal c.deref_mut.result.now c.in_ok-dist.dist.items c.push.new.self.items c.in_ok-dist.ensures.items c.deref_mut.ensures.value front

pub spread_all-requires-clause-few : goal.spread_all-requires-clause-few
spread_all-requires-clause-few g c =
    let front = c.in_ok-push.ensures.items ∙ ap (λ (xs : List ℕ). xs ++ c.args.goal ∷ []) c.new-now.ensures.items in
    begun_few c.args.blank.now c.args.stride c.args.goal c.requires.walled c.requires.blank c.requires.goal c.deref_mut.result.now c.in_ok-dist.dist.items c.push.new.self.items c.in_ok-dist.ensures.items c.deref_mut.ensures.value front

pub returns-clause-levels : goal.returns-clause-levels
returns-clause-levels g c =
    let start = begun_goal c.args.blank.now c.args.stride c.args.goal c.requires.walled c.requires.blank c.requires.goal c.deref_mut.result.now c.in_ok-dist.dist.items ([] ++ c.args.goal ∷ []) c.in_ok-dist.ensures.items c.deref_mut.ensures.value refl in
    let same = c.in_ok-spread_all.ensures.walls.len ∙ ap (λ (xs : List ℕ). length xs) c.deref_mut.ensures.value in
    subst (λ (xs : List ℕ). AreLevels xs c.args.stride c.args.goal) (sym (back c.in_ok-dist.dist.len c.spread_all.new.dist c.in_ok-dist.dist.items c.args.goal c.in_ok-dist.dist.ok.0 same))
    (c.in_ok-spread_all.ensures.levels c.args.goal start)

pub returns-clause-walls : goal.returns-clause-walls
returns-clause-walls g c =
    let same = c.in_ok-spread_all.ensures.walls.len ∙ ap (λ (xs : List ℕ). length xs) c.deref_mut.ensures.value in
    subst (SameWalls c.args.blank.now) (sym (back c.in_ok-dist.dist.len c.spread_all.new.dist c.in_ok-dist.dist.items c.args.goal c.in_ok-dist.dist.ok.0 same))
    (begun_walls c.args.blank.now c.args.stride c.args.goal c.requires.walled c.requires.blank c.requires.goal c.deref_mut.result.now c.in_ok-dist.dist.items ([] ++ c.args.goal ∷ []) c.in_ok-dist.ensures.items c.deref_mut.ensures.value refl c.spread_all.new.dist c.in_ok-spread_all.ensures.walls)
