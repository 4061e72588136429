-- The client's notices with one more.
use Rattle.std.proofs.Common.{◌≡◌, ◌∙◌, ℕ, ◌<◌, List, [], ◌∷◌, ◌++◌, length, map, sym, ap, subst}
use Rattle.std.specs.Prelude.{slice_index_or, slice_set}
use Rattle.std.proofs.lemmas.List.{get_or-map, map-set}
use Rattle.fleet_book.specs.declared.notice.Notice.{Notice}
use Rattle.fleet_world.proofs.play.add_collected.Goals as goal

one-more : {X : Type 0} (f : X → List Notice) (xs : List X) (c : ℕ) (before after : X) (n : Notice) → c < length xs → before ≡ slice_index_or xs c before → f after ≡ f before ++ n ∷ []
    → map f (slice_set xs c after) ≡ slice_set (map f xs) c (slice_index_or (map f xs) c [] ++ n ∷ [])
one-more f xs c before after n inside at more =
    map-set f xs c after ∙ ap (slice_set (map f xs) c) (more ∙ ap (λ z. z ++ n ∷ []) (ap f at ∙ sym (get_or-map f xs c before [] inside)))

pub returns-in_ok-push : goal.returns-in_ok-push
returns-in_ok-push g c =
    let all = c.args.collected.now in
    let inside = subst (λ n. c.in-Collect.client < n) (c.len.ensures ∙ all.ok.0) c.if-client-len.true in
    rw (c.in-Collect.is, c.in-Collected.is) (one-more (λ v. v.items) all.items c.in-Collect.client c.index_mut.result.now c.push.new.self c.in-Collected.notice inside c.index_mut.ensures.value c.in_ok-push.ensures.items)
