use Rattle.std.proofs.Common.{◌≡◌, ℕ, ◌+◌, List, [], ◌∷◌, ◌++◌, slice_index, refl, sym, ap, subst, ◌∙◌, arith}
use Rattle.fleet_field.specs.inside.Sorted.{AreSorted}
use Rattle.fleet_field.specs.inside.Uses.{IsOneOf}
use Rattle.fleet_field.proofs.Fronted.{kept_there, sorted_found, sorted_missing, sorted_there}
use Rattle.fleet_field.proofs.cache.sorted.Goals as goal
use Rattle.fleet_field.proofs.cache.sorted.Goals.{then-is_some+in_ok-push, else-is_some+then-not-is_one_of+in_ok-push-2, else-is_some+else-not-is_one_of}

pub loop-at-preserved : goal.loop-at-preserved
loop-at-preserved g c =
    let kept = c.args.kept.now.items in
    let goals = c.args.goals.now in
    let n = c.loop-at.at in
    let x = slice_index goals n in
    let s = c.loop-at.invariant in
    let F = c.loop-at.found.items in
    let M = c.loop-at.missing.items in
    let to : (fs ms : List ℕ) → c.if-is_some.found.items ≡ fs → c.if-is_some.missing.items ≡ ms → AreSorted kept goals (n + 1) fs ms → AreSorted kept goals (n + 1) c.if-is_some.found.items c.if-is_some.missing.items =
    λ fs ms f m sorted. subst (λ (ys : List ℕ). AreSorted kept goals (n + 1) c.if-is_some.found.items ys) (sym m) (subst (λ (xs : List ℕ). AreSorted kept goals (n + 1) xs ms) (sym f) sorted) in
    elim c.if-is_some.branch [
      | then-is_some+in_ok-push w ↦ to (F ++ x ∷ []) M (ap (λ v. v.items) w.found-is ∙ w.in_ok-push.ensures.items) (ap (λ v. v.items) w.missing-is)
          (sorted_found kept goals n F M s (kept_there c.place_of.result kept x w.if-is_some.ensures c.place_of.ensures))
      | else-is_some+then-not-is_one_of+in_ok-push-2 w ↦ to F (M ++ x ∷ []) (ap (λ v. v.items) w.found-is) (ap (λ v. v.items) w.missing-is ∙ w.in_ok-push-2.ensures.items)
          (sorted_missing kept goals n F M s (omega (arith, c.loop-at-test.true, c.requires)))
      | else-is_some+else-not-is_one_of w ↦ to F M (ap (λ v. v.items) w.found-is) (ap (λ v. v.items) w.missing-is)
          (sorted_there kept goals n F M s (subst (λ (xs : List ℕ). IsOneOf xs x) w.deref.ensures.value (w.if-not-is_one_of.ensures refl)))
    ]
