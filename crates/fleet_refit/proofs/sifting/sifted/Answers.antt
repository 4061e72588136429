-- One errand more.
use Rattle.std.proofs.Common.{◌≡◌, ◌+◌, ◌∷◌, [], ◌++◌, List, subst, sym, take, get_or}
use Rattle.std.specs.Prelude.{true}
use Rattle.std.proofs.lemmas.Bool.{iff_false}
use Rattle.std.proofs.lemmas.List.{append-nil, take_more}
use Rattle.fleet_queue.specs.declared.errand.Errand.{Errand}
use Rattle.fleet_refit.specs.declared.change.Dropped.{Dropped}
use Rattle.fleet_refit.specs.Sifting.{Sifts, none, dropped_of}
use Rattle.fleet_refit.proofs.Sifted.{Lists, lists-kept, lists-dropped}
use Rattle.fleet_refit.proofs.sifting.sifted.Goals as goal
use Rattle.fleet_refit.proofs.sifting.sifted.Goals.{then-stays+in_ok-push, else-stays+in_ok-push-2}

pub loop-place-init : goal.loop-place-init
loop-place-init g c = ([], subst (λ (l : List Errand). Sifts (g.S.Stays.stays c.args.which.now) [] l []) (sym c.new-kept.ensures.items) none, sym (append-nil c.args.dropped.now.items))

pub loop-place-preserved : goal.loop-place-preserved
loop-place-preserved g c =
    let S = g.S.Stays.stays c.args.which.now in
    let e = get_or c.args.errands.now c.loop-place.place (record { client = 0; number = 0; cell = 0 }) in
    let robot = c.args.robot in
    let before = c.args.dropped.now.items in
    let taken = take c.loop-place.place c.args.errands.now in
    let on : Lists S robot (taken ++ e ∷ []) c.if-stays.kept.items before c.if-stays.dropped.items = elim c.if-stays.branch [
      | then-stays+in_ok-push w ↦
          subst (λ v. Lists S robot (taken ++ e ∷ []) c.if-stays.kept.items before v.items) (sym w.dropped-is)
          (subst (λ v. Lists S robot (taken ++ e ∷ []) v.items before c.loop-place.dropped.items) (sym w.kept-is)
          (subst (λ l. Lists S robot (taken ++ e ∷ []) l before c.loop-place.dropped.items) (sym w.in_ok-push.ensures.items)
          (lists-kept S robot taken c.loop-place.kept.items before c.loop-place.dropped.items e c.loop-place.invariant (c.stays.ensures.0 w.if-stays.true))))
      | else-stays+in_ok-push-2 w ↦
          subst (λ v. Lists S robot (taken ++ e ∷ []) v.items before c.if-stays.dropped.items) (sym w.kept-is)
          (subst (λ v. Lists S robot (taken ++ e ∷ []) c.loop-place.kept.items before v.items) (sym w.dropped-is)
          (subst (λ l. Lists S robot (taken ++ e ∷ []) c.loop-place.kept.items before l) (sym w.in_ok-push-2.ensures.items)
          (subst (λ d. Lists S robot (taken ++ e ∷ []) c.loop-place.kept.items before (c.loop-place.dropped.items ++ d ∷ [])) (sym w.dropped_of.ensures)
          (lists-dropped S robot taken c.loop-place.kept.items before c.loop-place.dropped.items e c.loop-place.invariant (iff_false c.stays.ensures w.if-stays.false)))))
    ] in
    subst (λ (l : List Errand). Lists S robot l c.if-stays.kept.items before c.if-stays.dropped.items) (sym (take_more c.args.errands.now c.loop-place.place _ c.loop-place-test.true)) on
