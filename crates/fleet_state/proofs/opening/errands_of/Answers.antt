-- The errands of a queue, as far as they were copied.
use Rattle.std.proofs.Common.{arith, ◌≡◌, ◌∙◌, Some, None, sym, get_or}
use Rattle.std.proofs.lemmas.List.{take_all}
use Rattle.std.proofs.lemmas.Option.{slice_get-get_or}
use Rattle.std.proofs.lemmas.Result.{IfOk-from_err}
use Rattle.fleet_queue.specs.declared.errand.Errand.{Errand}
use Rattle.fleet_state.proofs.Ranges.{take-get_more}
use Rattle.fleet_state.proofs.opening.errands_of.Goals as goal
use Rattle.fleet_state.proofs.opening.errands_of.Goals.{in-Some+in_ok-push, in_default}

pub loop-place-preserved : goal.loop-place-preserved
loop-place-preserved g c =
    elim c.match-get.branch [
      | in-Some+in_ok-push w ↦
          rw (w.errands-is, w.in_ok-push.ensures.items, c.loop-place.invariant) (sym (take-get_more c.args.queue.now.items c.loop-place.place w.in-Some.errand (sym w.in-Some.ensures)))
      | in_default w ↦
          (let none : Errand = record { client = 0; number = 0; cell = 0 } in
          let q : None ≡ Some (get_or c.args.queue.now.items c.loop-place.place none) = w.in_default.ensures ∙ slice_get-get_or c.args.queue.now.items c.loop-place.place none (omega (arith, c.loop-place-test.true, c.len-place-end.ensures.len)) in cc)
    ]

pub loop-place-init : goal.loop-place-init
loop-place-init g c = c.new-errands.ensures.items

pub returns : goal.returns
returns g c = c.loop-place.invariant ∙ take_all c.loop-place.place c.args.queue.now.items (omega (arith, c.loop-place-test.false, c.len-place-end.ensures.len))

pub returns-in_err-push : goal.returns-in_err-push
returns-in_err-push g c = IfOk-from_err c.from_residual.result _ c.from_residual.ensures.0
