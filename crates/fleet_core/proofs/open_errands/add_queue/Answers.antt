use Rattle.std.proofs.Common.{arith, ◌≡◌, ◌∙◌, Some, None, sym, get_or}
use Rattle.std.proofs.lemmas.Option.{slice_get-get_or}
use Rattle.fleet_queue.specs.declared.errand.Errand.{Errand}
use Rattle.fleet_core.proofs.OpenFacts.{open-more, open-past}
use Rattle.fleet_core.proofs.open_errands.add_queue.Goals as goal
use Rattle.fleet_core.proofs.open_errands.add_queue.Goals.{in-Some+in_ok-add_if, in_default}

pub loop-at-preserved : goal.loop-at-preserved
loop-at-preserved g c =
    elim c.match-get.branch [
      | in-Some+in_ok-add_if w ↦
          rw w.found-is
          (open-more c.args.client c.args.robot c.loop-at.at c.args.queue.now.items w.in-Some.errand c.loop-at.found.items _ _ (sym w.in-Some.ensures) w.in_ok-add_if.ensures c.loop-at.invariant)
      | in_default w ↦
          (let none : Errand = record { client = 0; number = 0; cell = 0 } in
          let q : None ≡ Some (get_or c.args.queue.now.items c.loop-at.at none) = w.in_default.ensures ∙ slice_get-get_or c.args.queue.now.items c.loop-at.at none (omega (arith, c.loop-at-test.true, c.len-at-end.ensures.len)) in cc)
    ]

pub returns : goal.returns
returns g c =
    open-past c.args.client c.args.robot c.loop-at.at c.args.queue.now.items c.loop-at.found.items _ (omega (arith, c.loop-at-test.false, c.len-at-end.ensures.len)) c.loop-at.invariant
