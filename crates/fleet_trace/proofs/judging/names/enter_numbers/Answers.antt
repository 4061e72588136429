use Rattle.std.proofs.Common.{◌∙◌, ◌+◌, ◌≤◌, sym, subst, ap, length, List}
use Rattle.std.specs.List.{slice_get}
use Rattle.std.specs.Ordering.{nat_cmp}
use Rattle.std.specs.BTreeMap.{get}
use Rattle.fleet_queue.specs.declared.errand.Errand.{Errand}
use Rattle.fleet_trace.specs.inside.Opened.{AreEntered}
use Rattle.fleet_trace.proofs.ErrandNames.{some_is, none_is, get-slice, errands_at_robot, entered_new, entered_same, entered_next, clash, is_other}
use Rattle.fleet_trace.proofs.judging.names.enter_numbers.Goals as goal
use Rattle.fleet_trace.proofs.judging.names.enter_numbers.Goals.{then-errands-place+in_ok-insert+else-is_some, else-errands-place}

pub returns-then-is_some : goal.returns-then-is_some
returns-then-is_some g c = λ fine.
    let robots = c.args.robots.now in
    let r = c.args.robot in
    let i = c.loop-place.place in
    let same = c.as_slice-errands.ensures ∙ errands_at_robot robots r c.index-robots-robot.result c.requires.inside in
    let at = ap (λ (xs : List Errand). slice_get xs i) (sym same) ∙ get-slice c.as_slice-errands.result.now i record { client = 0; number = 0; cell = 0 } c.loop-place-test.true in
    let old = some_is c.in_ok-insert.field-0 (sym c.is_some.ensures ∙ c.if-is_some.true) in
    clash robots c.args.client r i (get nat_cmp c.loop-place.robot_of) c.loop-place.invariant _ at c.if-errands-place.true old.0 (sym c.in_ok-insert.ensures.old ∙ old.1) fine

pub loop-place-preserved : goal.loop-place-preserved
loop-place-preserved g c =
    let robots = c.args.robots.now in
    let r = c.args.robot in
    let i = c.loop-place.place in
    let same = c.as_slice-errands.ensures ∙ errands_at_robot robots r c.index-robots-robot.result c.requires.inside in
    let at = ap (λ (xs : List Errand). slice_get xs i) (sym same) ∙ get-slice c.as_slice-errands.result.now i record { client = 0; number = 0; cell = 0 } c.loop-place-test.true in
    elim c.if-errands-place.branch [
      | then-errands-place+in_ok-insert+else-is_some w ↦ (
          let u = w.in_ok-insert.ensures.updates in
          let fresh = none_is w.in_ok-insert.field-0 (sym w.is_some.ensures ∙ w.if-is_some.false) in
          subst (λ m. AreEntered robots c.args.client r (i + 1) (get nat_cmp m)) (sym w.robot_of-is)
          (entered_new robots c.args.client r i (get nat_cmp c.loop-place.robot_of) c.loop-place.invariant _ at w.if-errands-place.true (sym w.in_ok-insert.ensures.old ∙ fresh) (get nat_cmp w.insert.new.self) u.1 (λ n ne. u.2 n (is_other _ n ne))))
      | else-errands-place w ↦
          subst (λ m. AreEntered robots c.args.client r (i + 1) (get nat_cmp m)) (sym w.robot_of-is)
          (entered_same robots c.args.client r i (get nat_cmp c.loop-place.robot_of) c.loop-place.invariant _ at w.if-errands-place.false)
    ]

pub returns : goal.returns
returns g c =
    let robots = c.args.robots.now in
    let r = c.args.robot in
    let same = c.as_slice-errands.ensures ∙ errands_at_robot robots r c.index-robots-robot.result c.requires.inside in
    entered_next robots c.args.client r c.loop-place.place (get nat_cmp c.loop-place.robot_of) c.loop-place.invariant
    (subst (λ (xs : List Errand). length xs ≤ c.loop-place.place) same c.loop-place-test.false)
