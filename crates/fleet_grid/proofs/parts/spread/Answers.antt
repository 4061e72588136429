use Rattle.std.proofs.Common.{◌≡◌, ℕ, ◌<◌, ◌∷◌, ◌++◌, [], List, subst, arith}
use Rattle.fleet_grid.proofs.Forms.{floor_inside, few_cells}
use Rattle.fleet_grid.proofs.Rounds.{begun, done, kept_on}
use Rattle.fleet_grid.proofs.parts.spread.Goals as goal

pub loop-head-init : goal.loop-head-init
loop-head-init g c =
    let m = c.args.cells.now in
    let less : c.args.start < 4294967295 = omega (arith, floor_inside m c.args.start c.requires.floor, few_cells m c.count-count.ensures.form) in
    let is : c.push.new.self.items ≡ c.args.start ∷ [] = subst (λ (xs : List ℕ). c.push.new.self.items ≡ xs ++ c.args.start ∷ []) c.clear.ensures.items c.in_ok-push.ensures.items in
    rw is (begun m c.args.start c.args.labels.now less c.requires.floor c.requires.bare c.requires.done)

pub bounds-labels-start : goal.bounds-labels-start
bounds-labels-start g c = omega (arith, floor_inside c.args.cells.now c.args.start c.requires.floor, c.requires.done.len)

pub around-requires-clause-bare : goal.around-requires-clause-bare
around-requires-clause-bare g c = omega (arith, floor_inside c.args.cells.now c.args.start c.requires.floor, few_cells c.args.cells.now c.count-count.ensures.form)

pub around-requires-clause-head : goal.around-requires-clause-head
around-requires-clause-head g c = omega (arith, c.loop-head-test.true, c.len.ensures, c.loop-head.queue.ok.0)

pub around-requires-clause-spread : goal.around-requires-clause-spread
around-requires-clause-spread g c = c.loop-head.invariant.spread

pub overflow_add-head : goal.overflow_add-head
overflow_add-head g c = omega (arith, c.loop-head-test.true, c.len.type_inv)

pub loop-head-smaller : goal.loop-head-smaller
loop-head-smaller g c =
    let on = c.in_ok-around.ensures.ok in
    omega (arith, on.count, on.longer, c.loop-head-test.true, c.len.ensures, c.loop-head.queue.ok.0)

pub loop-head-preserved : goal.loop-head-preserved
loop-head-preserved g c =
    let i = c.loop-head.invariant in
    kept_on c.args.cells.now c.args.start c.loop-head.head c.args.labels.now c.loop-head.labels c.loop-head.queue.items c.around.new.labels c.around.new.queue.items i i.spread c.in_ok-around.ensures.ok

pub returns-clause-done : goal.returns-clause-done
returns-clause-done g c =
    let i = c.loop-head.invariant in
    done c.args.cells.now c.args.start c.loop-head.head c.loop-head.labels c.loop-head.queue.items i.spread (omega (arith, c.loop-head-test.false, c.len.ensures, c.loop-head.queue.ok.0))

pub returns-clause-kept : goal.returns-clause-kept
returns-clause-kept g c = c.loop-head.invariant.kept

pub returns-clause-labelled : goal.returns-clause-labelled
returns-clause-labelled g c = c.loop-head.invariant.first
