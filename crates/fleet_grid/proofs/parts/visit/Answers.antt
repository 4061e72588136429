use Rattle.std.proofs.Common.{◌≡◌, ℕ, ◌<◌, length, ◌++◌, ◌∷◌, [], sym, subst, ◌∙◌, arith}
use Rattle.std.specs.Prelude.{slice_index}
use Rattle.std.proofs.lemmas.Grind.{get_or_default_zero}
use Rattle.fleet_grid.specs.Floor.{IsNeighbourIn}
use Rattle.std.proofs.lemmas.List.{get_or-set_same}
use Rattle.fleet_grid.proofs.Forms.{floor_inside}
use Rattle.fleet_grid.proofs.Edges.{beside_once}
use Rattle.fleet_grid.proofs.Spread.{reach_new, same_label, still}
use Rattle.fleet_grid.proofs.parts.visit.Goals as goal

pub returns-in_ok-push-clause-ok : goal.returns-in_ok-push-clause-ok
returns-in_ok-push-clause-ok g c =
    let m = c.args.cells.now in
    let q = c.args.queue.now.items in
    let at : slice_index q c.args.head ≡ c.index.result.now = sym (get_or_default_zero q c.args.head c.index.result.now c.requires.head) ∙ sym c.index.ensures in
    let near : IsNeighbourIn m c.args.dir (slice_index q c.args.head) c.in-Some.next = subst (λ (x : ℕ). IsNeighbourIn m c.args.dir x c.in-Some.next) (sym at) c.in-Some.ensures in
    let on = reach_new m c.args.label c.args.head (slice_index q c.args.head) c.in-Some.next c.args.labels.now q c.requires.spread c.requires.bare (c.requires.spread.queued c.args.head c.requires.head).1 (c.args.dir, near) c.if-labels-at.true in
    let pushed : c.push.new.self.items ≡ q ++ c.in-Some.next ∷ [] = c.in_ok-push.ensures.items in
    rw pushed on

pub returns-else-labels-at-clause-same : goal.returns-else-labels-at-clause-same
returns-else-labels-at-clause-same g c = λ b n.
    let m = c.args.cells.now in
    let q = c.args.queue.now.items in
    let at : slice_index q c.args.head ≡ c.index.result.now = sym (get_or_default_zero q c.args.head c.index.result.now c.requires.head) ∙ sym c.index.ensures in
    let near : IsNeighbourIn m c.args.dir (slice_index q c.args.head) c.in-Some.next = subst (λ (x : ℕ). IsNeighbourIn m c.args.dir x c.in-Some.next) (sym at) c.in-Some.ensures in
    let e = beside_once m.width c.args.dir (slice_index q c.args.head) b c.in-Some.next n.beside near.beside in
    same_label m c.args.label c.args.head c.args.labels.now q (slice_index q c.args.head) b c.requires.spread (c.requires.spread.queued c.args.head c.requires.head).1 (c.args.dir, n)
    (rw e c.if-labels-at.false)

pub returns-in_ok-push-clause-same : goal.returns-in_ok-push-clause-same
returns-in_ok-push-clause-same g c = λ b n.
    let m = c.args.cells.now in
    let q = c.args.queue.now.items in
    let at : slice_index q c.args.head ≡ c.index.result.now = sym (get_or_default_zero q c.args.head c.index.result.now c.requires.head) ∙ sym c.index.ensures in
    let near : IsNeighbourIn m c.args.dir (slice_index q c.args.head) c.in-Some.next = subst (λ (x : ℕ). IsNeighbourIn m c.args.dir x c.in-Some.next) (sym at) c.in-Some.ensures in
    let inside : c.in-Some.next < length c.args.labels.now = omega (arith, floor_inside m c.in-Some.next near.to, c.requires.spread.len) in
    rw (beside_once m.width c.args.dir (slice_index q c.args.head) b c.in-Some.next n.beside near.beside) (get_or-set_same c.args.labels.now c.in-Some.next c.args.label 0 inside)

pub returns-else-labels-at-clause-ok : goal.returns-else-labels-at-clause-ok
returns-else-labels-at-clause-ok g c = still c.args.cells.now c.args.label c.args.head c.args.labels.now c.args.queue.now.items c.requires.spread

pub returns-in_default-clause-ok : goal.returns-in_default-clause-ok
returns-in_default-clause-ok g c = still c.args.cells.now c.args.label c.args.head c.args.labels.now c.args.queue.now.items c.requires.spread

pub returns-in_default-clause-same : goal.returns-in_default-clause-same
returns-in_default-clause-same g c = λ b n.
    let q = c.args.queue.now.items in
    let at : slice_index q c.args.head ≡ c.index.result.now = sym (get_or_default_zero q c.args.head c.index.result.now c.requires.head) ∙ sym c.index.ensures in
    absurd (c.in_default.ensures b (subst (λ (x : ℕ). IsNeighbourIn c.args.cells.now c.args.dir x b) at n))

pub index-requires : goal.index-requires
index-requires g c = omega (arith, c.requires.head, c.args.queue.now.ok.0)

pub bounds-labels-at : goal.bounds-labels-at
bounds-labels-at g c =
    let inside = floor_inside c.args.cells.now c.in-Some.next c.in-Some.ensures.to in
    omega (arith, inside, c.requires.spread.len)

pub bounds-labels-at-then-labels-at : goal.bounds-labels-at-then-labels-at
bounds-labels-at-then-labels-at g c =
    let inside = floor_inside c.args.cells.now c.in-Some.next c.in-Some.ensures.to in
    omega (arith, inside, c.requires.spread.len)
