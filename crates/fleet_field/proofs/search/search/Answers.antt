use Rattle.std.proofs.Common.{◌≡◌, ℕ, ◌<◌, List, [], ◌∷◌, ◌++◌, length, set, take, drop, refl, sym, ap, subst, ◌∙◌, arith}
use Rattle.std.proofs.lemmas.Grind.{common_steps}
use Rattle.std.proofs.lemmas.List.{length-set, length-take-le}
use Rattle.fleet_field.specs.inside.Labels.{IsSpread, Runs}
use Rattle.fleet_field.proofs.Whole.{written_back}
use Rattle.fleet_field.proofs.Labels.{first_runs, no_items, runs_on, runs_inside, runs_small, searched}
use Rattle.fleet_field.proofs.search.search.Goals.{else-loop-test, then-loop-test+then-count-eq0}
use Rattle.fleet_field.proofs.search.search.Goals as goal

pub loop-init : goal.loop-init
loop-init g c =
    let e : c.push.new.self.items ≡ [] ++ c.args.goal ∷ [] = c.in_ok-push.ensures.items ∙ ap (λ (xs : List ℕ). xs ++ c.args.goal ∷ []) c.new-now.ensures.items in
    let one : length c.push.new.self.items ≡ 1 = ap (λ (xs : List ℕ). length xs) e in
    let front : take 1 c.push.new.self.items ≡ [] ++ c.args.goal ∷ [] = ap (λ (xs : List ℕ). take 1 xs) e in
    record {
      len = length-set c.args.unseen.items c.args.goal 1;
      within = omega (arith, one);
      marked = refl;
      runs = λ blank r. subst (λ (xs : List ℕ). Runs blank c.args.stride c.args.goal 0 xs (set c.args.unseen.items c.args.goal 1)) (sym front)
          (first_runs blank c.args.stride c.args.goal c.args.unseen.items r);
    }

pub after-mark-requires : goal.after-mark-requires
after-mark-requires g c = (c.loop.counter, c.loop.invariant.marked)

pub make_room-requires : goal.make_room-requires
make_room-requires g c =
    let ready = c.requires.ready in
    let count = (c.loop.invariant.runs ready.0 ready.1).count in
    let long = length-take-le c.loop.count c.loop.now.items c.loop.invariant.within in
    omega (arith, count, long, ready.1.small)

pub spread-count-requires-clause-size : goal.spread-count-requires-clause-size
spread-count-requires-clause-size g c =
    let ready = c.requires.ready in
    omega (arith, c.deref_mut.ensures.len, ap (λ (xs : List ℕ). length xs) c.deref_mut.ensures.value, c.loop.invariant.len, ready.1.unseen.len, ready.1.small)

pub spread-count-requires-clause-inside : goal.spread-count-requires-clause-inside
spread-count-requires-clause-inside g c =
    let ready = c.requires.ready in
    rw (c.deref.ensures.value, c.deref_mut.ensures.value)
    (runs_inside ready.0 c.args.stride c.args.goal c.loop.counter (take c.loop.count c.loop.now.items) c.loop.labels.items ready.1.small (c.loop.invariant.runs ready.0 ready.1))

pub loop-preserved : goal.loop-preserved
loop-preserved g c =
    let front = take c.loop.count c.loop.now.items in
    let next = take c.spread-count.result c.spread-count.new.next in
    let room = c.make_room.new.next in
    let mark = c.after-mark.ensures c.loop.counter c.loop.invariant.marked in
    let d : c.deref_mut.result.now ≡ c.loop.labels.items = c.deref_mut.ensures.value in
    let n : take c.loop.count c.deref.result.now ≡ front = ap (λ (xs : List ℕ). take c.loop.count xs) c.deref.ensures.value in
    let m : c.deref_mut-in-loop.result.now ≡ room.items = c.deref_mut-in-loop.ensures.value in
    let on : IsSpread c.loop.labels.items front c.args.stride c.after-mark.result c.spread-count.new.labels next =
    subst (λ (xs : List ℕ). IsSpread xs front c.args.stride c.after-mark.result c.spread-count.new.labels next) d
    (subst (λ (ys : List ℕ). IsSpread c.deref_mut.result.now ys c.args.stride c.after-mark.result c.spread-count.new.labels next) n c.spread-count.ensures.spread) in
    let len : length c.spread-count.new.labels ≡ length c.loop.labels.items = c.spread-count.ensures.len ∙ ap (λ (xs : List ℕ). length xs) d in
    let kept : length c.spread-count.new.next ≡ length room.items = c.spread-count.ensures.kept ∙ ap (λ (xs : List ℕ). length xs) m in
    let whole : take c.loop.labels.len (c.spread-count.new.labels ++ drop (length c.spread-count.new.labels) c.loop.labels.items) ≡ c.spread-count.new.labels = written_back c.loop.labels.len c.spread-count.new.labels c.loop.labels.items len (grind (arith, common_steps)) in
    let x : c.swap.new.x.items ≡ c.spread-count.new.next = ap (λ v. v.items) c.swap.ensures.x_after ∙ written_back room.len c.spread-count.new.next room.items kept (grind (arith, common_steps)) in
    let long = length-take-le c.loop.count c.loop.now.items c.loop.invariant.within in
    let some : 0 < length front = omega (arith, long, c.if-count-eq0.false) in
    rw (whole, x) (record {
      len = len ∙ c.loop.invariant.len;
      within = c.spread-count.ensures.most;
      marked = mark;
      runs = λ blank ready. (
          let r = c.loop.invariant.runs blank ready in
          let small = runs_small blank c.args.stride c.args.goal c.loop.counter front c.loop.labels.items ready.small r in
          let s = on c.loop.counter r.dist small mark r.search r.labelled in
          runs_on blank c.args.stride c.args.goal c.loop.counter front c.loop.labels.items next c.spread-count.new.labels ready.small some r s.0 s.1);
    })

pub returns : goal.returns
returns g c blank ready =
    let r = c.loop.invariant.runs blank ready in
    let front = take c.loop.count c.loop.now.items in
    let count = r.count in
    let none : length front ≡ 0 = elim c.loop-test.branch [
      | else-loop-test w ↦ omega (arith, w.loop-test.false, count, ready.unseen.len, c.loop.auto.counter-end)
      | then-loop-test+then-count-eq0 w ↦ ap (λ (k : ℕ). length (take k c.loop.now.items)) w.if-count-eq0.true
    ] in
    searched blank c.args.stride c.args.goal c.loop.counter c.loop.labels.items
    (subst (λ (xs : List ℕ). Runs blank c.args.stride c.args.goal c.loop.counter xs c.loop.labels.items) (no_items front none) r)
