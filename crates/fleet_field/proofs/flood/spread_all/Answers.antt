use Rattle.std.proofs.Common.{◌≡◌, ℕ, ◌+◌, ◌<◌, List, length, take, refl, sym, ap, subst, ◌∙◌, arith}
use Rattle.std.proofs.lemmas.List.{length-take, take_all}
use Rattle.fleet_field.specs.inside.Search.{Search}
use Rattle.fleet_field.proofs.Whole.{written_back, walls_on, only_on, start_on, finished}
use Rattle.fleet_field.proofs.flood.spread_all.Goals as goal

pub loop-count-init : goal.loop-count-init
loop-count-init g c =
    let whole : c.len-count.result ≡ length c.args.now.now.items = omega (arith, c.len-count.ensures, c.args.now.now.ok.0) in
    record {
      within = omega (arith, whole);
      search = subst (λ (xs : List ℕ). Search c.args.dist.now c.args.stride 0 0 xs) (sym (take_all c.len-count.result c.args.now.now.items (omega (arith, whole)))) c.requires.search;
      walls = record { len = refl; kept = λ v o. o; no_more = λ v o. o };
      start = λ goal s. s;
      count = omega (arith, whole, c.requires.few);
    }

pub make_room-requires : goal.make_room-requires
make_room-requires g c = omega (arith, c.loop-count.invariant.count, c.loop-count.invariant.walls.len, c.requires.size)

pub spread-count-requires-clause-size : goal.spread-count-requires-clause-size
spread-count-requires-clause-size g c = omega (arith, c.loop-count.invariant.walls.len, c.requires.size)

pub spread-count-requires-clause-small : goal.spread-count-requires-clause-small
spread-count-requires-clause-small g c = omega (arith, c.loop-count.invariant.count, c.loop-count.invariant.walls.len, c.requires.size)

pub spread-count-requires-clause-step : goal.spread-count-requires-clause-step
spread-count-requires-clause-step g c = c.requires.step

pub spread-count-requires-clause-search : goal.spread-count-requires-clause-search
spread-count-requires-clause-search g c =
    subst (λ (xs : List ℕ). Search c.loop-count.dist c.args.stride c.loop-count.level c.loop-count.level (take c.loop-count.count xs)) (sym c.deref.ensures.value) c.loop-count.invariant.search

pub spread-count-requires-clause-room : goal.spread-count-requires-clause-room
spread-count-requires-clause-room g c =
    omega (arith, length-take c.loop-count.count c.deref.result.now, c.in_ok-make_room.ensures, ap (λ (xs : List ℕ). length xs) c.deref_mut.ensures.value)

pub loop-count-preserved : goal.loop-count-preserved
loop-count-preserved g c =
    let i = c.loop-count.invariant in
    let k = c.spread-count.ensures.keeps in
    let small : c.loop-count.level + 1 < 4294967294 = omega (arith, i.count, i.walls.len, c.requires.size) in
    let room = c.make_room.new.next in
    let kept : length c.spread-count.new.next ≡ length room.items = c.spread-count.ensures.kept ∙ ap (λ (xs : List ℕ). length xs) c.deref_mut.ensures.value in
    let back : c.swap.new.x.items ≡ c.spread-count.new.next = ap (λ v. v.items) c.swap.ensures.x_after ∙ written_back room.len c.spread-count.new.next room.items kept (omega (arith, room.ok.0)) in
    rw back (record {
      within = c.spread-count.ensures.most;
      search = c.spread-count.ensures.search;
      walls = walls_on c.args.dist.now c.loop-count.dist c.spread-count.new.dist (c.loop-count.level + 1) small i.walls k;
      start = λ goal s. (let was = i.start goal s in (start_on c.loop-count.dist c.spread-count.new.dist goal (c.loop-count.level + 1) was.0 k, only_on c.loop-count.dist c.spread-count.new.dist goal c.loop-count.level small was.1 k));
      count = omega (arith, i.count, c.loop-count-test.true, c.spread-count.ensures.count, c.spread-count.ensures.len);
    })

pub loop-count-smaller : goal.loop-count-smaller
loop-count-smaller g c = omega (arith, c.loop-count.invariant.count, c.loop-count.invariant.walls.len)

pub returns-clause-levels : goal.returns-clause-levels
returns-clause-levels g c = λ goal s.
    let i = c.loop-count.invariant in
    let none : c.loop-count.count ≡ 0 = omega (arith, c.loop-count-test.false) in
    let start = i.start goal s in
    finished c.loop-count.dist c.args.stride goal c.loop-count.level (subst (λ n. Search c.loop-count.dist c.args.stride c.loop-count.level c.loop-count.level (take n c.loop-count.now.items)) none i.search)
    start.0 start.1 (omega (arith, i.count))

pub returns-clause-walls : goal.returns-clause-walls
returns-clause-walls g c = c.loop-count.invariant.walls
