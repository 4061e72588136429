use Rattle.std.proofs.Common.{rules, ◌≡◌, ◌+◌, get_or, set, sym, ap, arith, Some, subst}
use Rattle.std.specs.Prelude.{slice_get}
use Rattle.std.proofs.lemmas.Option.{slice_get-get_or}
use Rattle.fleet_history.specs.History.{clients}
use Rattle.fleet_office.proofs.Uncollected.{Rested, rested_none, rested_next, rested_more, rests_all}
use Rattle.fleet_office.proofs.leftovers.fill.Goals as goal

pub loop-k-init : goal.loop-k-init
loop-k-init g c = rested_none c.args.rooms.now.items c.args.core.now c.args.clients.now c.requires.rooms

pub move_all-requires-clause-known : goal.move_all-requires-clause-known
move_all-requires-clause-known g c =
    let i = c.loop-k.invariant in
    let now = c.loop-k.clients in
    let k = c.loop-k.k in
    let x = get_or now k c.index-clients-k.result in
    let here : slice_get now k ≡ Some x = slice_get-get_or now k c.index-clients-k.result (omega (arith, c.loop-k-test.true)) in
    omega (arith, c.requires.inside k x (rested_next k c.loop-k.rooms.items c.loop-k.core c.args.core.now c.args.clients.now now x here i).1, c.requires.known, ap clients i.kept.history)

pub move_all-requires-clause-there : goal.move_all-requires-clause-there
move_all-requires-clause-there g c =
    let i = c.loop-k.invariant in
    let now = c.loop-k.clients in
    let k = c.loop-k.k in
    let x = get_or now k c.index-clients-k.result in
    let here : slice_get now k ≡ Some x = slice_get-get_or now k c.index-clients-k.result (omega (arith, c.loop-k-test.true)) in
    omega (arith, c.requires.inside k x (rested_next k c.loop-k.rooms.items c.loop-k.core c.args.core.now c.args.clients.now now x here i).1, i.as_many)

pub move_all-requires-clause-room : goal.move_all-requires-clause-room
move_all-requires-clause-room g c =
    let now = c.loop-k.clients in
    let k = c.loop-k.k in
    let x = get_or now k c.index-clients-k.result in
    let here : slice_get now k ≡ Some x = slice_get-get_or now k c.index-clients-k.result (omega (arith, c.loop-k-test.true)) in
    (rested_next k c.loop-k.rooms.items c.loop-k.core c.args.core.now c.args.clients.now now x here c.loop-k.invariant).0

pub loop-k-preserved : goal.loop-k-preserved
loop-k-preserved g c =
    let now = c.loop-k.clients in
    let k = c.loop-k.k in
    let x = get_or now k c.index-clients-k.result in
    let here : slice_get now k ≡ Some x = slice_get-get_or now k c.index-clients-k.result (omega (arith, c.loop-k-test.true)) in
    let e = c.move_all.ensures.moved in
    subst (λ rests. Rested (k + 1) rests c.move_all.new.core c.args.core.now c.args.clients.now (set now k c.move_all.new.client)) (sym e.1)
    (rested_more k c.loop-k.rooms.items c.loop-k.core c.move_all.new.core c.args.core.now c.args.clients.now now x c.move_all.new.client e.0 here c.requires.distinct e.2 c.move_all.ensures.core c.loop-k.invariant)

pub returns-clause-rests : goal.returns-clause-rests
returns-clause-rests g c =
    rests_all c.loop-k.k c.loop-k.rooms.items c.loop-k.core c.args.core.now c.args.clients.now c.loop-k.clients (omega (arith, c.loop-k-test.false)) c.loop-k.invariant

pub bounds-clients-k : goal.bounds-clients-k
bounds-clients-k g c = omega (arith, c.loop-k-test.true, c.loop-k.auto.clients)

pub loop-k-smaller : goal.loop-k-smaller
loop-k-smaller g c = omega (arith, c.loop-k-test.true)

pub returns-clause-core : goal.returns-clause-core
returns-clause-core g c = c.loop-k.invariant.kept

pub offset_bounds-clients-k : goal.offset_bounds-clients-k
offset_bounds-clients-k g c = search rules depth 3
