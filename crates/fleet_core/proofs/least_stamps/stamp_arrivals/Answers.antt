use Rattle.std.proofs.Common.{arith, ◌≡◌, ℕ, ◌<◌, ◌≤◌, ◌∙◌, length, map, ap, subst, get_or, refl}
use Rattle.fleet_history.specs.declared.history.Arrival.{Arrival}
use Rattle.fleet_history.specs.Legal.{Due, due_of}
use Rattle.fleet_core.specs.Hooks.{law_at}
use Rattle.fleet_core.proofs.Deliveries.{nobody}
use Rattle.fleet_core.proofs.StampLists.{default-any, word-at, set-alike, one-more}
use Rattle.fleet_core.proofs.least_stamps.stamp_arrivals.Goals as goal

pub least_arrival-stamp-requires : goal.least_arrival-stamp-requires
least_arrival-stamp-requires g c =
    let l : c.loop-j.j < length c.loop-j.arrived = omega (arith, c.loop-j-test.true, c.loop-j.auto.arrived) in
    omega (arith, c.requires c.loop-j.j nobody c.loop-j-test.true, ap (λ (d : Due). d.robot) (word-at due_of c.loop-j.arrived c.args.arrived.now c.loop-j.j nobody c.loop-j.invariant.shows l c.loop-j-test.true))

pub loop-j-preserved : goal.loop-j-preserved
loop-j-preserved g c =
    let inv = c.loop-j.invariant in
    let j = c.loop-j.j in
    let l : j < length c.loop-j.arrived = omega (arith, c.loop-j-test.true, c.loop-j.auto.arrived) in
    let a = get_or c.loop-j.arrived j nobody in
    let x : Arrival = record { robot = a.robot; client = a.client; number = a.number; stamp = c.least_arrival-stamp.result } in
    let laws = map (λ y. y.arrival_law) c.args.robots.now in
    record {
      shows = set-alike due_of c.loop-j.arrived j x nobody l refl ∙ inv.shows;
      stamps = one-more (λ (b : Arrival). b.stamp ≡ (law_at laws b.robot).low) c.loop-j.arrived j x nobody l inv.stamps c.least_arrival-stamp.ensures;
    }

pub bounds-arrived-j : goal.bounds-arrived-j
bounds-arrived-j g c = omega (arith, c.loop-j-test.true, c.loop-j.auto.arrived)

pub loop-j-init : goal.loop-j-init
loop-j-init g c = record { shows = refl; stamps = λ k less. absurd (omega (arith, less)) }

pub returns-clause-shows : goal.returns-clause-shows
returns-clause-shows g c = c.loop-j.invariant.shows

seen : {i n m j : ℕ} → i < n → n ≡ m → m ≤ j → i < j
seen less same past = omega (arith, less, same, past)

pub returns-clause-stamps : goal.returns-clause-stamps
returns-clause-stamps g c i d l =
    let laws = map (λ y. y.arrival_law) c.args.robots.now in
    subst (λ (a : Arrival). a.stamp ≡ (law_at laws a.robot).low) (default-any c.loop-j.arrived i nobody d l) (c.loop-j.invariant.stamps i (seen l c.loop-j.auto.arrived c.loop-j-test.false))
