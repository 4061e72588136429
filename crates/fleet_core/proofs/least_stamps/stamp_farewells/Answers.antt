use Rattle.std.proofs.Common.{arith, ◌≡◌, ℕ, ◌<◌, ◌≤◌, ◌∙◌, length, map, subst, get_or, refl}
use Rattle.fleet_history.specs.declared.history.Bye.{Bye}
use Rattle.fleet_core.specs.Hooks.{law_at}
use Rattle.fleet_core.proofs.StampLists.{no_farewell, default-any, word-at, set-alike, one-more}
use Rattle.fleet_core.proofs.least_stamps.stamp_farewells.Goals as goal

pub least_farewell-stamp-requires : goal.least_farewell-stamp-requires
least_farewell-stamp-requires g c =
    let l : c.loop-j.j < length c.loop-j.leaving = omega (arith, c.loop-j-test.true, c.loop-j.auto.leaving) in
    omega (arith, c.requires c.loop-j.j no_farewell c.loop-j-test.true, word-at (λ (b : Bye). b.robot) c.loop-j.leaving c.args.leaving.now c.loop-j.j no_farewell c.loop-j.invariant.robots l c.loop-j-test.true)

pub loop-j-preserved : goal.loop-j-preserved
loop-j-preserved g c =
    let inv = c.loop-j.invariant in
    let j = c.loop-j.j in
    let l : j < length c.loop-j.leaving = omega (arith, c.loop-j-test.true, c.loop-j.auto.leaving) in
    let r = (get_or c.loop-j.leaving j no_farewell).robot in
    let x : Bye = record { robot = r; stamp = c.least_farewell-stamp.result } in
    let laws = map (λ y. y.farewell_law) c.args.robots.now in
    record {
      robots = set-alike (λ (b : Bye). b.robot) c.loop-j.leaving j x no_farewell l refl ∙ inv.robots;
      stamps = one-more (λ (b : Bye). b.stamp ≡ (law_at laws b.robot).low) c.loop-j.leaving j x no_farewell l inv.stamps c.least_farewell-stamp.ensures;
    }

pub bounds-leaving-j : goal.bounds-leaving-j
bounds-leaving-j g c = omega (arith, c.loop-j-test.true, c.loop-j.auto.leaving)

pub loop-j-init : goal.loop-j-init
loop-j-init g c = record { robots = refl; stamps = λ k less. absurd (omega (arith, less)) }

pub returns-clause-robots : goal.returns-clause-robots
returns-clause-robots g c = c.loop-j.invariant.robots

seen : {i n m j : ℕ} → i < n → n ≡ m → m ≤ j → i < j
seen less same past = omega (arith, less, same, past)

pub returns-clause-stamps : goal.returns-clause-stamps
returns-clause-stamps g c i d l =
    let laws = map (λ y. y.farewell_law) c.args.robots.now in
    subst (λ (b : Bye). b.stamp ≡ (law_at laws b.robot).low) (default-any c.loop-j.leaving i no_farewell d l) (c.loop-j.invariant.stamps i (seen l c.loop-j.auto.leaving c.loop-j-test.false))
