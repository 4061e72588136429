use Rattle.std.proofs.Common.{arith, ◌≡◌, ℕ, ◌<◌, ◌≤◌, ◌∙◌, List, length, map, ap, subst, sym, get_or, refl}
use Rattle.std.proofs.lemmas.List.{get_or-map}
use Rattle.fleet_hooks.specs.Law.{IsStamp}
use Rattle.fleet_hooks.specs.declared.law.StampLaw.{StampLaw}
use Rattle.fleet_history.specs.declared.history.Arrival.{Arrival}
use Rattle.fleet_history.specs.Legal.{Due, due_of, no_law}
use Rattle.fleet_core.specs.Hooks.{law_at}
use Rattle.fleet_core.proofs.Deliveries.{nobody}
use Rattle.fleet_core.proofs.StampLists.{default-any, word-at, set-alike, one-more}
use Rattle.fleet_core.proofs.stamps.stamp_arrivals.Goals as goal

pub bounds-to-arrival : goal.bounds-to-arrival
bounds-to-arrival g c =
    let l : c.loop-j.j < length c.loop-j.arrived = omega (arith, c.loop-j-test.true, c.loop-j.auto.arrived) in
    omega (arith, c.requires.same, c.requires.known c.loop-j.j nobody c.loop-j-test.true, ap (λ (d : Due). d.robot) (word-at due_of c.loop-j.arrived c.args.arrived.now c.loop-j.j nobody c.loop-j.invariant.shows l c.loop-j-test.true))

pub bounds-hooks-arrival : goal.bounds-hooks-arrival
bounds-hooks-arrival g c =
    let l : c.loop-j.j < length c.loop-j.arrived = omega (arith, c.loop-j-test.true, c.loop-j.auto.arrived) in
    omega (arith, c.requires.known c.loop-j.j nobody c.loop-j-test.true, ap (λ (d : Due). d.robot) (word-at due_of c.loop-j.arrived c.args.arrived.now c.loop-j.j nobody c.loop-j.invariant.shows l c.loop-j-test.true))

-- the law of a closure is found among the laws
law_is : {X : Type 0} (f : X → StampLaw) (xs : List X) (r : _) (x : X) → r < length xs → x ≡ get_or xs r x → law_at (map f xs) r ≡ f x
law_is f xs r x l e = get_or-map f xs r x no_law l ∙ ap f (sym e)

pub loop-j-preserved : goal.loop-j-preserved
loop-j-preserved g c =
    let inv = c.loop-j.invariant in
    let j = c.loop-j.j in
    let l : j < length c.loop-j.arrived = omega (arith, c.loop-j-test.true, c.loop-j.auto.arrived) in
    let a = get_or c.loop-j.arrived j nobody in
    let x : Arrival = record { robot = a.robot; client = a.client; number = a.number; stamp = c.stamp-stamp.result } in
    let laws = map (λ h. h.law) c.args.hooks.now in
    let inside : a.robot < length c.args.hooks.now = omega (arith, c.requires.known j nobody c.loop-j-test.true, ap (λ (d : Due). d.robot) (word-at due_of c.loop-j.arrived c.args.arrived.now j nobody inv.shows l c.loop-j-test.true)) in
    record {
      shows = set-alike due_of c.loop-j.arrived j x nobody l refl ∙ inv.shows;
      stamps = one-more (λ (b : Arrival). IsStamp (law_at laws b.robot) b.stamp) c.loop-j.arrived j x nobody l inv.stamps
          (subst (λ law. IsStamp law c.stamp-stamp.result) (sym (law_is (λ h. h.law) c.args.hooks.now a.robot c.index-hooks-arrival.result inside c.index-hooks-arrival.is)) c.stamp-stamp.ensures.law);
    }

pub bounds-arrived-j : goal.bounds-arrived-j
bounds-arrived-j g c = omega (arith, c.loop-j-test.true, c.loop-j.auto.arrived)

pub loop-j-init : goal.loop-j-init
loop-j-init g c = record { shows = refl; stamps = λ k less. absurd (omega (arith, less)) }

pub returns-clause-shows : goal.returns-clause-shows
returns-clause-shows g c = c.loop-j.invariant.shows

seen : {i n m j : ℕ} → i < n → n ≡ m → m ≤ j → i < j
seen less same past = omega (arith, less, same, past)

pub returns-clause-stamps : goal.returns-clause-stamps
returns-clause-stamps g c i d l =
    let laws = map (λ h. h.law) c.args.hooks.now in
    subst (λ (a : Arrival). IsStamp (law_at laws a.robot) a.stamp) (default-any c.loop-j.arrived i nobody d l) (c.loop-j.invariant.stamps i (seen l c.loop-j.auto.arrived c.loop-j-test.false))
