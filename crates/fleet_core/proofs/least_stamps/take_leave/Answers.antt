use Rattle.std.proofs.Common.{arith, ◌≡◌, ◌∙◌, ◌++◌, List, map, length, take, drop, ap, sym, subst}
use Rattle.std.specs.Prelude.{All}
use Rattle.fleet_history.specs.declared.history.Bye.{Bye}
use Rattle.fleet_state.proofs.Ranges.{front-of}
use Rattle.fleet_core.specs.Hooks.{law_at}
use Rattle.fleet_core.proofs.least_stamps.take_leave.Goals as goal

pub returns-clause-stamps : goal.returns-clause-stamps
returns-clause-stamps g c =
    let new = c.stamp_farewells.new.leaving in
    let rest = drop (length new) c.args.leaving.now.items in
    let whole : take c.args.leaving.now.len (new ++ rest) ≡ new = front-of c.args.leaving.now.len new rest (omega (arith, c.args.leaving.now.ok.0, c.stamp_farewells.auto.leaving, ap length c.as_mut_slice.ensures.value)) in
    subst (All (λ (b : Bye). b.stamp ≡ (law_at (map (λ x. x.farewell_law) c.args.robots.now) b.robot).low)) (sym whole) c.stamp_farewells.ensures.stamps

pub stamp_farewells-requires : goal.stamp_farewells-requires
stamp_farewells-requires g c = rw c.as_mut_slice.ensures.value c.requires

pub returns-clause-robots : goal.returns-clause-robots
returns-clause-robots g c =
    let new = c.stamp_farewells.new.leaving in
    let rest = drop (length new) c.args.leaving.now.items in
    let whole : take c.args.leaving.now.len (new ++ rest) ≡ new = front-of c.args.leaving.now.len new rest (omega (arith, c.args.leaving.now.ok.0, c.stamp_farewells.auto.leaving, ap length c.as_mut_slice.ensures.value)) in
    ap (λ (xs : List Bye). map (λ b. b.robot) xs) whole ∙ (c.stamp_farewells.ensures.robots ∙ ap (λ (xs : List Bye). map (λ b. b.robot) xs) c.as_mut_slice.ensures.value)
