use Rattle.std.proofs.Common.{◌≡◌, Some, length, map, refl, sym, ap, ◌∙◌, subst, rules}
use Rattle.std.specs.Prelude.{slice_get}
use Rattle.std.proofs.lemmas.List.{length-map}
use Rattle.fleet_core.specs.Hooks.{spare_laws}
use Rattle.fleet_core.proofs.Matches.{left-more, left-all}
use Rattle.fleet_core.proofs.kernel.Core.has_farewells.Goals as goal

pub loop-r-preserved : goal.loop-r-preserved
loop-r-preserved g c =
    let h = c.args.self.now.history in
    let e : c.as_slice-robots.result.now ≡ h.opening.robots = c.as_slice-robots.ensures ∙ ap (λ x. x.opening.robots) c.chapter.ensures.history in
    left-more h (spare_laws c.args.farewells.now) c.loop-r.r c.farewell_at-found.result c.farewell_law_at-wanted.result c.farewell_at-found.ensures
    (subst (λ xs. slice_get (map (λ x. x.farewell_law) xs) c.loop-r.r ≡ Some c.farewell_law_at-wanted.result) e c.farewell_law_at-wanted.ensures)
    (c.if-not-may_have.ensures refl) c.loop-r.invariant

pub returns : goal.returns
returns g c =
    let h = c.args.self.now.history in
    let e : c.as_slice-robots.result.now ≡ h.opening.robots = c.as_slice-robots.ensures ∙ ap (λ x. x.opening.robots) c.chapter.ensures.history in
    let l : c.loop-r.r ≡ length c.args.farewells.now = search rules in
    let m : length c.args.farewells.now ≡ length c.as_slice-robots.result.now = search rules in
    let count : length (spare_laws c.args.farewells.now) ≡ c.loop-r.r = simp length-map (sym l) in
    λ t. left-all h (spare_laws c.args.farewells.now) c.loop-r.r (l ∙ m ∙ ap length e) count c.loop-r.invariant
