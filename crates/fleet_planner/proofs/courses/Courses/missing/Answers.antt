use Rattle.std.proofs.Common.{List, map, sym, subst}
use Rattle.fleet_planner.specs.Courses.{Courses, growth_in, AreOn}
use Rattle.fleet_planner.specs.Searched.{AreGrown, AreMissing, AreTold, IsUntoldAt}
use Rattle.fleet_planner.proofs.Told.{lacks_by}
use Rattle.fleet_planner.proofs.courses.Courses.missing.Goals as goal

pub count_lacking-requires : goal.count_lacking-requires
count_lacking-requires g c =
    let m = c.args.grid.now in
    let on = subst (AreOn m) (sym c.self.view_is) c.requires in
    subst (λ (own : List _). AreGrown m (map growth_in own)) (sym c.deref.ensures.value) on.grown

pub returns : goal.returns
returns g c =
    let m = c.args.grid.now in
    let cells = c.args.cells.now in
    let own = c.self.inside.own.items in
    let here = c.deref.ensures.value in
    subst (λ (s : Courses). AreMissing m s cells c.count_lacking.result) c.self.view_is (record {
      none = λ zero. subst (λ (xs : List _). AreTold m (map growth_in xs) cells) here (c.count_lacking.ensures.none zero);
      some = λ more. (
          let some = c.count_lacking.ensures.some more in
          (some.0, lacks_by m c.self.inside.shared own cells some.0 c.self.invariant.0 (subst (λ (xs : List _). IsUntoldAt m (map growth_in xs) cells some.0) here some.1)));
      few = c.count_lacking.ensures.few;
    })
