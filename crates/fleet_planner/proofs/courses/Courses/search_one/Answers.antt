use Rattle.std.proofs.Common.{◌≡◌, ◌<◌, List, length, map, set, slice_index, refl, sym, ap, subst, ◌∙◌, arith}
use Rattle.std.proofs.lemmas.Bool.{false≢true}
use Rattle.fleet_planner.specs.Courses.{Courses, growth_in, AreOn, AreStill}
use Rattle.fleet_planner.specs.Searched.{AreGrown, AreTold, IsUntoldAt, Lacks}
use Rattle.fleet_planner.proofs.Merged.{own-at, still-set, on-set}
use Rattle.fleet_planner.proofs.Told.{lacks_by, nobody, told-set}
use Rattle.fleet_planner.proofs.courses.Courses.search_one.Goals as goal

pub first_lacking-requires : goal.first_lacking-requires
first_lacking-requires g c =
    let m = c.args.grid.now in
    let on = subst (AreOn m) (sym c.self.view_is) c.requires in
    subst (λ (own : List _). AreGrown m (map growth_in own)) (sym c.deref.ensures.value) on.grown

pub returns-in_default-clause-search : goal.returns-in_default-clause-search
returns-in_default-clause-search g c =
    let m = c.args.grid.now in
    let cells = c.args.cells.now in
    let told = c.first_lacking.ensures.none (nobody c.first_lacking.result c.in_default.not-Some) in
    record {
      none = λ e. subst (λ (s : Courses). AreTold m s.own cells) c.self.view_is (subst (λ (xs : List _). AreTold m (map growth_in xs) cells) c.deref.ensures.value told);
      same = λ e. refl;
      one = λ e. absurd (false≢true e);
    }

pub search_own-requires-clause-grown : goal.search_own-requires-clause-grown
search_own-requires-clause-grown g c field e =
    let on = subst (AreOn c.args.grid.now) (sym c.self.view_is) c.requires in
    let less : c.in-Some.robot < length c.self.inside.own.items = subst (λ (xs : List _). c.in-Some.robot < length xs) c.deref.ensures.value c.in-Some.ensures.known in
    on.grown c.in-Some.robot field (own-at c.self.inside.own.items c.in-Some.robot c.index_mut.result.now less c.index_mut.ensures.value ∙ e)

pub returns-in_err-search_own-clause-on : goal.returns-in_err-search_own-clause-on
returns-in_err-search_own-clause-on g c =
    on-set c.args.grid.now c.self.inside.shared c.self.inside.own.items c.in-Some.robot c.search_own.new.own c.search_own.ensures.grown (subst (AreOn c.args.grid.now) (sym c.self.view_is) c.requires)

pub returns-in_err-search_own-clause-still : goal.returns-in_err-search_own-clause-still
returns-in_err-search_own-clause-still g c =
    subst (λ (old : Courses). AreStill old (record { shared = c.self.inside.shared; own = map growth_in (set c.self.inside.own.items c.in-Some.robot c.search_own.new.own) })) c.self.view_is
    (still-set c.self.inside.shared c.self.inside.own.items c.in-Some.robot c.index_mut.result.now c.search_own.new.own c.index_mut.ensures.value c.search_own.ensures.goal)

pub returns-clause-search : goal.returns-clause-search
returns-clause-search g c =
    let m = c.args.grid.now in
    let cells = c.args.cells.now in
    let own = c.self.inside.own.items in
    let r = c.in-Some.robot in
    let here = c.deref.ensures.value in
    let at = subst (λ (xs : List _). IsUntoldAt m (map growth_in xs) cells r) here c.in-Some.ensures.some in
    let less : r < length own = subst (λ (xs : List _). r < length xs) here c.in-Some.ensures.known in
    record {
      none = λ e. absurd (false≢true (sym e));
      same = λ e. absurd (false≢true (sym e));
      one = λ e. (
        r,
        subst (λ (s : Courses). Lacks m s cells r) c.self.view_is (lacks_by m c.self.inside.shared own cells r c.self.invariant.0 at),
        told-set m own r c.search_own.new.own (slice_index cells r) less c.in_ok-search_own.ensures.told,
      );
    }

pub returns-clause-on : goal.returns-clause-on
returns-clause-on g c =
    on-set c.args.grid.now c.self.inside.shared c.self.inside.own.items c.in-Some.robot c.search_own.new.own c.search_own.ensures.grown (subst (AreOn c.args.grid.now) (sym c.self.view_is) c.requires)

pub returns-clause-still : goal.returns-clause-still
returns-clause-still g c =
    subst (λ (old : Courses). AreStill old (record { shared = c.self.inside.shared; own = map growth_in (set c.self.inside.own.items c.in-Some.robot c.search_own.new.own) })) c.self.view_is
    (still-set c.self.inside.shared c.self.inside.own.items c.in-Some.robot c.index_mut.result.now c.search_own.new.own c.index_mut.ensures.value c.search_own.ensures.goal)
