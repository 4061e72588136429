use Rattle.std.proofs.Common.{◌≡◌, ◌<◌, length, Some, refl, sym, subst, arith}
use Rattle.std.specs.Prelude.{slice_get}
use Rattle.std.proofs.lemmas.Option.{slice_get_read}
use Rattle.fleet_office.proofs.Laws.{lawful_give}
use Rattle.fleet_office.proofs.hall_state.HallState.give_one.Goals as goal

pub index_mut-requires : goal.index_mut-requires
index_mut-requires g c =
    let inside = subst (λ v. c.args.client < length v.ends) (sym c.self.view_is) c.requires in
    omega (arith, inside, c.self.inside.ends.ok.0)

pub give_from-requires : goal.give_from-requires
give_from-requires g c =
    let inside = subst (λ v. c.args.client < length v.ends) (sym c.self.view_is) c.requires in
    let known = subst (λ n. c.args.client < n) c.self.invariant.end_count inside in
    record { known = known; there = subst (λ n. c.args.client < n) (sym c.self.invariant.box_count) known }

pub invariant_of-self : goal.invariant_of-self
invariant_of-self g c =
    let s = c.self.inside in
    let inside = subst (λ v. c.args.client < length v.ends) (sym c.self.view_is) c.requires in
    let at : slice_get s.ends.items c.args.client ≡ Some c.index_mut.result.now = slice_get_read s.ends.items (length s.ends.items) c.args.client c.index_mut.result.now refl inside c.index_mut.ensures.value in
    lawful_give g.N.OfficeName.rings g.N.OfficeName.start s.core c.give_from.new.core s.ends.items s.book.total c.args.client c.give_from.result c.index_mut.result.now c.give_from.new.end at c.give_from.ensures.gives c.self.invariant

pub returns : goal.returns
returns g c =
    let s = c.self.inside in
    let inside = subst (λ v. c.args.client < length v.ends) (sym c.self.view_is) c.requires in
    let at : slice_get s.ends.items c.args.client ≡ Some c.index_mut.result.now = slice_get_read s.ends.items (length s.ends.items) c.args.client c.index_mut.result.now refl inside c.index_mut.ensures.value in
    rw (← c.self.view_is)
    record {
      before = c.index_mut.result.now;
      after = c.give_from.new.end;
      there = at;
      gives = c.give_from.ensures.gives;
      ends = refl;
      until = c.give_from.ensures.until;
      total = refl;
    }
