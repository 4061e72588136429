use Rattle.std.proofs.Common.{◌≡◌, ◌<◌, length, Some, Result, Ok, Err, refl, sym, subst, arith}
use Rattle.std.specs.Prelude.{slice_get, OnErr}
use Rattle.std.proofs.lemmas.Option.{slice_get_read}
use Rattle.fleet_office.specs.Draining.{Widens}
use Rattle.fleet_office.proofs.Laws.{boxed}
use Rattle.fleet_office.proofs.Widening.{few_used, used_after}
use Rattle.fleet_office.proofs.Meeting.{TakenLeft, kept_left, moves_left, next_left, stay_left}
use Rattle.fleet_office.proofs.hall_state.HallState.take_left.Goals as goal

first_err : {X E : Type 0} (P Q : Type 0) (r : Result X E) → OnErr r (P × Q) → OnErr r P
first_err P Q (Ok x) e = e
first_err P Q (Err x) e = e.0

pub index_mut-requires : goal.index_mut-requires
index_mut-requires g c =
    let inside = subst (λ v. c.args.client < length v.ends) (sym c.self.view_is) c.requires.client in
    omega (arith, inside, c.self.inside.ends.ok.0)

pub take_left_from-requires : goal.take_left_from-requires
take_left_from-requires g c =
    let s = c.self.inside in
    let i = c.self.invariant in
    let end = c.index_mut.result.now in
    let inside = subst (λ v. c.args.client < length v.ends) (sym c.self.view_is) c.requires.client in
    let at : slice_get s.ends.items c.args.client ≡ Some end = slice_get_read s.ends.items (length s.ends.items) c.args.client end refl inside c.index_mut.ensures.value in
    let known = subst (λ n. c.args.client < n) i.end_count inside in
    record {
      client = known;
      there = subst (λ n. c.args.client < n) (sym i.box_count) known;
      few = few_used g.N.OfficeName.rings g.N.OfficeName.start s.core s.ends.items s.book.total c.args.client end at i (c.chapter.ensures.counts c.args.client known);
      some = c.requires.some;
      known = c.requires.known end (rw (← c.self.view_is) at);
    }

pub invariant_of-self : goal.invariant_of-self
invariant_of-self g c =
    let s = c.self.inside in
    let t = c.take_left_from in
    let end = c.index_mut.result.now in
    let inside = subst (λ v. c.args.client < length v.ends) (sym c.self.view_is) c.requires.client in
    let at : slice_get s.ends.items c.args.client ≡ Some end = slice_get_read s.ends.items (length s.ends.items) c.args.client end refl inside c.index_mut.ensures.value in
    let k : TakenLeft s.core t.new.core end t.new.end c.args.client c.args.left t.result = record { ok = t.ensures.ok; err = t.ensures.err } in
    kept_left g.N.OfficeName.rings g.N.OfficeName.start s.core s.ends.items s.book.total c.args.client c.args.left end at t.new.core t.new.end t.result k c.self.invariant

pub returns : goal.returns
returns g c =
    let s = c.self.inside in
    let t = c.take_left_from in
    let end = c.index_mut.result.now in
    let inside = subst (λ v. c.args.client < length v.ends) (sym c.self.view_is) c.requires.client in
    let at : slice_get s.ends.items c.args.client ≡ Some end = slice_get_read s.ends.items (length s.ends.items) c.args.client end refl inside c.index_mut.ensures.value in
    let k : TakenLeft s.core t.new.core end t.new.end c.args.client c.args.left t.result = record { ok = t.ensures.ok; err = t.ensures.err } in
    let next = next_left g.N.OfficeName.rings g.N.OfficeName.start s.core s.ends.items s.book.total c.args.client c.args.left end at t.new.core t.new.end t.result k in
    let there = boxed g.N.OfficeName.rings g.N.OfficeName.start s.core s.ends.items s.book.total c.args.client end c.self.invariant at in
    rw (← c.self.view_is)
    record {
      ok = moves_left g.N.OfficeName.rings g.N.OfficeName.start s.core s.ends.items s.book.total c.args.client c.args.left end at t.new.core t.new.end t.result k;
      next = next;
      used = used_after s.core t.new.core c.args.client c.args.left t.result there c.self.invariant.legal next;
      err = first_err (Widens s.core c.args.client c.args.left t.new.core) (t.new.end ≡ end) t.result t.ensures.err;
      others = stay_left {A = g.row.A.Denot} s.ends.items c.args.client t.new.end;
      full = t.ensures.full;
      total = refl;
      boxed = there;
    }
