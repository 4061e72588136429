use Rattle.fleet_office.specs.Views.{core}
use Rattle.std.proofs.Common.{◌≡◌, ◌<◌, ◌++◌, length, length-append, set, Some, refl, sym, ◌∙◌, ap, subst, arith}
use Rattle.std.specs.Prelude.{slice_get}
use Rattle.std.proofs.lemmas.Option.{slice_get_read, slice_get_within}
use Rattle.std.proofs.Math.ListN.{length-set}
use Rattle.fleet_office.proofs.Laws.{lawful_same}
use Rattle.fleet_office.proofs.Meeting.{others_set, is_set}
use Rattle.fleet_office.proofs.hall_state.HallState.beside.Goals as goal

same_name : {A : Type 0} (a b : A) → Some a ≡ Some b → a ≡ b
same_name a b e = cc

pub beside-requires : goal.beside-requires
beside-requires g c =
    let s = c.self.inside in
    let inside : c.number-c.result < length s.ends.items = omega (arith, slice_get_within g.N.OfficeName.rings c.args.client.now.number c.args.client.now.lane c.requires, c.self.invariant.ring_count, c.number-c.ensures) in
    let at : slice_get s.ends.items c.number-c.result ≡ Some c.index_mut-end.result.now = slice_get_read s.ends.items (length s.ends.items) c.number-c.result c.index_mut-end.result.now refl inside c.index_mut-end.ensures.value in
    same_name c.args.client.now.lane c.index_mut-end.result.now.lane (sym c.requires ∙ ap (slice_get g.N.OfficeName.rings) (sym c.number-c.ensures) ∙ (c.self.invariant.laws c.number-c.result c.index_mut-end.result.now at).lane)

pub invariant_of-self : goal.invariant_of-self
invariant_of-self g c =
    let s = c.self.inside in
    let inside : c.number-c.result < length s.ends.items = omega (arith, slice_get_within g.N.OfficeName.rings c.args.client.now.number c.args.client.now.lane c.requires, c.self.invariant.ring_count, c.number-c.ensures) in
    let at : slice_get s.ends.items c.number-c.result ≡ Some c.index_mut-end.result.now = slice_get_read s.ends.items (length s.ends.items) c.number-c.result c.index_mut-end.result.now refl inside c.index_mut-end.ensures.value in
    let h = c.beside.ensures.hall in
    lawful_same g.N.OfficeName.rings g.N.OfficeName.start s.core s.ends.items s.book.total c.number-c.result c.index_mut-end.result.now c.beside.new.self at (ap (λ x. x.lane) h) (ap (λ x. x.taken) h) (ap (λ x. x.given) h) c.self.invariant

pub returns-clause-others : goal.returns-clause-others
returns-clause-others g c =
    let s = c.self.inside in
    rw (← c.self.view_is, ← c.number-c.ensures) (others_set s.ends.items c.number-c.result c.beside.new.self)

pub returns-clause-there : goal.returns-clause-there
returns-clause-there g c =
    let s = c.self.inside in
    omega (arith, length-set s.ends.items c.number-c.result c.beside.new.self, slice_get_within g.N.OfficeName.rings c.args.client.now.number c.args.client.now.lane c.requires, c.self.invariant.ring_count)

pub returns-clause-left : goal.returns-clause-left
returns-clause-left g c = λ e at.
    let s = c.self.inside in
    let end = c.index_mut-end.result.now in
    let inside : c.number-c.result < length s.ends.items = omega (arith, slice_get_within g.N.OfficeName.rings c.args.client.now.number c.args.client.now.lane c.requires, c.self.invariant.ring_count, c.number-c.ensures) in
    let there : slice_get s.ends.items c.number-c.result ≡ Some end = slice_get_read s.ends.items (length s.ends.items) c.number-c.result end refl inside c.index_mut-end.ensures.value in
    let here : slice_get s.ends.items c.args.client.now.number ≡ Some e = subst (λ v. slice_get v.ends c.args.client.now.number ≡ Some e) (sym c.self.view_is) at in
    let own : end ≡ e = same_name end e (sym there ∙ ap (slice_get s.ends.items) c.number-c.ensures ∙ here) in
    let taken : c.beside.new.self.taken ≡ e.taken = ap (λ x. x.taken) c.beside.ensures.hall ∙ ap (λ x. x.taken) own in
    let all : c.beside.new.self.taken ++ c.beside.new.self.known ≡ c.args.client.now.sent = c.beside.ensures.orders ∙ ap (λ x. x.sent) c.beside.ensures.client in
    omega (arith, ap length taken, ap length all, length-append c.beside.new.self.taken c.beside.new.self.known, c.known.ensures)

pub returns-clause-met : goal.returns-clause-met
returns-clause-met g c = λ e at.
    let s = c.self.inside in
    let is = is_set s.ends.items c.number-c.result c.beside.new.self e (ap (slice_get (set s.ends.items c.number-c.result c.beside.new.self)) c.number-c.ensures ∙ at) in
    rw (← is) (c.beside.ensures.orders, c.beside.ensures.notices, c.known.ensures)

pub index_mut-end-requires : goal.index_mut-end-requires
index_mut-end-requires g c =
    omega (arith, slice_get_within g.N.OfficeName.rings c.args.client.now.number c.args.client.now.lane c.requires, c.self.invariant.ring_count, c.number-c.ensures, c.self.inside.ends.ok.0)

pub returns-clause-client : goal.returns-clause-client
returns-clause-client g c = ap core c.beside.ensures.client

pub returns-clause-world : goal.returns-clause-world
returns-clause-world g c = rw (← c.self.view_is) (refl, refl)
