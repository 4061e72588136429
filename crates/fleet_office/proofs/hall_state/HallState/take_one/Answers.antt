use Rattle.std.proofs.Common.{◌≡◌, ◌<◌, length, Some, refl, sym, subst, arith}
use Rattle.std.specs.Prelude.{slice_get}
use Rattle.std.proofs.lemmas.Option.{slice_get_read}
use Rattle.fleet_office.proofs.TakeSteps.{Taken, kept, told, untold, shown, shown-both}
use Rattle.fleet_core.specs.Core.{HasRoom, HasNoRoom, HasNoEntries}
use Rattle.fleet_core.specs.declared.faults.TakeFault.TheVariants.{MailboxFull, ChapterFull}
use Rattle.fleet_office.proofs.hall_state.HallState.take_one.Goals as goal

pub index_mut-requires : goal.index_mut-requires
index_mut-requires g c =
    let inside = subst (λ v. c.args.client < length v.ends) (sym c.self.view_is) c.requires in
    omega (arith, inside, c.self.inside.ends.ok.0)

pub take_from-requires : goal.take_from-requires
take_from-requires g c =
    let inside = subst (λ v. c.args.client < length v.ends) (sym c.self.view_is) c.requires in
    subst (λ n. c.args.client < n) c.self.invariant.end_count inside

pub invariant_of-self : goal.invariant_of-self
invariant_of-self g c =
    let s = c.self.inside in
    let inside = subst (λ v. c.args.client < length v.ends) (sym c.self.view_is) c.requires in
    let at : slice_get s.ends.items c.args.client ≡ Some c.index_mut.result.now = slice_get_read s.ends.items (length s.ends.items) c.args.client c.index_mut.result.now refl inside c.index_mut.ensures.value in
    let k : Taken s.core c.take_from.new.core c.index_mut.result.now c.take_from.new.end c.args.client c.take_from.result = record { ok = c.take_from.ensures.ok; err = c.take_from.ensures.err } in
    kept g.N.OfficeName.rings g.N.OfficeName.start s.core s.ends.items s.book.total c.args.client c.index_mut.result.now at c.take_from.new.core c.take_from.new.end c.take_from.result k c.self.invariant

pub returns : goal.returns
returns g c =
    let s = c.self.inside in
    let t = c.take_from in
    let end = c.index_mut.result.now in
    let inside = subst (λ v. c.args.client < length v.ends) (sym c.self.view_is) c.requires in
    let at : slice_get s.ends.items c.args.client ≡ Some end = slice_get_read s.ends.items (length s.ends.items) c.args.client end refl inside c.index_mut.ensures.value in
    let k : Taken s.core t.new.core end t.new.end c.args.client t.result = record { ok = t.ensures.ok; err = t.ensures.err } in
    rw (← c.self.view_is)
    record {
      ok = told g.N.OfficeName.rings g.N.OfficeName.start s.core s.ends.items s.book.total c.args.client end at t.new.core t.new.end t.result k;
      mailbox_full = shown g.N.OfficeName.rings g.N.OfficeName.start s.core s.ends.items s.book.total c.args.client end at t.new.core t.new.end t.result MailboxFull (HasNoRoom s.core c.args.client) t.ensures.mailbox_full;
      chapter_full = shown-both g.N.OfficeName.rings g.N.OfficeName.start s.core s.ends.items s.book.total c.args.client end at t.new.core t.new.end t.result ChapterFull (HasRoom s.core c.args.client) (HasNoEntries s.core) t.ensures.chapter_full;
      err = untold g.N.OfficeName.rings g.N.OfficeName.start s.core s.ends.items s.book.total c.args.client end at t.new.core t.new.end t.result k;
    }
