-- The next notice was told, or there was none, or no room.
use Rattle.std.proofs.Common.{◌≡◌, ◌∙◌, ◌<◌, ℕ, List, length, map, refl, sym, ap, subst, arith, Vec, Global}
use Rattle.std.proofs.lemmas.List.{length-map}
use Rattle.fleet_book.specs.declared.event.Event.TheVariants.{Collect}
use Rattle.fleet_history.specs.declared.history.Chapter.{Chapter}
use Rattle.fleet_history.specs.History.{clients}
use Rattle.fleet_talk.specs.Chapters.{chapter_shown}
use Rattle.fleet_world.specs.declared.reply.Reply.{Reply}
use Rattle.fleet_world.specs.Keeps.{talk}
use Rattle.fleet_world.specs.Talk.{TalkStep}
use Rattle.live_fleet.specs.Out.{out_of, text_at}
use Rattle.live_fleet.specs.Went.{At, at_of}
use Rattle.live_fleet.proofs.Tells.{not-full, tells-all, tells-full, tells-none, tells-one, was-collected}
use Rattle.live_fleet.proofs.telling.tell_next.Goals as goal

pub returns-then-is_full-clause-ok : goal.returns-then-is_full-clause-ok
returns-then-is_full-clause-ok g c = tells-full c.args.to c.args.client (at_of c.args.fleet.now c.args.out.now) (c.is_full.ensures.0 c.if-is_full.true)

pub returns-then-has_no_notice-clause-ok : goal.returns-then-has_no_notice-clause-ok
returns-then-has_no_notice-clause-ok g c = tells-none c.args.to c.args.client (at_of c.args.fleet.now c.args.out.now) (c.has_no_notice.ensures.0 c.if-has_no_notice.true)

pub returns-in_ok-note-in-Some-clause-ok : goal.returns-in_ok-note-in-Some-clause-ok
returns-in_ok-note-in-Some-clause-ok g c =
    let a : At = at_of c.args.fleet.now c.args.out.now in
    let m : At = record { fleet = record { talk = talk c.step.new.self; met = c.args.fleet.now.limited; recalls = c.args.fleet.now.recalls }; out = out_of c.args.out.now } in
    let b : At = record { fleet = record { talk = talk c.step-2.new.self; met = c.args.fleet.now.limited; recalls = c.note.new.self }; out = out_of c.say_notice.new.out } in
    let size = length-map c.args.out.now.texts.items (λ (t : Vec ℕ Global). t.items) in
    let inside : c.args.to < length a.out.texts = omega (arith, c.requires.there, c.args.out.now.texts.ok.0, size) in
    let reply = c.in_ok-step.field-0 in
    let collect = subst (λ (r : Reply). TalkStep m.fleet.talk (Collect c.args.client) r b.fleet.talk) (was-collected reply c.in-Some.notice (sym c.collected.ensures ∙ c.in-Some.is)) c.in_ok-step.ensures.step in
    tells-one c.args.to c.args.client a m b b c.in_ok-_given._given c.in-Some.notice inside (not-full (text_at a.out c.args.to) c.is_full.result c.is_full.ensures c.if-is_full.false)
    c.in_ok-say_notice-in-Some.ensures.short c.in_ok-_given.ensures.step refl refl refl collect refl c.in_ok-note-in-Some.ensures.ok c.in_ok-say_notice-in-Some.ensures.texts
    (ap (λ (v : Vec (Chapter Global) Global). map chapter_shown v.items) c.say_notice.ensures.chapters)

pub returns-in-None-clause-ok : goal.returns-in-None-clause-ok
returns-in-None-clause-ok g c =
    let a : At = at_of c.args.fleet.now c.args.out.now in
    let m : At = record { fleet = record { talk = talk c.step.new.self; met = c.args.fleet.now.limited; recalls = c.args.fleet.now.recalls }; out = out_of c.args.out.now } in
    let b : At = record { fleet = record { talk = talk c.step-2.new.self; met = c.args.fleet.now.limited; recalls = c.args.fleet.now.recalls }; out = out_of c.args.out.now } in
    let count : length a.fleet.talk.clients ≡ clients a.fleet.talk.world.history = omega (arith, c.args.fleet.now.session.count, c.args.fleet.now.session.waiting.ok.0) in
    tells-all c.args.to c.args.client a m b c.in_ok-_given._given c.in_ok-step.field-0 count c.in_ok-_given.ensures.step refl refl refl c.in_ok-step.ensures.step refl refl refl (sym c.collected.ensures ∙ c.in-None.is)
