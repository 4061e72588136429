-- The chapter was handed out, or it was the last.
use Rattle.std.proofs.Common.{◌∙◌, ◌<◌, ℕ, List, length, refl, sym, ap, subst, arith, true, false}
use Rattle.std.proofs.lemmas.Result.{on_ok_weaker}
use Rattle.fleet_talk.specs.Said.{under}
use Rattle.fleet_talk.specs.Says.{marked}
use Rattle.fleet_text.specs.Answers.{chapter_refused_line}
use Rattle.live_fleet.specs.declared.rest.Rest.{Rest}
use Rattle.live_fleet.specs.declared.rest.Rest.TheVariants.{Keeping}
use Rattle.live_fleet.specs.Answering.{Answers}
use Rattle.live_fleet.specs.Asking as asking
use Rattle.live_fleet.specs.Party.{Stage, resting, stage_of, with_at}
use Rattle.live_fleet.specs.Went.{At, at_of}
use Rattle.live_fleet.proofs.Answered.{read-there, with-new}
use Rattle.live_fleet.proofs.Steps.{at-hand}
use Rattle.live_fleet.proofs.party.Party.ask_chapter.Goals as goal

pub returns-then-branch : goal.returns-then-branch
returns-then-branch g c =
    let s : Stage = stage_of c.args.self.now c.args.out.now in
    let after : At = at_of c.hand_out.new.fleet c.hand_out.new.out in
    let read = c.index_mut.result.now in
    let left : Rest = Keeping c.in_ok-mark.mark c.chapter-chapter.result.now.number c.len-entries.result in
    let less : c.args.place.to < length s.speakers = omega (arith, c.requires.there, c.args.self.now.speakers.ok.0) in
    record {
      ok = λ sp there. let (acts, hands) = at-hand c.in_ok-hand_out.field-0 s.at after true c.in_ok-hand_out.ensures.ok c.if-branch.true in (
        acts,
        asking.handed hands left
            (c.in_ok-mark.ensures, c.chapter-chapter.ensures.number, c.len-entries.ensures ∙ (c.chapter-chapter.result.now.entries.ok.0 ∙ ap (λ h. length h.entries) c.chapter-chapter.ensures.history))
            (with-new (with_at s after) c.args.place.to sp read (resting read left) left (read-there s.speakers c.args.place.to read sp less c.index_mut.ensures.value there) refl),
      );
    }

pub returns : goal.returns
returns g c =
    let s : Stage = stage_of c.args.self.now c.args.out.now in
    let after : At = at_of c.hand_out.new.fleet c.hand_out.new.out in
    let t : Stage = stage_of c.say.new.self c.say.new.out in
    let mark = under c.args.place.line.mark in
    record {
      ok = on_ok_weaker c.say.result
          (λ it sp there. let (none, (last, is_none, stays)) = at-hand c.in_ok-hand_out.field-0 s.at after false c.in_ok-hand_out.ensures.ok c.if-branch.false in let (acts, answers) = it sp there in (
            acts,
            asking.last last (subst (λ (a : At). Answers c.args.place.to sp (marked mark chapter_refused_line) (with_at s a) acts t) stays (subst (λ (l : List ℕ). Answers c.args.place.to sp (marked mark l) (with_at s after) acts t) c.chapter_refused_line.ensures answers)),
          )) c.say.ensures.ok;
    }
