-- What the line asks is done once more, as often as it asks it, and then its answer ends.
use Rattle.std.proofs.Common.{◌≡◌, ◌∙◌, List, [], ◌++◌, Option, refl, sym, ap, arith, subst}
use Rattle.std.specs.declared.alloc.Global.{Global}
use Rattle.fleet_world.specs.Keeps.{talk}
use Rattle.fleet_talk.specs.declared.ends.Settings.{Settings}
use Rattle.fleet_talk.specs.declared.fault.TalkFault.TheVariants.{NoMemory}
use Rattle.fleet_talk.specs.Act.{act_asked, acts_asked, acts_end, times_asked}
use Rattle.fleet_talk.specs.Acts.{Does}
use Rattle.fleet_talk.specs.Chapters.{ChapterView, KeepsTurned}
use Rattle.fleet_talk.specs.Lines.{line_shown}
use Rattle.fleet_talk.specs.Open.{fleet_of}
use Rattle.fleet_talk.specs.Said.{end_said}
use Rattle.fleet_talk.proofs.Backing.{answer-backed, backed-asked, cut-at, line-backed, never-cut, none-backed}
use Rattle.fleet_talk.proofs.Breaking.{until-after, until-none, until-times, until-times-written}
use Rattle.fleet_talk.proofs.Saying.{at-fault, says-none, says-then, says-written}
use Rattle.fleet_talk.proofs.Keeping.{keeps-same, keeps-then, known-still}
use Rattle.fleet_talk.proofs.Onces.{all-asked, until-asked}
use Rattle.fleet_talk.proofs.Talking.{answered, talks-more}
use Rattle.fleet_talk.proofs.going.answer.Goals as goal

pub loop-init : goal.loop-init
loop-init g c = record {
  talks = ([], (refl, refl), says-none _ _);
  kept = keeps-same (g.S.ChapterSink.kept c.args.ends.now.sink) (talk c.args.fleet.now.session) (talk c.args.fleet.now.session) refl;
  logged = λ chapters stands. none-backed c.args.pen.now.settings.roll (fleet_of c.args.fleet.now) [] (g.W.Write.contents c.args.ends.now.output) c.args.pen.now.out.items chapters (g.S.ChapterSink.journal c.args.ends.now.sink) stands;
  settings = refl;
  input = refl;
}

pub do_once-requires : goal.do_once-requires
do_once-requires g c =
    known-still (g.S.ChapterSink.kept c.args.ends.now.sink) (g.S.ChapterSink.kept c.loop.ends.sink) (talk c.args.fleet.now.session) (talk c.loop.fleet.session) c.args.roominess.now c.loop.invariant.kept c.requires

pub loop-preserved : goal.loop-preserved
loop-preserved g c =
    let (text, talks, says) = c.loop.invariant.talks in
    let (more, did, added) = c.in_ok-do_once.ensures.ok in
    let act = act_asked (line_shown c.args.line) c.args.line.asked in
    let does = subst (λ (st : Settings). Does st.roll (fleet_of c.loop.fleet) act more (fleet_of c.do_once.new.fleet)) c.loop.invariant.settings did in
    record {
      talks = (
        text ++ more,
        talks-more c.args.pen.now.settings.roll (fleet_of c.args.fleet.now) (fleet_of c.loop.fleet) (fleet_of c.do_once.new.fleet) act c.loop.counter text more talks does,
        says-then _ _ _ _ _ _ text more says (says-written _ _ _ _ _ more added.out c.in_ok-tell_if_full.ensures.says),
      );
      kept = subst (λ (known : Option (List (ChapterView Global))). KeepsTurned (g.S.ChapterSink.kept c.args.ends.now.sink) known (talk c.args.fleet.now.session) (talk c.do_once.new.fleet.session)) (sym c.tell_if_full.ensures.kept)
          (keeps-then (g.S.ChapterSink.kept c.args.ends.now.sink) (g.S.ChapterSink.kept c.loop.ends.sink) (g.S.ChapterSink.kept c.do_once.new.sink) (talk c.args.fleet.now.session) (talk c.loop.fleet.session) (talk c.do_once.new.fleet.session) c.loop.invariant.kept c.in_ok-do_once.ensures.kept);
      logged = (line-backed c.args.pen.now.settings.roll (fleet_of c.args.fleet.now) (fleet_of c.loop.fleet) (fleet_of c.do_once.new.fleet) act c.loop.counter (g.W.Write.contents c.args.ends.now.output) (g.W.Write.contents c.loop.ends.output) (g.W.Write.contents c.tell_if_full.new.ends.output)
          c.args.pen.now.out.items c.loop.pen.out.items c.do_once.new.pen.out.items text more (g.S.ChapterSink.journal c.args.ends.now.sink) (g.S.ChapterSink.journal c.loop.ends.sink) (g.S.ChapterSink.journal c.do_once.new.sink) (g.S.ChapterSink.journal c.tell_if_full.new.ends.sink)
          talks says c.loop.invariant.logged does added.out c.in_ok-do_once.ensures.logged c.tell_if_full.ensures.tells);
      settings = c.tell_if_full.ensures.settings ∙ (added.settings ∙ c.loop.invariant.settings);
      input = c.tell_if_full.ensures.input ∙ c.loop.invariant.input;
    }

pub returns-in_err-do_once-clause-broken : goal.returns-in_err-do_once-clause-broken
returns-in_err-do_once-clause-broken g c =
    let (text, talks, says) = c.loop.invariant.talks in
    let line = line_shown c.args.line in
    let act = act_asked line c.args.line.asked in
    let fault = c.in_err-do_once.field-0.0 in
    at-fault _ fault _ c.from_residual.ensures.1
    (until-asked fault c.args.pen.now.settings (fleet_of c.args.fleet.now) line c.times-end.result (g.W.Write.contents c.args.ends.now.output) (g.W.Write.contents c.loop.ends.output) c.args.pen.now.out.items c.do_once.new.pen.out.items c.times-end.ensures
    (until-times fault c.args.pen.now.settings.roll (fleet_of c.args.fleet.now) (fleet_of c.loop.fleet) act c.loop.counter c.times-end.result (g.W.Write.contents c.args.ends.now.output) (g.W.Write.contents c.loop.ends.output) c.args.pen.now.out.items c.loop.pen.out.items c.do_once.new.pen.out.items text c.loop-test.true talks says c.in_err-do_once.ensures.midway c.in_err-do_once.ensures.err.out))

pub returns-in_err-tell_if_full-clause-broken : goal.returns-in_err-tell_if_full-clause-broken
returns-in_err-tell_if_full-clause-broken g c =
    let (text, talks, says) = c.loop.invariant.talks in
    let (more, did, added) = c.in_ok-do_once.ensures.ok in
    let line = line_shown c.args.line in
    let act = act_asked line c.args.line.asked in
    let fault = c.in_err-tell_if_full.field-0.0 in
    let does = subst (λ (st : Settings). Does st.roll (fleet_of c.loop.fleet) act more (fleet_of c.do_once.new.fleet)) c.loop.invariant.settings did in
    at-fault _ fault _ c.from_residual-in_err-tell_if_full.ensures.1
    (until-asked fault c.args.pen.now.settings (fleet_of c.args.fleet.now) line c.times-end.result (g.W.Write.contents c.args.ends.now.output) (g.W.Write.contents c.tell_if_full.new.ends.output) c.args.pen.now.out.items c.tell_if_full.new.pen.out.items c.times-end.ensures
    (until-times-written fault c.args.pen.now.settings.roll (fleet_of c.args.fleet.now) (fleet_of c.loop.fleet) (fleet_of c.do_once.new.fleet) act c.loop.counter c.times-end.result (g.W.Write.contents c.args.ends.now.output) (g.W.Write.contents c.loop.ends.output) (g.W.Write.contents c.tell_if_full.new.ends.output)
    c.args.pen.now.out.items c.loop.pen.out.items c.do_once.new.pen.out.items c.tell_if_full.new.pen.out.items text more c.loop-test.true talks says does added.out c.in_err-tell_if_full.ensures.broken))

pub returns-clause-talks : goal.returns-clause-talks
returns-clause-talks g c =
    let (text, talks, says) = c.loop.invariant.talks in
    let line = line_shown c.args.line in
    let count : c.loop.counter ≡ times_asked c.args.line.asked = omega (arith, c.loop-test.false, c.loop.auto.counter-end, c.times-end.ensures) in
    let p = c.loop.pen.out.items in
    let all = all-asked c.args.pen.now.settings.roll (fleet_of c.args.fleet.now) (fleet_of c.loop.fleet) line c.args.line.asked c.loop.counter text count talks in
    let added = c.in_ok-say_end.ensures.ok.out ∙ ap (λ (st : Settings). p ++ end_said st c.args.line) c.loop.invariant.settings in
    answered c.args.pen.now.settings (fleet_of c.args.fleet.now) (fleet_of c.loop.fleet) c.args.line _ _ c.args.pen.now.out.items p c.say_end.new.self.out.items text all says added

pub returns-in_err-say_end-clause-broken : goal.returns-in_err-say_end-clause-broken
returns-in_err-say_end-clause-broken g c =
    let (text, talks, says) = c.loop.invariant.talks in
    let line = line_shown c.args.line in
    let count : c.loop.counter ≡ times_asked c.args.line.asked = omega (arith, c.loop-test.false, c.loop.auto.counter-end, c.times-end.ensures) in
    let mid = (fleet_of c.loop.fleet) in
    let ends = acts_end c.args.pen.now.settings line in
    let out = (g.W.Write.contents c.loop.ends.output) in
    let all = all-asked c.args.pen.now.settings.roll (fleet_of c.args.fleet.now) mid line c.args.line.asked c.loop.counter text count talks in
    at-fault _ NoMemory _ c.from_residual-in_err-say_end.ensures.1
    (until-after NoMemory c.args.pen.now.settings.roll (fleet_of c.args.fleet.now) mid (acts_asked line c.args.line.asked) ends (g.W.Write.contents c.args.ends.now.output) out out c.args.pen.now.out.items c.loop.pen.out.items c.say_end.new.self.out.items text all says
    (until-none NoMemory c.args.pen.now.settings.roll mid ends out c.loop.pen.out.items c.say_end.new.self.out.items tt c.in_err-say_end.ensures.err.out))

-- ---- what was told follows from entries that the journal has

pub returns-in_err-do_once-clause-cut : goal.returns-in_err-do_once-clause-cut
returns-in_err-do_once-clause-cut g c =
    let fault = c.in_err-do_once.field-0.0 in
    cut-at _ fault _ c.from_residual.ensures.1 (λ same. absurd (never-cut fault c.in_err-do_once.ensures.midway same))

pub returns-in_err-tell_if_full-clause-cut : goal.returns-in_err-tell_if_full-clause-cut
returns-in_err-tell_if_full-clause-cut g c =
    let (text, talks, says) = c.loop.invariant.talks in
    let (more, did, added) = c.in_ok-do_once.ensures.ok in
    let line = line_shown c.args.line in
    let act = act_asked line c.args.line.asked in
    let fault = c.in_err-tell_if_full.field-0.0 in
    let does = subst (λ (st : Settings). Does st.roll (fleet_of c.loop.fleet) act more (fleet_of c.do_once.new.fleet)) c.loop.invariant.settings did in
    cut-at _ fault _ c.from_residual-in_err-tell_if_full.ensures.1 (λ same.
    backed-asked c.args.pen.now.settings (fleet_of c.args.fleet.now) (fleet_of c.do_once.new.fleet) line c.loop.counter c.times-end.result (g.W.Write.contents c.args.ends.now.output) (g.W.Write.contents c.tell_if_full.new.ends.output) c.args.pen.now.out.items (g.S.ChapterSink.journal c.args.ends.now.sink) (g.S.ChapterSink.journal c.tell_if_full.new.ends.sink) c.loop-test.true c.times-end.ensures
    (line-backed c.args.pen.now.settings.roll (fleet_of c.args.fleet.now) (fleet_of c.loop.fleet) (fleet_of c.do_once.new.fleet) act c.loop.counter (g.W.Write.contents c.args.ends.now.output) (g.W.Write.contents c.loop.ends.output) (g.W.Write.contents c.tell_if_full.new.ends.output)
    c.args.pen.now.out.items c.loop.pen.out.items c.do_once.new.pen.out.items text more (g.S.ChapterSink.journal c.args.ends.now.sink) (g.S.ChapterSink.journal c.loop.ends.sink) (g.S.ChapterSink.journal c.do_once.new.sink) (g.S.ChapterSink.journal c.tell_if_full.new.ends.sink)
    talks says c.loop.invariant.logged does added.out c.in_ok-do_once.ensures.logged c.tell_if_full.ensures.tells))

pub returns-in_err-say_end-clause-cut : goal.returns-in_err-say_end-clause-cut
returns-in_err-say_end-clause-cut g c = cut-at _ NoMemory _ c.from_residual-in_err-say_end.ensures.1 (λ same. absurd (never-cut NoMemory tt same))

pub returns-clause-logged : goal.returns-clause-logged
returns-clause-logged g c =
    let (text, talks, says) = c.loop.invariant.talks in
    let line = line_shown c.args.line in
    let count : c.loop.counter ≡ times_asked c.args.line.asked = omega (arith, c.loop-test.false, c.loop.auto.counter-end, c.times-end.ensures) in
    answer-backed c.args.pen.now.settings (fleet_of c.args.fleet.now) (fleet_of c.loop.fleet) line c.loop.counter (g.W.Write.contents c.args.ends.now.output) (g.W.Write.contents c.loop.ends.output) c.args.pen.now.out.items c.loop.pen.out.items text (g.S.ChapterSink.journal c.args.ends.now.sink) (g.S.ChapterSink.journal c.loop.ends.sink)
    count talks says c.loop.invariant.logged
