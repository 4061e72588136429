-- A line of an open fleet, and where the conversation ends.
use Rattle.std.proofs.Common.{◌∙◌, ◌∷◌, ℕ, List, Option, IfSome, refl, sym, ap, subst}
use Rattle.std.specs.Io.Buffered.{reader_remaining}
use Rattle.std.specs.declared.alloc.Global.{Global}
use Rattle.fleet_world.specs.Keeps.{talk}
use Rattle.fleet_talk.specs.declared.ends.Settings.{Settings}
use Rattle.fleet_talk.specs.declared.fault.TalkFault.TheVariants.{Input}
use Rattle.fleet_talk.specs.Act.{acts_from, acts_on}
use Rattle.fleet_talk.specs.Acts.{Talks}
use Rattle.fleet_talk.specs.Door.{line_let_in}
use Rattle.fleet_talk.specs.Chapters.{ChapterView, KeepsTurned}
use Rattle.fleet_talk.specs.Heard.{heard_lines, IsNext}
use Rattle.fleet_talk.specs.Lines.{line_shown}
use Rattle.fleet_talk.specs.Open.{fleet_of}
use Rattle.fleet_talk.specs.Talked.{TalksUntil}
use Rattle.fleet_talk.specs.Backed.{AllBacked, PartBacked}
use Rattle.fleet_talk.proofs.Backing.{cut-at, never-cut}
use Rattle.fleet_talk.proofs.OnwardBacked.{logged-broken, logged-end, logged-more, logged-none, logged-over, logged-unwritten}
use Rattle.fleet_talk.proofs.Onward.{goes-none, goes-fault, goes-over, goes-broken, goes-unwritten, goes-unread, goes-end, goes-more}
use Rattle.fleet_talk.proofs.Saying.{at-fault}
use Rattle.fleet_bridge.specs.Roominess.{AreRoomyFor}
use Rattle.fleet_talk.proofs.Keeping.{keeps-same, keeps-then, known-still}
use Rattle.fleet_talk.proofs.going.go_on.Goals as goal

pub loop-number-init : goal.loop-number-init
loop-number-init g c = record { goes = goes-none c.args.pen.now.settings c.args.entrance.door.now.refused.marks.items (fleet_of c.args.fleet.now) c.args.entrance.first c.args.bytes.now.items (reader_remaining g.I.Read.remaining c.args.ends.now.input) (g.W.Write.contents c.args.ends.now.output) c.args.pen.now.out.items; kept = keeps-same (g.S.ChapterSink.kept c.args.ends.now.sink) (talk c.args.fleet.now.session) (talk c.args.fleet.now.session) refl; logged = logged-none c.args.pen.now.settings c.args.entrance.door.now.refused.marks.items (fleet_of c.args.fleet.now) (g.S.ChapterSink.journal c.args.ends.now.sink) c.args.entrance.first c.args.bytes.now.items (reader_remaining g.I.Read.remaining c.args.ends.now.input) (g.W.Write.contents c.args.ends.now.output) c.args.pen.now.out.items; settings = refl }

pub returns-then-is_quit-clause-talks : goal.returns-then-is_quit-clause-talks
returns-then-is_quit-clause-talks g c = goes-over c.args.pen.now.settings c.args.entrance.door.now.refused.marks.items (fleet_of c.args.fleet.now) (λ xs. acts_from c.args.pen.now.settings c.args.entrance.door.now.refused.marks.items c.args.entrance.first (c.args.bytes.now.items ∷ heard_lines xs)) (reader_remaining g.I.Read.remaining c.args.ends.now.input) (reader_remaining g.I.Read.remaining c.loop-number.ends.input) (fleet_of c.loop-number.fleet) c.loop-number.number c.loop-number.bytes.items (g.W.Write.contents c.args.ends.now.output) (g.W.Write.contents c.loop-number.ends.output) c.args.pen.now.out.items c.loop-number.pen.out.items c.loop-number.invariant.goes (line_shown c.line_let_in-line.result) (c.line_let_in-line.ensures ∙ ap (line_let_in c.args.entrance.door.now.refused.marks.items c.loop-number.number) c.deref.ensures.value) (sym c.is_quit.ensures ∙ c.if-is_quit.true)

pub returns-in_err-answer-clause-broken : goal.returns-in_err-answer-clause-broken
returns-in_err-answer-clause-broken g c =
    let fault = c.in_err-answer.field-0.0 in
    at-fault _ fault _ c.from_residual.ensures.1
    (goes-broken c.args.pen.now.settings c.args.entrance.door.now.refused.marks.items (fleet_of c.args.fleet.now) (λ xs. acts_from c.args.pen.now.settings c.args.entrance.door.now.refused.marks.items c.args.entrance.first (c.args.bytes.now.items ∷ heard_lines xs)) (reader_remaining g.I.Read.remaining c.args.ends.now.input) (reader_remaining g.I.Read.remaining c.loop-number.ends.input) (fleet_of c.loop-number.fleet) c.loop-number.number c.loop-number.bytes.items (g.W.Write.contents c.args.ends.now.output) (g.W.Write.contents c.loop-number.ends.output) c.args.pen.now.out.items c.loop-number.pen.out.items c.loop-number.invariant.goes (line_shown c.line_let_in-line.result) fault (g.W.Write.contents c.answer.new.ends.output) c.answer.new.pen.out.items (c.line_let_in-line.ensures ∙ ap (line_let_in c.args.entrance.door.now.refused.marks.items c.loop-number.number) c.deref.ensures.value) (sym c.is_quit.ensures ∙ c.if-is_quit.false)
    (subst (λ (st : Settings). TalksUntil fault st.roll (fleet_of c.loop-number.fleet) (acts_on st (line_shown c.line_let_in-line.result)) (g.W.Write.contents c.loop-number.ends.output) (g.W.Write.contents c.answer.new.ends.output) c.loop-number.pen.out.items c.answer.new.pen.out.items) c.loop-number.invariant.settings c.in_err-answer.ensures.broken))

pub returns-in_err-tell_if_due-clause-broken : goal.returns-in_err-tell_if_due-clause-broken
returns-in_err-tell_if_due-clause-broken g c =
    let fault = c.in_err-tell_if_due.field-0.0 in
    let (text, talks, says) = c.in_ok-answer.ensures.talks in
    at-fault _ fault _ c.from_residual-in_err-tell_if_due.ensures.1
    (goes-unwritten c.args.pen.now.settings c.args.entrance.door.now.refused.marks.items (fleet_of c.args.fleet.now) (λ xs. acts_from c.args.pen.now.settings c.args.entrance.door.now.refused.marks.items c.args.entrance.first (c.args.bytes.now.items ∷ heard_lines xs)) (reader_remaining g.I.Read.remaining c.args.ends.now.input) (reader_remaining g.I.Read.remaining c.loop-number.ends.input) (fleet_of c.loop-number.fleet) c.loop-number.number c.loop-number.bytes.items (g.W.Write.contents c.args.ends.now.output) (g.W.Write.contents c.loop-number.ends.output) c.args.pen.now.out.items c.loop-number.pen.out.items c.loop-number.invariant.goes (line_shown c.line_let_in-line.result) (c.line_let_in-line.ensures ∙ ap (line_let_in c.args.entrance.door.now.refused.marks.items c.loop-number.number) c.deref.ensures.value) (sym c.is_quit.ensures ∙ c.if-is_quit.false) (fleet_of c.answer.new.fleet) (g.W.Write.contents c.answer.new.ends.output) c.answer.new.pen.out.items text (subst (λ (st : Settings). Talks st.roll (fleet_of c.loop-number.fleet) (acts_on st (line_shown c.line_let_in-line.result)) text (fleet_of c.answer.new.fleet)) c.loop-number.invariant.settings talks) says fault (g.W.Write.contents c.tell_if_due.new.ends.output) c.tell_if_due.new.pen.out.items c.in_err-tell_if_due.ensures.broken)

pub returns-in_err-next_line-clause-broken : goal.returns-in_err-next_line-clause-broken
returns-in_err-next_line-clause-broken g c =
    let fault = c.in_err-next_line.field-0.0 in
    let (text, talks, says) = c.in_ok-answer.ensures.talks in
    at-fault _ fault _ c.from_residual-in_err-next_line.ensures.1
    (goes-unread c.args.pen.now.settings c.args.entrance.door.now.refused.marks.items (fleet_of c.args.fleet.now) (λ xs. acts_from c.args.pen.now.settings c.args.entrance.door.now.refused.marks.items c.args.entrance.first (c.args.bytes.now.items ∷ heard_lines xs)) (reader_remaining g.I.Read.remaining c.args.ends.now.input) (reader_remaining g.I.Read.remaining c.loop-number.ends.input) (fleet_of c.loop-number.fleet) c.loop-number.number c.loop-number.bytes.items (g.W.Write.contents c.args.ends.now.output) (g.W.Write.contents c.loop-number.ends.output) c.args.pen.now.out.items c.loop-number.pen.out.items c.loop-number.invariant.goes (line_shown c.line_let_in-line.result) (c.line_let_in-line.ensures ∙ ap (line_let_in c.args.entrance.door.now.refused.marks.items c.loop-number.number) c.deref.ensures.value) (sym c.is_quit.ensures ∙ c.if-is_quit.false) (fleet_of c.answer.new.fleet) (g.W.Write.contents c.answer.new.ends.output) c.answer.new.pen.out.items text (subst (λ (st : Settings). Talks st.roll (fleet_of c.loop-number.fleet) (acts_on st (line_shown c.line_let_in-line.result)) text (fleet_of c.answer.new.fleet)) c.loop-number.invariant.settings talks) says (g.W.Write.contents c.tell_if_due.new.ends.output) c.tell_if_due.new.pen.out.items c.in_ok-tell_if_due.ensures.says fault c.in_err-next_line.ensures.midway)

pub returns-then-not-branch-clause-talks : goal.returns-then-not-branch-clause-talks
returns-then-not-branch-clause-talks g c =
    let (text, talks, says) = c.in_ok-answer.ensures.talks in
    let input = c.tell_if_due.ensures.input ∙ c.answer.ensures.input in
    let next = subst (λ (o : Option (List ℕ)). IfSome o (λ ys. IsNext ys (reader_remaining g.I.Read.remaining c.next_line.new.input) c.in_ok-next_line.field-0 c.next_line.new.bytes.items)) (ap (reader_remaining g.I.Read.remaining) input) c.in_ok-next_line.ensures.next in
    goes-end c.args.pen.now.settings c.args.entrance.door.now.refused.marks.items (fleet_of c.args.fleet.now) (λ xs. acts_from c.args.pen.now.settings c.args.entrance.door.now.refused.marks.items c.args.entrance.first (c.args.bytes.now.items ∷ heard_lines xs)) (reader_remaining g.I.Read.remaining c.args.ends.now.input) (reader_remaining g.I.Read.remaining c.loop-number.ends.input) (fleet_of c.loop-number.fleet) c.loop-number.number c.loop-number.bytes.items (g.W.Write.contents c.args.ends.now.output) (g.W.Write.contents c.loop-number.ends.output) c.args.pen.now.out.items c.loop-number.pen.out.items c.loop-number.invariant.goes (line_shown c.line_let_in-line.result) (c.line_let_in-line.ensures ∙ ap (line_let_in c.args.entrance.door.now.refused.marks.items c.loop-number.number) c.deref.ensures.value) (sym c.is_quit.ensures ∙ c.if-is_quit.false) (fleet_of c.answer.new.fleet) (g.W.Write.contents c.answer.new.ends.output) c.answer.new.pen.out.items text (subst (λ (st : Settings). Talks st.roll (fleet_of c.loop-number.fleet) (acts_on st (line_shown c.line_let_in-line.result)) text (fleet_of c.answer.new.fleet)) c.loop-number.invariant.settings talks) says (g.W.Write.contents c.tell_if_due.new.ends.output) c.tell_if_due.new.pen.out.items c.in_ok-tell_if_due.ensures.says (reader_remaining g.I.Read.remaining c.next_line.new.input) c.in_ok-next_line.field-0 c.next_line.new.bytes.items next c.if-not-branch.true

pub returns-then-not-branch-clause-kept : goal.returns-then-not-branch-clause-kept
returns-then-not-branch-clause-kept g c = keeps-then (g.S.ChapterSink.kept c.args.ends.now.sink) (g.S.ChapterSink.kept c.loop-number.ends.sink) (g.S.ChapterSink.kept c.tell_if_due.new.ends.sink) (talk c.args.fleet.now.session) (talk c.loop-number.fleet.session) (talk c.answer.new.fleet.session) c.loop-number.invariant.kept
    (subst (λ (known : Option (List (ChapterView Global))). KeepsTurned (g.S.ChapterSink.kept c.loop-number.ends.sink) known (talk c.loop-number.fleet.session) (talk c.answer.new.fleet.session)) (sym c.tell_if_due.ensures.kept) c.in_ok-answer.ensures.kept)

pub loop-number-preserved : goal.loop-number-preserved
loop-number-preserved g c =
    let (text, talks, says) = c.in_ok-answer.ensures.talks in
    let input = c.tell_if_due.ensures.input ∙ c.answer.ensures.input in
    let next = subst (λ (o : Option (List ℕ)). IfSome o (λ ys. IsNext ys (reader_remaining g.I.Read.remaining c.next_line.new.input) c.in_ok-next_line.field-0 c.next_line.new.bytes.items)) (ap (reader_remaining g.I.Read.remaining) input) c.in_ok-next_line.ensures.next in
    record {
      goes = goes-more c.args.pen.now.settings c.args.entrance.door.now.refused.marks.items (fleet_of c.args.fleet.now) (λ xs. acts_from c.args.pen.now.settings c.args.entrance.door.now.refused.marks.items c.args.entrance.first (c.args.bytes.now.items ∷ heard_lines xs)) (reader_remaining g.I.Read.remaining c.args.ends.now.input) (reader_remaining g.I.Read.remaining c.loop-number.ends.input) (fleet_of c.loop-number.fleet) c.loop-number.number c.loop-number.bytes.items (g.W.Write.contents c.args.ends.now.output) (g.W.Write.contents c.loop-number.ends.output) c.args.pen.now.out.items c.loop-number.pen.out.items c.loop-number.invariant.goes (line_shown c.line_let_in-line.result) (c.line_let_in-line.ensures ∙ ap (line_let_in c.args.entrance.door.now.refused.marks.items c.loop-number.number) c.deref.ensures.value) (sym c.is_quit.ensures ∙ c.if-is_quit.false) (fleet_of c.answer.new.fleet) (g.W.Write.contents c.answer.new.ends.output) c.answer.new.pen.out.items text (subst (λ (st : Settings). Talks st.roll (fleet_of c.loop-number.fleet) (acts_on st (line_shown c.line_let_in-line.result)) text (fleet_of c.answer.new.fleet)) c.loop-number.invariant.settings talks) says (g.W.Write.contents c.tell_if_due.new.ends.output) c.tell_if_due.new.pen.out.items c.in_ok-tell_if_due.ensures.says (reader_remaining g.I.Read.remaining c.next_line.new.input) c.in_ok-next_line.field-0 c.next_line.new.bytes.items next c.if-not-branch.false;
      logged = logged-more c.args.pen.now.settings c.args.entrance.door.now.refused.marks.items (fleet_of c.args.fleet.now) (g.S.ChapterSink.journal c.args.ends.now.sink) (λ xs. acts_from c.args.pen.now.settings c.args.entrance.door.now.refused.marks.items c.args.entrance.first (c.args.bytes.now.items ∷ heard_lines xs)) (reader_remaining g.I.Read.remaining c.args.ends.now.input) (reader_remaining g.I.Read.remaining c.loop-number.ends.input) (fleet_of c.loop-number.fleet) c.loop-number.number c.loop-number.bytes.items (g.W.Write.contents c.args.ends.now.output) (g.W.Write.contents c.loop-number.ends.output) c.args.pen.now.out.items c.loop-number.pen.out.items (g.S.ChapterSink.journal c.loop-number.ends.sink) c.loop-number.invariant.logged (line_shown c.line_let_in-line.result) (c.line_let_in-line.ensures ∙ ap (line_let_in c.args.entrance.door.now.refused.marks.items c.loop-number.number) c.deref.ensures.value) (sym c.is_quit.ensures ∙ c.if-is_quit.false) (fleet_of c.answer.new.fleet) (g.W.Write.contents c.answer.new.ends.output) (g.W.Write.contents c.tell_if_due.new.ends.output) c.answer.new.pen.out.items text (g.S.ChapterSink.journal c.answer.new.ends.sink) (g.S.ChapterSink.journal c.tell_if_due.new.ends.sink) (subst (λ (st : Settings). Talks st.roll (fleet_of c.loop-number.fleet) (acts_on st (line_shown c.line_let_in-line.result)) text (fleet_of c.answer.new.fleet)) c.loop-number.invariant.settings talks) says (subst (λ (st : Settings). AllBacked st.roll (fleet_of c.loop-number.fleet) (fleet_of c.answer.new.fleet) (acts_on st (line_shown c.line_let_in-line.result)) (g.W.Write.contents c.loop-number.ends.output) (g.W.Write.contents c.answer.new.ends.output) c.loop-number.pen.out.items (g.S.ChapterSink.journal c.loop-number.ends.sink) (g.S.ChapterSink.journal c.answer.new.ends.sink)) c.loop-number.invariant.settings c.in_ok-answer.ensures.logged) c.tell_if_due.ensures.tells c.tell_if_due.new.pen.out.items c.in_ok-tell_if_due.ensures.says (reader_remaining g.I.Read.remaining c.next_line.new.input) c.in_ok-next_line.field-0 c.next_line.new.bytes.items next c.if-not-branch.false;
      kept = keeps-then (g.S.ChapterSink.kept c.args.ends.now.sink) (g.S.ChapterSink.kept c.loop-number.ends.sink) (g.S.ChapterSink.kept c.tell_if_due.new.ends.sink) (talk c.args.fleet.now.session) (talk c.loop-number.fleet.session) (talk c.answer.new.fleet.session) c.loop-number.invariant.kept
          (subst (λ (known : Option (List (ChapterView Global))). KeepsTurned (g.S.ChapterSink.kept c.loop-number.ends.sink) known (talk c.loop-number.fleet.session) (talk c.answer.new.fleet.session)) (sym c.tell_if_due.ensures.kept) c.in_ok-answer.ensures.kept);
      settings = c.tell_if_due.ensures.settings ∙ (c.answer.ensures.settings ∙ c.loop-number.invariant.settings);
    }

pub returns-clause-broken : goal.returns-clause-broken
returns-clause-broken g c = goes-fault c.args.pen.now.settings c.args.entrance.door.now.refused.marks.items (fleet_of c.args.fleet.now) (λ xs. acts_from c.args.pen.now.settings c.args.entrance.door.now.refused.marks.items c.args.entrance.first (c.args.bytes.now.items ∷ heard_lines xs)) (reader_remaining g.I.Read.remaining c.args.ends.now.input) (reader_remaining g.I.Read.remaining c.loop-number.ends.input) (fleet_of c.loop-number.fleet) c.loop-number.number c.loop-number.bytes.items (g.W.Write.contents c.args.ends.now.output) (g.W.Write.contents c.loop-number.ends.output) c.args.pen.now.out.items c.loop-number.pen.out.items c.loop-number.invariant.goes Input tt

pub answer-requires : goal.answer-requires
answer-requires g c =
    subst (λ (xs : List ℕ). AreRoomyFor c.loop-number.fleet.session.world.core.floor xs) (sym c.deref-in-loop-number.ensures.value)
    (known-still (g.S.ChapterSink.kept c.args.ends.now.sink) (g.S.ChapterSink.kept c.loop-number.ends.sink) (talk c.args.fleet.now.session) (talk c.loop-number.fleet.session) c.args.entrance.door.now.roominess.items c.loop-number.invariant.kept c.requires)

-- ---- what was told follows from entries that the journal has

pub returns-then-is_quit-clause-logged : goal.returns-then-is_quit-clause-logged
returns-then-is_quit-clause-logged g c = logged-over c.args.pen.now.settings c.args.entrance.door.now.refused.marks.items (fleet_of c.args.fleet.now) (g.S.ChapterSink.journal c.args.ends.now.sink) (λ xs. acts_from c.args.pen.now.settings c.args.entrance.door.now.refused.marks.items c.args.entrance.first (c.args.bytes.now.items ∷ heard_lines xs)) (reader_remaining g.I.Read.remaining c.args.ends.now.input) (reader_remaining g.I.Read.remaining c.loop-number.ends.input) (fleet_of c.loop-number.fleet) c.loop-number.number c.loop-number.bytes.items (g.W.Write.contents c.args.ends.now.output) (g.W.Write.contents c.loop-number.ends.output) c.args.pen.now.out.items c.loop-number.pen.out.items (g.S.ChapterSink.journal c.loop-number.ends.sink) c.loop-number.invariant.logged (line_shown c.line_let_in-line.result) (c.line_let_in-line.ensures ∙ ap (line_let_in c.args.entrance.door.now.refused.marks.items c.loop-number.number) c.deref.ensures.value) (sym c.is_quit.ensures ∙ c.if-is_quit.true)

pub returns-in_err-answer-clause-cut : goal.returns-in_err-answer-clause-cut
returns-in_err-answer-clause-cut g c =
    let fault = c.in_err-answer.field-0.0 in
    cut-at _ fault _ c.from_residual.ensures.1 (λ same. logged-broken c.args.pen.now.settings c.args.entrance.door.now.refused.marks.items (fleet_of c.args.fleet.now) (g.S.ChapterSink.journal c.args.ends.now.sink) (λ xs. acts_from c.args.pen.now.settings c.args.entrance.door.now.refused.marks.items c.args.entrance.first (c.args.bytes.now.items ∷ heard_lines xs)) (reader_remaining g.I.Read.remaining c.args.ends.now.input) (reader_remaining g.I.Read.remaining c.loop-number.ends.input) (fleet_of c.loop-number.fleet) c.loop-number.number c.loop-number.bytes.items (g.W.Write.contents c.args.ends.now.output) (g.W.Write.contents c.loop-number.ends.output) c.args.pen.now.out.items c.loop-number.pen.out.items (g.S.ChapterSink.journal c.loop-number.ends.sink) c.loop-number.invariant.logged (line_shown c.line_let_in-line.result) (c.line_let_in-line.ensures ∙ ap (line_let_in c.args.entrance.door.now.refused.marks.items c.loop-number.number) c.deref.ensures.value) (sym c.is_quit.ensures ∙ c.if-is_quit.false) (g.W.Write.contents c.answer.new.ends.output) (g.S.ChapterSink.journal c.answer.new.ends.sink)
    (subst (λ (st : Settings). PartBacked st.roll (fleet_of c.loop-number.fleet) (acts_on st (line_shown c.line_let_in-line.result)) (g.W.Write.contents c.loop-number.ends.output) (g.W.Write.contents c.answer.new.ends.output) c.loop-number.pen.out.items (g.S.ChapterSink.journal c.loop-number.ends.sink) (g.S.ChapterSink.journal c.answer.new.ends.sink)) c.loop-number.invariant.settings (c.in_err-answer.ensures.cut same)))

pub returns-in_err-tell_if_due-clause-cut : goal.returns-in_err-tell_if_due-clause-cut
returns-in_err-tell_if_due-clause-cut g c =
    let (text, talks, says) = c.in_ok-answer.ensures.talks in
    let fault = c.in_err-tell_if_due.field-0.0 in
    cut-at _ fault _ c.from_residual-in_err-tell_if_due.ensures.1 (λ same. logged-unwritten c.args.pen.now.settings c.args.entrance.door.now.refused.marks.items (fleet_of c.args.fleet.now) (g.S.ChapterSink.journal c.args.ends.now.sink) (λ xs. acts_from c.args.pen.now.settings c.args.entrance.door.now.refused.marks.items c.args.entrance.first (c.args.bytes.now.items ∷ heard_lines xs)) (reader_remaining g.I.Read.remaining c.args.ends.now.input) (reader_remaining g.I.Read.remaining c.loop-number.ends.input) (fleet_of c.loop-number.fleet) c.loop-number.number c.loop-number.bytes.items (g.W.Write.contents c.args.ends.now.output) (g.W.Write.contents c.loop-number.ends.output) c.args.pen.now.out.items c.loop-number.pen.out.items (g.S.ChapterSink.journal c.loop-number.ends.sink) c.loop-number.invariant.logged (line_shown c.line_let_in-line.result) (c.line_let_in-line.ensures ∙ ap (line_let_in c.args.entrance.door.now.refused.marks.items c.loop-number.number) c.deref.ensures.value) (sym c.is_quit.ensures ∙ c.if-is_quit.false) (fleet_of c.answer.new.fleet) (g.W.Write.contents c.answer.new.ends.output) (g.W.Write.contents c.tell_if_due.new.ends.output) c.answer.new.pen.out.items text (g.S.ChapterSink.journal c.answer.new.ends.sink) (g.S.ChapterSink.journal c.tell_if_due.new.ends.sink) (subst (λ (st : Settings). Talks st.roll (fleet_of c.loop-number.fleet) (acts_on st (line_shown c.line_let_in-line.result)) text (fleet_of c.answer.new.fleet)) c.loop-number.invariant.settings talks) says (subst (λ (st : Settings). AllBacked st.roll (fleet_of c.loop-number.fleet) (fleet_of c.answer.new.fleet) (acts_on st (line_shown c.line_let_in-line.result)) (g.W.Write.contents c.loop-number.ends.output) (g.W.Write.contents c.answer.new.ends.output) c.loop-number.pen.out.items (g.S.ChapterSink.journal c.loop-number.ends.sink) (g.S.ChapterSink.journal c.answer.new.ends.sink)) c.loop-number.invariant.settings c.in_ok-answer.ensures.logged) c.tell_if_due.ensures.tells)

pub returns-in_err-next_line-clause-cut : goal.returns-in_err-next_line-clause-cut
returns-in_err-next_line-clause-cut g c =
    let fault = c.in_err-next_line.field-0.0 in
    cut-at _ fault _ c.from_residual-in_err-next_line.ensures.1 (λ same. absurd (never-cut fault c.in_err-next_line.ensures.midway same))

pub returns-then-not-branch-clause-logged : goal.returns-then-not-branch-clause-logged
returns-then-not-branch-clause-logged g c =
    let (text, talks, says) = c.in_ok-answer.ensures.talks in
    let input = c.tell_if_due.ensures.input ∙ c.answer.ensures.input in
    let next = subst (λ (o : Option (List ℕ)). IfSome o (λ ys. IsNext ys (reader_remaining g.I.Read.remaining c.next_line.new.input) c.in_ok-next_line.field-0 c.next_line.new.bytes.items)) (ap (reader_remaining g.I.Read.remaining) input) c.in_ok-next_line.ensures.next in
    logged-end c.args.pen.now.settings c.args.entrance.door.now.refused.marks.items (fleet_of c.args.fleet.now) (g.S.ChapterSink.journal c.args.ends.now.sink) (λ xs. acts_from c.args.pen.now.settings c.args.entrance.door.now.refused.marks.items c.args.entrance.first (c.args.bytes.now.items ∷ heard_lines xs)) (reader_remaining g.I.Read.remaining c.args.ends.now.input) (reader_remaining g.I.Read.remaining c.loop-number.ends.input) (fleet_of c.loop-number.fleet) c.loop-number.number c.loop-number.bytes.items (g.W.Write.contents c.args.ends.now.output) (g.W.Write.contents c.loop-number.ends.output) c.args.pen.now.out.items c.loop-number.pen.out.items (g.S.ChapterSink.journal c.loop-number.ends.sink) c.loop-number.invariant.logged (line_shown c.line_let_in-line.result) (c.line_let_in-line.ensures ∙ ap (line_let_in c.args.entrance.door.now.refused.marks.items c.loop-number.number) c.deref.ensures.value) (sym c.is_quit.ensures ∙ c.if-is_quit.false) (fleet_of c.answer.new.fleet) (g.W.Write.contents c.answer.new.ends.output) (g.W.Write.contents c.tell_if_due.new.ends.output) c.answer.new.pen.out.items text (g.S.ChapterSink.journal c.answer.new.ends.sink) (g.S.ChapterSink.journal c.tell_if_due.new.ends.sink) (subst (λ (st : Settings). Talks st.roll (fleet_of c.loop-number.fleet) (acts_on st (line_shown c.line_let_in-line.result)) text (fleet_of c.answer.new.fleet)) c.loop-number.invariant.settings talks) says (subst (λ (st : Settings). AllBacked st.roll (fleet_of c.loop-number.fleet) (fleet_of c.answer.new.fleet) (acts_on st (line_shown c.line_let_in-line.result)) (g.W.Write.contents c.loop-number.ends.output) (g.W.Write.contents c.answer.new.ends.output) c.loop-number.pen.out.items (g.S.ChapterSink.journal c.loop-number.ends.sink) (g.S.ChapterSink.journal c.answer.new.ends.sink)) c.loop-number.invariant.settings c.in_ok-answer.ensures.logged) c.tell_if_due.ensures.tells c.tell_if_due.new.pen.out.items c.in_ok-tell_if_due.ensures.says (reader_remaining g.I.Read.remaining c.next_line.new.input) c.in_ok-next_line.field-0 c.next_line.new.bytes.items next c.if-not-branch.true
