-- A line of the head, and where the head ends.
use Rattle.std.proofs.Common.{◌∙◌, ◌+◌, ℕ, List, Option, IfSome, refl, sym, ap, subst}
use Rattle.std.specs.Io.Buffered.{reader_buffer, reader_remaining}
use Rattle.fleet_talk.specs.declared.heading.After.{After}
use Rattle.fleet_talk.specs.declared.fault.TalkFault.TheVariants.{Input, NoMemory}
use Rattle.fleet_talk.specs.Ask.{line_in}
use Rattle.fleet_talk.specs.Due.{IsDone}
use Rattle.fleet_talk.specs.Heading.{Follows, Hears, drafted}
use Rattle.fleet_talk.specs.Lines.{line_shown}
use Rattle.fleet_talk.proofs.Hearing.{hears-none, hears-fault, hears-end, hears-more, hears-unwritten, hears-opens, hears-over, hears-partly}
use Rattle.fleet_talk.proofs.Saying.{at-fault}
use Rattle.fleet_talk.proofs.heading.hear_head.Goals as goal

pub loop-number-init : goal.loop-number-init
loop-number-init g c = record { hears = hears-none c.args.pen.now.settings (drafted c.args.head.now) (reader_remaining g.I.Read.remaining c.args.ends.now.input) (g.W.Write.contents c.args.ends.now.output) c.args.pen.now.out.items; settings = refl; sink = refl; done = c.requires }

pub returns-in_err-next_line-clause-broken : goal.returns-in_err-next_line-clause-broken
returns-in_err-next_line-clause-broken g c =
    at-fault _ c.in_err-next_line.field-0.0 _ c.from_residual.ensures.1
    (hears-fault c.args.pen.now.settings (drafted c.args.head.now) (drafted c.loop-number.head) (reader_remaining g.I.Read.remaining c.args.ends.now.input) (reader_remaining g.I.Read.remaining c.loop-number.ends.input) c.loop-number.number c.in_err-next_line.field-0.0 (g.W.Write.contents c.args.ends.now.output) (g.W.Write.contents c.loop-number.ends.output) c.args.pen.now.out.items c.loop-number.pen.out.items c.loop-number.invariant.hears c.in_err-next_line.ensures.midway)

pub returns-then-not-branch-clause-all : goal.returns-then-not-branch-clause-all
returns-then-not-branch-clause-all g c =
    hears-end c.args.pen.now.settings (drafted c.args.head.now) (drafted c.loop-number.head) (drafted c.loop-number.head) (reader_remaining g.I.Read.remaining c.args.ends.now.input) (reader_remaining g.I.Read.remaining c.loop-number.ends.input) (reader_remaining g.I.Read.remaining c.next_line.new.input) c.loop-number.number c.in_ok-next_line.field-0 c.next_line.new.bytes.items (g.W.Write.contents c.args.ends.now.output) (g.W.Write.contents c.loop-number.ends.output) c.args.pen.now.out.items c.loop-number.pen.out.items c.loop-number.invariant.hears c.in_ok-next_line.ensures.next c.if-not-branch.true

pub returns-in_err-answer_header-clause-broken : goal.returns-in_err-answer_header-clause-broken
returns-in_err-answer_header-clause-broken g c =
    at-fault _ NoMemory _ c.from_residual-in_err-answer_header.ensures.1
    (hears-partly c.args.pen.now.settings (drafted c.args.head.now) (drafted c.loop-number.head) (drafted c.answer_header.new.head) (reader_remaining g.I.Read.remaining c.args.ends.now.input) (reader_remaining g.I.Read.remaining c.loop-number.ends.input) (reader_remaining g.I.Read.remaining c.next_line.new.input) c.loop-number.number c.next_line.new.bytes.items (line_shown c.line_of.result) c.in_ok-next_line.field-0 (g.W.Write.contents c.args.ends.now.output) (g.W.Write.contents c.loop-number.ends.output) c.args.pen.now.out.items c.loop-number.pen c.answer_header.new.pen c.loop-number.invariant.settings c.loop-number.invariant.hears c.in_ok-next_line.ensures.next c.if-not-branch.false (c.line_of.ensures ∙ ap (line_in c.loop-number.number) c.deref.ensures.value) NoMemory c.in_err-answer_header.ensures.head c.in_err-answer_header.ensures.part refl)

pub returns-in_err-write_if_due-in-More-clause-broken : goal.returns-in_err-write_if_due-in-More-clause-broken
returns-in_err-write_if_due-in-More-clause-broken g c =
    at-fault _ c.in_err-write_if_due-in-More.field-0.0 _ c.from_residual-in_err-write_if_due-in-More.ensures.1
    (hears-unwritten c.args.pen.now.settings (drafted c.args.head.now) (drafted c.loop-number.head) (drafted c.answer_header.new.head) (reader_remaining g.I.Read.remaining c.args.ends.now.input) (reader_remaining g.I.Read.remaining c.loop-number.ends.input) (reader_remaining g.I.Read.remaining c.next_line.new.input) c.loop-number.number c.next_line.new.bytes.items (line_shown c.line_of.result) c.in_ok-next_line.field-0 (g.W.Write.contents c.args.ends.now.output) (g.W.Write.contents c.loop-number.ends.output) c.args.pen.now.out.items c.loop-number.pen c.answer_header.new.pen c.loop-number.invariant.settings c.loop-number.invariant.hears c.in_ok-next_line.ensures.next c.if-not-branch.false (c.line_of.ensures ∙ ap (line_in c.loop-number.number) c.deref.ensures.value) c.in_err-write_if_due-in-More.field-0.0 (g.W.Write.contents c.write_if_due.new.ends.output) c.write_if_due.new.pen.out.items (subst (λ (a : After). Follows (drafted c.loop-number.head) (line_shown c.line_of.result) a (drafted c.answer_header.new.head) c.loop-number.pen c.answer_header.new.pen) c.in-More.is c.in_ok-answer_header.ensures.ok) c.in_err-write_if_due-in-More.ensures.broken)

pub returns-in-Opens-clause-all : goal.returns-in-Opens-clause-all
returns-in-Opens-clause-all g c = hears-opens c.args.pen.now.settings (drafted c.args.head.now) (drafted c.loop-number.head) (drafted c.answer_header.new.head) (reader_remaining g.I.Read.remaining c.args.ends.now.input) (reader_remaining g.I.Read.remaining c.loop-number.ends.input) (reader_remaining g.I.Read.remaining c.next_line.new.input) c.loop-number.number c.next_line.new.bytes.items (line_shown c.line_of.result) c.in_ok-next_line.field-0 (g.W.Write.contents c.args.ends.now.output) (g.W.Write.contents c.loop-number.ends.output) c.args.pen.now.out.items c.loop-number.pen c.answer_header.new.pen c.loop-number.invariant.settings c.loop-number.invariant.hears c.in_ok-next_line.ensures.next c.if-not-branch.false (c.line_of.ensures ∙ ap (line_in c.loop-number.number) c.deref.ensures.value) (subst (λ (a : After). Follows (drafted c.loop-number.head) (line_shown c.line_of.result) a (drafted c.answer_header.new.head) c.loop-number.pen c.answer_header.new.pen) c.in-Opens.is c.in_ok-answer_header.ensures.ok)

pub returns-in-Over-clause-all : goal.returns-in-Over-clause-all
returns-in-Over-clause-all g c = hears-over c.args.pen.now.settings (drafted c.args.head.now) (drafted c.loop-number.head) (drafted c.answer_header.new.head) (reader_remaining g.I.Read.remaining c.args.ends.now.input) (reader_remaining g.I.Read.remaining c.loop-number.ends.input) (reader_remaining g.I.Read.remaining c.next_line.new.input) c.loop-number.number c.next_line.new.bytes.items (line_shown c.line_of.result) c.in_ok-next_line.field-0 (g.W.Write.contents c.args.ends.now.output) (g.W.Write.contents c.loop-number.ends.output) c.args.pen.now.out.items c.loop-number.pen c.answer_header.new.pen c.loop-number.invariant.settings c.loop-number.invariant.hears c.in_ok-next_line.ensures.next c.if-not-branch.false (c.line_of.ensures ∙ ap (line_in c.loop-number.number) c.deref.ensures.value) (subst (λ (a : After). Follows (drafted c.loop-number.head) (line_shown c.line_of.result) a (drafted c.answer_header.new.head) c.loop-number.pen c.answer_header.new.pen) c.in-Over.is c.in_ok-answer_header.ensures.ok)

pub loop-number-preserved : goal.loop-number-preserved
loop-number-preserved g c =
    let follows = subst (λ (a : After). Follows (drafted c.loop-number.head) (line_shown c.line_of.result) a (drafted c.answer_header.new.head) c.loop-number.pen c.answer_header.new.pen) c.in-More.is c.in_ok-answer_header.ensures.ok in
    let hears = hears-more c.args.pen.now.settings (drafted c.args.head.now) (drafted c.loop-number.head) (drafted c.answer_header.new.head) (reader_remaining g.I.Read.remaining c.args.ends.now.input) (reader_remaining g.I.Read.remaining c.loop-number.ends.input) (reader_remaining g.I.Read.remaining c.next_line.new.input) c.loop-number.number c.next_line.new.bytes.items (line_shown c.line_of.result) c.in_ok-next_line.field-0 (g.W.Write.contents c.args.ends.now.output) (g.W.Write.contents c.loop-number.ends.output) c.args.pen.now.out.items c.loop-number.pen c.answer_header.new.pen c.loop-number.invariant.settings c.loop-number.invariant.hears c.in_ok-next_line.ensures.next c.if-not-branch.false (c.line_of.ensures ∙ ap (line_in c.loop-number.number) c.deref.ensures.value) (g.W.Write.contents c.write_if_due.new.ends.output) c.write_if_due.new.pen.out.items follows c.in_ok-write_if_due-in-More.ensures.says in
    record {
      hears = subst (λ (left : Option (List ℕ)). IfSome (reader_remaining g.I.Read.remaining c.args.ends.now.input) (λ xs. Hears c.args.pen.now.settings (drafted c.args.head.now) xs left (drafted c.answer_header.new.head) (c.loop-number.number + 1)
          (g.W.Write.contents c.args.ends.now.output) (g.W.Write.contents c.write_if_due.new.ends.output) c.args.pen.now.out.items c.write_if_due.new.pen.out.items))
          (ap (reader_remaining g.I.Read.remaining) (sym c.write_if_due.ensures.input)) hears;
      settings = c.write_if_due.ensures.settings ∙ (follows.2.settings ∙ c.loop-number.invariant.settings);
      sink = c.write_if_due.ensures.sink ∙ c.loop-number.invariant.sink;
      done = subst (λ (buffered : List ℕ). IsDone buffered c.write_if_due.new.pen.out.items) (ap reader_buffer (sym c.write_if_due.ensures.input)) c.write_if_due.ensures.done;
    }

pub returns-clause-broken : goal.returns-clause-broken
returns-clause-broken g c = hears-fault c.args.pen.now.settings (drafted c.args.head.now) (drafted c.loop-number.head) (reader_remaining g.I.Read.remaining c.args.ends.now.input) (reader_remaining g.I.Read.remaining c.loop-number.ends.input) c.loop-number.number Input (g.W.Write.contents c.args.ends.now.output) (g.W.Write.contents c.loop-number.ends.output) c.args.pen.now.out.items c.loop-number.pen.out.items c.loop-number.invariant.hears tt
