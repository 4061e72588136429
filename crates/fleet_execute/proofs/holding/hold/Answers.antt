-- A line after another, and how it ends.
use Rattle.std.proofs.Common.{◌≡◌, ℕ, List, ◌++◌, inl, inr, refl, sym, ◌∙◌, subst, string_bytes, rules}
use Rattle.std.proofs.lemmas.Bool.{false≢true}
use Rattle.std.proofs.lemmas.Result.{on_ok_weaker}
use Rattle.std.specs.Io.KnownBytes.{Appends}
use Rattle.fleet_execution.specs.Course.{Course}
use Rattle.fleet_execution.specs.Executes.{Executes}
use Rattle.fleet_execution.specs.Kept.{desk}
use Rattle.fleet_text.specs.Transfer.{AppendsPrefix}
use Rattle.fleet_talk.proofs.Saying.{at-fault}
use Rattle.fleet_execute.specs.declared.fault.HoldFault.TheVariants.{Input, Output, NoMemory}
use Rattle.fleet_execute.specs.Answers.{HasAnswered}
use Rattle.fleet_execute.specs.Dialogue.{done_text}
use Rattle.fleet_execute.specs.Goes.{HasTurned, IsDone}
use Rattle.fleet_execute.specs.Heard.{said_by}
use Rattle.fleet_execute.proofs.Dialogues.{held_first, held_done, held_undone, held_unwritten, never_held, held_before, held_unread, held_stuck, held_over, held_next, err_weaker}
use Rattle.fleet_execute.proofs.holding.hold.Goals as goal

pub returns-in_err-begin-clause-broken : goal.returns-in_err-begin-clause-broken
returns-in_err-begin-clause-broken g c =
    let fault = c.in_err-begin.field-0.0 in
    at-fault _ fault _ c.from_residual.ensures.1 (never_held c.args.plan.now (desk c.args.run.now) (g.I.Read.remaining c.args.input.now) (g.W.Write.contents c.args.output.now) fault c.in_err-begin.ensures.stuck)

pub loop-number-init : goal.loop-number-init
loop-number-init g c =
    held_first c.args.plan.now (desk c.args.run.now) (desk c.begin.new.run) (g.I.Read.remaining c.args.input.now) (g.W.Write.contents c.args.output.now) (string_bytes c.begin.new.told)
    (λ o x. subst (λ (l : List ℕ). HasTurned c.args.plan.now o l (string_bytes c.begin.new.told) (desk c.begin.new.run)) c.new-told.ensures.bytes (c.in_ok-begin.ensures.turned o x))

pub returns-in_err-push_str-clause-broken : goal.returns-in_err-push_str-clause-broken
returns-in_err-push_str-clause-broken g c =
    at-fault _ NoMemory _ c.from_residual-in_err-push_str.ensures.1
    (held_before c.args.plan.now (desk c.args.run.now) (desk c.loop-number.run) (g.I.Read.remaining c.args.input.now) (g.I.Read.remaining c.loop-number.input) c.loop-number.number (g.W.Write.contents c.args.output.now) (g.W.Write.contents c.loop-number.output) (string_bytes c.loop-number.told)
    NoMemory c.loop-number.invariant (inr refl))

pub returns-then-is_done-clause-held : goal.returns-then-is_done-clause-held
returns-then-is_done-clause-held g c =
    let all : c.as_str.result.now ≡ string_bytes c.loop-number.told ++ done_text = search rules in
    on_ok_weaker c.write_told.result (λ more.
    held_done c.args.plan.now (desk c.args.run.now) (desk c.loop-number.run) (g.I.Read.remaining c.args.input.now) (g.I.Read.remaining c.loop-number.input) c.loop-number.number (g.W.Write.contents c.args.output.now) (g.W.Write.contents c.loop-number.output)
    (g.W.Write.contents c.write_told.new.output) (string_bytes c.loop-number.told) c.as_str.result.now c.loop-number.invariant (λ o x. (c.is_done.ensures o x).0 c.if-is_done.true) all more)
    c.write_told.ensures.whole

pub returns-then-is_done-clause-broken : goal.returns-then-is_done-clause-broken
returns-then-is_done-clause-broken g c =
    let all : c.as_str.result.now ≡ string_bytes c.loop-number.told ++ done_text = search rules in
    err_weaker c.write_told.result _ _ (λ fault cut.
    held_undone c.args.plan.now (desk c.args.run.now) (desk c.loop-number.run) (g.I.Read.remaining c.args.input.now) (g.I.Read.remaining c.loop-number.input) c.loop-number.number (g.W.Write.contents c.args.output.now) (g.W.Write.contents c.loop-number.output)
    (g.W.Write.contents c.write_told.new.output) (string_bytes c.loop-number.told) c.as_str.result.now fault c.loop-number.invariant (λ o x. (c.is_done.ensures o x).0 c.if-is_done.true) all cut)
    c.write_told.ensures.cut

pub returns-in_err-write_told-clause-broken : goal.returns-in_err-write_told-clause-broken
returns-in_err-write_told-clause-broken g c =
    let fault = c.in_err-write_told.field-0.0 in
    let after = g.W.Write.contents c.write_told-in-loop-number.new.output in
    at-fault _ fault _ c.from_residual-in_err-write_told.ensures.1
    (held_unwritten c.args.plan.now (desk c.args.run.now) (desk c.loop-number.run) (g.I.Read.remaining c.args.input.now) (g.I.Read.remaining c.loop-number.input) c.loop-number.number (g.W.Write.contents c.args.output.now) (g.W.Write.contents c.loop-number.output) after
    (string_bytes c.loop-number.told) fault c.loop-number.invariant
    (subst (λ (l : List ℕ). (fault ≡ Output) × AppendsPrefix (g.W.Write.contents c.loop-number.output) after l) c.as_str-in-loop-number.ensures.value c.in_err-write_told.ensures.cut))

pub returns-in_err-next_line-clause-broken : goal.returns-in_err-next_line-clause-broken
returns-in_err-next_line-clause-broken g c =
    let fault = c.in_err-next_line.field-0.0 in
    let after = g.W.Write.contents c.write_told-in-loop-number.new.output in
    at-fault _ fault _ c.from_residual-in_err-next_line.ensures.1
    (held_unread c.args.plan.now (desk c.args.run.now) (desk c.loop-number.run) (g.I.Read.remaining c.args.input.now) (g.I.Read.remaining c.loop-number.input) c.loop-number.number (g.W.Write.contents c.args.output.now) (g.W.Write.contents c.loop-number.output) after
    (string_bytes c.loop-number.told) fault c.loop-number.invariant
    (subst (λ (l : List ℕ). Appends (g.W.Write.contents c.loop-number.output) after l) c.as_str-in-loop-number.ensures.value c.in_ok-write_told.ensures.whole) c.in_err-next_line.ensures.unread)

pub returns-then-not-branch-clause-held : goal.returns-then-not-branch-clause-held
returns-then-not-branch-clause-held g c =
    let after = g.W.Write.contents c.write_told-in-loop-number.new.output in
    held_over c.args.plan.now (desk c.args.run.now) (desk c.loop-number.run) (g.I.Read.remaining c.args.input.now) (g.I.Read.remaining c.loop-number.input) (g.I.Read.remaining c.next_line.new.input) c.loop-number.number (g.W.Write.contents c.args.output.now)
    (g.W.Write.contents c.loop-number.output) after (string_bytes c.loop-number.told) c.next_line.new.line.items c.in_ok-next_line.field-0 c.loop-number.invariant
    (λ o x is. false≢true (sym c.if-is_done.false ∙ (c.is_done.ensures o x).1 is))
    (subst (λ (l : List ℕ). Appends (g.W.Write.contents c.loop-number.output) after l) c.as_str-in-loop-number.ensures.value c.in_ok-write_told.ensures.whole) c.in_ok-next_line.ensures.next c.if-not-branch.true

pub returns-in_err-answer-clause-broken : goal.returns-in_err-answer-clause-broken
returns-in_err-answer-clause-broken g c =
    let fault = c.in_err-answer.field-0.0 in
    let after = g.W.Write.contents c.write_told-in-loop-number.new.output in
    at-fault _ fault _ c.from_residual-in_err-answer.ensures.1
    (held_stuck c.args.plan.now (desk c.args.run.now) (desk c.loop-number.run) (g.I.Read.remaining c.args.input.now) (g.I.Read.remaining c.loop-number.input) c.loop-number.number (g.W.Write.contents c.args.output.now) (g.W.Write.contents c.loop-number.output) after
    (string_bytes c.loop-number.told) fault c.loop-number.invariant
    (subst (λ (l : List ℕ). Appends (g.W.Write.contents c.loop-number.output) after l) c.as_str-in-loop-number.ensures.value c.in_ok-write_told.ensures.whole) c.in_err-answer.ensures.stuck)

pub loop-number-preserved : goal.loop-number-preserved
loop-number-preserved g c =
    let after = g.W.Write.contents c.write_told-in-loop-number.new.output in
    let more = string_bytes c.answer.new.told in
    held_next c.args.plan.now (desk c.args.run.now) (desk c.loop-number.run) (desk c.answer.new.run) (g.I.Read.remaining c.args.input.now) (g.I.Read.remaining c.loop-number.input) (g.I.Read.remaining c.next_line.new.input) c.loop-number.number (g.W.Write.contents c.args.output.now)
    (g.W.Write.contents c.loop-number.output) after (string_bytes c.loop-number.told) c.next_line.new.line.items more c.in_ok-next_line.field-0 c.loop-number.invariant
    (λ o x is. false≢true (sym c.if-is_done.false ∙ (c.is_done.ensures o x).1 is))
    (subst (λ (l : List ℕ). Appends (g.W.Write.contents c.loop-number.output) after l) c.as_str-in-loop-number.ensures.value c.in_ok-write_told.ensures.whole) c.in_ok-next_line.ensures.next c.if-not-branch.false
    (λ o x. subst (λ (l : List ℕ). HasAnswered c.args.plan.now c.loop-number.number (said_by c.next_line.new.line.items) o l more (desk c.answer.new.run)) c.clear.ensures.bytes
    (subst (λ (l : List ℕ). HasAnswered c.args.plan.now c.loop-number.number (said_by l) o (string_bytes c.clear.new.self) more (desk c.answer.new.run)) c.as_slice.ensures.value (c.in_ok-answer.ensures.answered o x)))

pub returns-clause-broken : goal.returns-clause-broken
returns-clause-broken g c =
    held_before c.args.plan.now (desk c.args.run.now) (desk c.loop-number.run) (g.I.Read.remaining c.args.input.now) (g.I.Read.remaining c.loop-number.input) c.loop-number.number (g.W.Write.contents c.args.output.now) (g.W.Write.contents c.loop-number.output) (string_bytes c.loop-number.told)
    Input c.loop-number.invariant (inl refl)
