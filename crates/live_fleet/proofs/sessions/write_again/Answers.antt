-- One more notice was told again, or none is left.
use Rattle.std.proofs.Common.{◌≡◌, ◌∙◌, ◌≤◌, ◌<◌, ◌-◌, ℕ, length, ap, arith, string_bytes}
use Rattle.std.proofs.lemmas.List.{drop_more}
use Rattle.live_fleet.proofs.Again.{Again, again-begins, again-ends, again-full, again-next}
use Rattle.live_fleet.proofs.sessions.write_again.Goals as goal

pub loop-at-init : goal.loop-at-init
loop-at-init c = again-begins c.args.mark c.args.client 14336 c.args.notices.now (string_bytes c.args.text.now)

pub loop-at-preserved : goal.loop-at-preserved
loop-at-preserved c =
    again-next c.args.mark c.args.client 14336 c.loop-at.left c.saturating_sub-left.result c.loop-at.at c.args.notices.now _ c.in_ok-len.len (string_bytes c.args.text.now) (string_bytes c.loop-at.text)
    (string_bytes c.add_line.new.text) c.loop-at.invariant (omega (arith, c.if-left-eq0.false)) (drop_more c.args.notices.now c.loop-at.at _ c.loop-at-test.true) c.in_ok-len.ensures.len (c.saturating_sub-left.ensures ∙ ap (λ (n : ℕ). n - c.args.mark) c.saturating_sub.ensures) c.in_ok-len.ensures.text

pub returns-then-left-eq0 : goal.returns-then-left-eq0
returns-then-left-eq0 c =
    let all = again-full c.args.mark c.args.client 14336 c.loop-at.left c.loop-at.at c.args.notices.now (string_bytes c.args.text.now) (string_bytes c.loop-at.text) c.loop-at.invariant c.if-left-eq0.true in
    record { count = all.many; text = all.lines }

pub returns : goal.returns
returns c =
    let all = again-ends c.args.mark c.args.client 14336 c.loop-at.left c.loop-at.at c.args.notices.now (string_bytes c.args.text.now) (string_bytes c.loop-at.text) c.loop-at.invariant (omega (arith, c.loop-at-test.false)) in
    record { count = all.many; text = all.lines }
