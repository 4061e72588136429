use Rattle.std.proofs.Common.{◌∙◌, ℕ, ap}
use Rattle.fleet_book.specs.declared.notice.Notice.TheVariants as notice
use Rattle.fleet_core.specs.inside.Mailboxes.{with_notice}
use Rattle.fleet_core.proofs.mailbox.Mailboxes.push_verdict.Goals as goal

pub next_number-seq-requires : goal.next_number-seq-requires
next_number-seq-requires g c = record { known = c.requires.known; small = c.requires.small }

pub push-requires : goal.push-requires
push-requires g c = c.requires

pub returns : goal.returns
returns g c = c.push.ensures ∙ ap (λ (seq : ℕ). with_notice c.args.self.now c.args.client (notice.Verdict seq c.args.order_no c.args.verdict)) c.next_number-seq.ensures.next
