-- Its numbers have at most twenty digits each.
use Rattle.std.proofs.Common.{◌≡◌, ◌≤◌, ◌<◌, ◌^◌, ℕ, length, rules, subst, sym}
use Rattle.fleet_book.specs.declared.notice.Notice.{Notice}
use Rattle.fleet_text.specs.Output.{notice_line}
use Rattle.live_fleet.proofs.Short.{arrived-short, verdict-short}
use Rattle.live_fleet.proofs.length.note_length.Goals as goal

pub returns-in-Verdict : goal.returns-in-Verdict
returns-in-Verdict c =
    subst (λ (n : Notice). length (notice_line c.args.client n) ≤ 256) (sym c.in-Verdict.is)
    (verdict-short c.args.client c.in-Verdict.seq c.in-Verdict.order_no c.in-Verdict.verdict (search rules) (search rules) (search rules) c.note_number.ensures)

pub returns-in-Arrived : goal.returns-in-Arrived
returns-in-Arrived c =
    subst (λ (n : Notice). length (notice_line c.args.client n) ≤ 256) (sym c.in-Arrived.is)
    (arrived-short c.args.client c.in-Arrived.seq c.in-Arrived.number c.in-Arrived.robot c.in-Arrived.cell c.in-Arrived.tick c.in-Arrived.stamp (search rules) (search rules) (search rules) (search rules) (search rules) (search rules) (search rules))
