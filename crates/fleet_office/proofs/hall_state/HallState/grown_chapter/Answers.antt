use Rattle.std.proofs.Common.{◌≤◌, arith, length, ap, Some}
use Rattle.fleet_core.specs.declared.faults.ChapterFault.TheVariants.{BookSpent}
use Rattle.fleet_history.specs.History.{History}
use Rattle.fleet_office.specs.Hall.{HallView}
use Rattle.fleet_office.proofs.ChapterSteps.{with-fact}
use Rattle.fleet_office.proofs.Over.{refused-err, refused-ok}
use Rattle.fleet_office.proofs.hall_state.HallState.grown_chapter.Goals as goal

pub returns-in-Ok-clause-book_spent : goal.returns-in-Ok-clause-book_spent
returns-in-Ok-clause-book_spent g c =
    let enough : c.args.least ≤ length c.args.self.now.world.history.entries = omega (arith, c.if-len-least.false, c.len.ensures, c.chapter.result.now.entries.ok.0, ap (λ (h : History g.row.A.Denot). length h.entries) c.chapter.ensures.history, ap (λ (v : HallView g.row.A.Denot). length v.world.history.entries) c.self.view_is) in
    with-fact enough (refused-ok c.next_chapter.result c.in-Ok.chapter (Some c.in-Ok.chapter) BookSpent _ c.in-Ok.is c.next_chapter.ensures.book_spent)

pub returns-in-Err-clause-book_spent : goal.returns-in-Err-clause-book_spent
returns-in-Err-clause-book_spent g c =
    let enough : c.args.least ≤ length c.args.self.now.world.history.entries = omega (arith, c.if-len-least.false, c.len.ensures, c.chapter.result.now.entries.ok.0, ap (λ (h : History g.row.A.Denot). length h.entries) c.chapter.ensures.history, ap (λ (v : HallView g.row.A.Denot). length v.world.history.entries) c.self.view_is) in
    with-fact enough (refused-err c.next_chapter.result c.in-Err.fault BookSpent _ c.in-Err.is c.next_chapter.ensures.book_spent)
