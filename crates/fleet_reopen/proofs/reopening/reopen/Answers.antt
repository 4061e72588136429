use Rattle.std.proofs.Common.{◌+◌, refl}
use Rattle.fleet_history.specs.History.{history_of}
use Rattle.fleet_reopen.proofs.Ends.{can-reopened}
use Rattle.fleet_reopen.proofs.reopening.reopen.Goals as goal

pub resume-requires : goal.resume-requires
resume-requires g c =
    can-reopened c.args.grid c.args.chapter.now.number (c.args.chapter.now.number + 1) (history_of c.args.chapter.now) c.in_ok-opening.opening c.args.limits c.args.laws refl
    c.in_ok-opening.ensures.next c.in_ok-opening.ensures.can
