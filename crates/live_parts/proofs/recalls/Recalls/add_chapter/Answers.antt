-- Each client has the chapter's notices before those that it had.
use Rattle.std.proofs.Common.{◌∙◌, ap}
use Rattle.fleet_history.specs.History.{history_of}
use Rattle.fleet_history.specs.Notices.{notices}
use Rattle.live_parts.specs.Recalls.{Recalls, recall_of, with_before}
use Rattle.live_parts.proofs.recalls.Recalls.add_chapter.Goals as goal

pub returns-clause-kept : goal.returns-clause-kept
returns-clause-kept c =
    let own = notices (history_of c.args.chapter.now) in
    λ k l few. c.in_ok-add_in.ensures.kept k l few
    ∙ ap (with_before c.self.inside.most (own k)) (c.widen.ensures.same k)
    ∙ ap (λ (s : Recalls). with_before s.most (own k) (recall_of s k)) c.self.view_is
