-- The notices that were made are the client's.
use Rattle.std.proofs.Common.{Global, List, ap, ◌∙◌}
use Rattle.std.specs.Prelude.{fold}
use Rattle.fleet_history.specs.declared.history.Entry.{Entry}
use Rattle.fleet_history.specs.History.{history_of}
use Rattle.live_parts.specs.inside.Making.{Made, added}
use Rattle.live_parts.proofs.MadeNotices.{made-notices}
use Rattle.live_parts.proofs.making.notices_of.Goals as goal

pub returns : goal.returns
returns c =
    let h = history_of c.args.chapter.now in
    let start = ap (λ (m : Made). fold (added c.args.client) m h.entries) c.new-making.ensures in
    let all = ap (λ (es : List (Entry Global)). fold (added c.args.client) c.new-making.result es) c.deref.ensures.value in
    λ few. ap (λ (m : Made). m.notices) (c.making.view_is ∙ c.in_ok-add_all.ensures ∙ all ∙ start) ∙ made-notices h c.args.client few
