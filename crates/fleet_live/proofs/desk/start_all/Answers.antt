-- Nothing was handed on, and nothing was taken.
use Rattle.std.proofs.Common.{◌∙◌, ap, subst, sym}
use Rattle.fleet_live.specs.Begin.{AreNew}
use Rattle.fleet_live.specs.Logged.{log_view}
use Rattle.fleet_live.proofs.desk.start_all.Goals as goal

pub returns : goal.returns
returns g c = record {
  texts = subst AreNew (ap (λ v. v.items) (sym c.in_ok-listeners.ensures.texts)) c.in_ok-all.ensures;
  chapters = c.in_ok-listeners.ensures.chapters;
  taken = c.new-events.ensures;
  log = ap (λ l. log_view g.J.Journal.logged l.journal l.number l.entries) c.in_ok-listeners.ensures.log ∙ (ap (λ j. log_view g.J.Journal.logged j c.new-log.result.number c.new-log.result.entries) c.new-log.ensures.journal
      ∙ (ap (λ n. log_view g.J.Journal.logged c.args.ends.journal n c.new-log.result.entries) (c.new-log.ensures.number ∙ c.chapter.ensures.number) ∙ ap (λ n. log_view g.J.Journal.logged c.args.ends.journal c.args.world.now.core.number n) c.new-log.ensures.entries));
}
