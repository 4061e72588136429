-- The chapter that goes on is that of the world.
use Rattle.std.proofs.Common.{◌++◌, List, false, map, refl, subst, sym}
use Rattle.std.specs.declared.alloc.Global.{Global}
use Rattle.fleet_talk.specs.Chapters.{ChapterView, chapter_shown}
use Rattle.fleet_talk.proofs.Keeping.{sound-is}
use Rattle.fleet_live.specs.Logged.{HasAll, IsReady, log_view}
use Rattle.fleet_live.proofs.Logged.{shown-in}
use Rattle.fleet_live.proofs.listeners.LiveListeners.bring_down.Goals as goal

pub bring_down-requires : goal.bring_down-requires
bring_down-requires g c =
    let w = c.args.party.now.fleet.session.world.core in
    let log = c.args.self.now.log in
    let (before, ready) = c.requires.ready in
    let shown = shown-in c.chapter-chapter.result.now w c.chapter-chapter.ensures.number c.chapter-chapter.ensures.history in
    record {
      ready = (before, subst (λ (x : ChapterView Global). IsReady (log_view g.J.Journal.logged log.journal log.number log.entries) before (map chapter_shown c.args.chapters.now) x) (sym shown) ready);
      sound = c.requires.sound;
      last = (w.turns, w.floor, sound-is w.turns w.floor _ _ c.chapter-chapter.ensures.history c.chapter-chapter.ensures.legal c.chapter-chapter.ensures.advancing c.chapter-chapter.ensures.served);
    }

pub returns : goal.returns
returns g c =
    let w = c.args.party.now.fleet.session.world.core in
    let log = c.args.self.now.log in
    let new_log = c.bring_down.new.self in
    let shown = shown-in c.chapter-chapter.result.now w c.chapter-chapter.ensures.number c.chapter-chapter.ensures.history in
    record {
      texts = refl;
      chapters = refl;
      logged = λ has before ready. subst (λ (x : ChapterView Global). HasAll (log_view g.J.Journal.logged new_log.journal new_log.number new_log.entries) (before ++ map chapter_shown c.args.chapters.now) x false) shown
          (c.bring_down.ensures.logs has before (subst (λ (x : ChapterView Global). IsReady (log_view g.J.Journal.logged log.journal log.number log.entries) before (map chapter_shown c.args.chapters.now) x) (sym shown) ready));
    }
