-- The first of the chapters was logged, and then the others.
use Rattle.std.proofs.Common.{◌≡◌, ◌++◌, ◌∷◌, [], ap, map}
use Rattle.fleet_talk.specs.Chapters.{chapter_shown}
use Rattle.fleet_live.specs.Logged.{log_view}
use Rattle.fleet_live.proofs.Logged.{fewer, ready-first, ready-next, some-logged, sound-rest}
use Rattle.fleet_live.proofs.logging.Log.+log_all.Goals as goal

pub log_all-requires : goal.log_all-requires
log_all-requires g t c κs within =
    let old = c.args.self.now in
    let new = c.log_one-2.new.self in
    let u = log_view g.J.Journal.logged old.journal old.number old.entries in
    let v = log_view g.J.Journal.logged new.journal new.number new.entries in
    let x = chapter_shown c.in-Some.one.now in
    let xs = map chapter_shown c.args.handed_out.now in
    let ys = map chapter_shown c.in-Some.others.now in
    let last = chapter_shown c.args.chapter.now in
    let is : xs ≡ x ∷ ys = ap (map chapter_shown) c.in-Some.ensures.cases.0 in
    let (before, ready) = c.requires.ready in (
      fewer t c.args.handed_out.now c.in-Some.others.now c.decreases c.in-Some.ensures.cases.1,
      (
        within,
        (
          (before ++ x ∷ [], ready-next u v xs last x ys is before ready (c.in_ok-log_one.ensures.ok before (ready-first u v xs last x ys is before ready))),
          (
            sound-rest c.args.handed_out.now c.in-Some.one.now c.in-Some.others.now c.in-Some.ensures.cases.0 c.requires.sound,
            c.requires.last,
          ),
        ),
      ),
    )

pub returns-clause-ok : goal.returns-clause-ok
returns-clause-ok g t c =
    let old = c.args.self.now in
    let mid = c.log_one-2.new.self in
    let new = c.log_all.new.self in
    some-logged c.log_all.result (log_view g.J.Journal.logged old.journal old.number old.entries) (log_view g.J.Journal.logged mid.journal mid.number mid.entries) (log_view g.J.Journal.logged new.journal new.number new.entries)
    (map chapter_shown c.args.handed_out.now) (chapter_shown c.in-Some.one.now) (map chapter_shown c.in-Some.others.now) (chapter_shown c.args.chapter.now) (ap (map chapter_shown) c.in-Some.ensures.cases.0) c.in_ok-log_one.ensures.ok c.log_all.ensures.ok
