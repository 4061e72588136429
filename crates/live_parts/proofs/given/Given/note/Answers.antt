-- It has what it was given before, and this.
use Rattle.std.proofs.Common.{ap}
use Rattle.fleet_talk.specs.Chapters.{chapter_shown}
use Rattle.live_parts.proofs.Remembered.{given-more}
use Rattle.live_parts.proofs.given.Given.note.Goals as goal

pub returns-clause-ok : goal.returns-clause-ok
returns-clause-ok c = λ before is. given-more c.args.given.now.items c.push.new.self.items _ before (chapter_shown c.args.chapter.now) c.args.from c.in_ok-push.ensures.items (ap chapter_shown c.of-chapter.ensures) c.of-from.ensures is
