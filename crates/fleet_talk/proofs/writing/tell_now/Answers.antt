-- What was said is written once the journal has what it follows from.
use Rattle.std.proofs.Common.{ℕ, List, subst}
use Rattle.fleet_text.specs.Transfer.{AppendsPrefix}
use Rattle.fleet_talk.specs.Chapters.{chapter_in}
use Rattle.fleet_talk.proofs.Backing.{tells-all}
use Rattle.fleet_talk.proofs.writing.tell_now.Goals as goal

pub returns-clause-tells : goal.returns-clause-tells
returns-clause-tells g c chapters stands = tells-all (g.S.ChapterSink.journal c.args.ends.now.sink) (g.S.ChapterSink.journal c.back_up.new.sink) chapters (chapter_in c.args.session.now.world.core) (g.W.Write.contents c.args.ends.now.output) (g.W.Write.contents c.write_now.new.output) c.args.pen.now.out.items c.back_up.new.pen.is_mute
    (c.back_up.ensures.backs_up chapters stands) (subst (λ (text : List ℕ). AppendsPrefix (g.W.Write.contents c.args.ends.now.output) (g.W.Write.contents c.write_now.new.output) text) c.back_up.ensures.out c.write_now.ensures.prefix) c.write_now.ensures.mute
