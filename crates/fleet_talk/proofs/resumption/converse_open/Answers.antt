-- What a conversation with an open fleet came to, and its last write.
use Rattle.std.proofs.Common.{List, ℕ, IfSome, subst}
use Rattle.std.specs.Io.Buffered.{reader_remaining}
use Rattle.fleet_world.specs.Keeps.{talk}
use Rattle.fleet_talk.specs.declared.ends.Settings.{Settings}
use Rattle.fleet_talk.specs.Conversation.{KeptChapters}
use Rattle.fleet_talk.specs.Fleet.{opened_fleet}
use Rattle.fleet_talk.specs.Resumed.{ComesOpen}
use Rattle.fleet_talk.proofs.Resumptions.{open-whole, open-broken, open-unwritten}
use Rattle.fleet_talk.proofs.resumption.converse_open.Goals as goal

pub returns-clause-ended : goal.returns-clause-ended
returns-clause-ended g c =
    let known = (reader_remaining g.I.Read.remaining c.args.ends.now.input) in
    let k : KeptChapters = record { old = g.S.ChapterSink.kept c.args.ends.now.sink; new = g.S.ChapterSink.kept c.hold_open-ended.new.ends.sink } in
    let held = subst (λ (waited : List ℕ). IfSome known (λ bytes. ComesOpen c.args.settings c.args.door.now.refused.marks.items (opened_fleet (talk c.args.session)) bytes (g.W.Write.contents c.args.ends.now.output) (g.W.Write.contents c.hold_open-ended.new.ends.output) waited c.hold_open-ended.new.pen.out.items k c.hold_open-ended.result)) c.new-pen.ensures.out
    (subst (λ (settings : Settings). IfSome known (λ bytes. ComesOpen settings c.args.door.now.refused.marks.items (opened_fleet (talk c.args.session)) bytes (g.W.Write.contents c.args.ends.now.output) (g.W.Write.contents c.hold_open-ended.new.ends.output) c.new-pen.result.out.items c.hold_open-ended.new.pen.out.items k c.hold_open-ended.result)) c.new-pen.ensures.settings c.hold_open-ended.ensures) in
    open-whole c.args.settings c.args.door.now.refused.marks.items (opened_fleet (talk c.args.session)) k known (g.W.Write.contents c.args.ends.now.output) (g.W.Write.contents c.hold_open-ended.new.ends.output) (g.W.Write.contents c.end.new.output) c.hold_open-ended.new.pen.out.items c.hold_open-ended.result c.end.result held c.end.ensures

pub returns-clause-broken : goal.returns-clause-broken
returns-clause-broken g c =
    let known = (reader_remaining g.I.Read.remaining c.args.ends.now.input) in
    let k : KeptChapters = record { old = g.S.ChapterSink.kept c.args.ends.now.sink; new = g.S.ChapterSink.kept c.hold_open-ended.new.ends.sink } in
    let held = subst (λ (waited : List ℕ). IfSome known (λ bytes. ComesOpen c.args.settings c.args.door.now.refused.marks.items (opened_fleet (talk c.args.session)) bytes (g.W.Write.contents c.args.ends.now.output) (g.W.Write.contents c.hold_open-ended.new.ends.output) waited c.hold_open-ended.new.pen.out.items k c.hold_open-ended.result)) c.new-pen.ensures.out
    (subst (λ (settings : Settings). IfSome known (λ bytes. ComesOpen settings c.args.door.now.refused.marks.items (opened_fleet (talk c.args.session)) bytes (g.W.Write.contents c.args.ends.now.output) (g.W.Write.contents c.hold_open-ended.new.ends.output) c.new-pen.result.out.items c.hold_open-ended.new.pen.out.items k c.hold_open-ended.result)) c.new-pen.ensures.settings c.hold_open-ended.ensures) in
    open-broken c.args.settings c.args.door.now.refused.marks.items (opened_fleet (talk c.args.session)) k known (g.W.Write.contents c.args.ends.now.output) (g.W.Write.contents c.hold_open-ended.new.ends.output) (g.W.Write.contents c.end.new.output) c.hold_open-ended.new.pen.out.items c.hold_open-ended.result c.end.result held c.end.ensures

pub returns-clause-unwritten : goal.returns-clause-unwritten
returns-clause-unwritten g c =
    let known = (reader_remaining g.I.Read.remaining c.args.ends.now.input) in
    let k : KeptChapters = record { old = g.S.ChapterSink.kept c.args.ends.now.sink; new = g.S.ChapterSink.kept c.hold_open-ended.new.ends.sink } in
    let held = subst (λ (waited : List ℕ). IfSome known (λ bytes. ComesOpen c.args.settings c.args.door.now.refused.marks.items (opened_fleet (talk c.args.session)) bytes (g.W.Write.contents c.args.ends.now.output) (g.W.Write.contents c.hold_open-ended.new.ends.output) waited c.hold_open-ended.new.pen.out.items k c.hold_open-ended.result)) c.new-pen.ensures.out
    (subst (λ (settings : Settings). IfSome known (λ bytes. ComesOpen settings c.args.door.now.refused.marks.items (opened_fleet (talk c.args.session)) bytes (g.W.Write.contents c.args.ends.now.output) (g.W.Write.contents c.hold_open-ended.new.ends.output) c.new-pen.result.out.items c.hold_open-ended.new.pen.out.items k c.hold_open-ended.result)) c.new-pen.ensures.settings c.hold_open-ended.ensures) in
    open-unwritten c.args.settings c.args.door.now.refused.marks.items (opened_fleet (talk c.args.session)) k known (g.W.Write.contents c.args.ends.now.output) (g.W.Write.contents c.hold_open-ended.new.ends.output) (g.W.Write.contents c.end.new.output) c.hold_open-ended.new.pen.out.items c.hold_open-ended.result c.end.result held c.end.ensures
