-- What a conversation came to, and its last write.
use Rattle.std.proofs.Common.{List, ℕ, IfSome, subst}
use Rattle.std.specs.Io.Buffered.{reader_remaining}
use Rattle.fleet_text.specs.Kit.{kit_laws}
use Rattle.fleet_talk.specs.declared.ends.Settings.{Settings}
use Rattle.fleet_talk.specs.Conversation.{ComesTo, KeptChapters, Terms}
use Rattle.fleet_talk.specs.Heading.{drafted}
use Rattle.fleet_talk.proofs.Finishing.{finish-whole, finish-refused, finish-roomless, finish-broken, finish-unwritten}
use Rattle.fleet_talk.proofs.conversation.converse.Goals as goal

pub returns-clause-ended : goal.returns-clause-ended
returns-clause-ended g c =
    let on : Terms = record { kit = kit_laws c.args.ground.kit; floor = c.args.ground.grid; settings = c.args.settings; head = drafted c.args.ground.head } in
    let known = (reader_remaining g.I.Read.remaining c.args.ends.now.input) in
    let k : KeptChapters = record { old = g.S.ChapterSink.kept c.args.ends.now.sink; new = g.S.ChapterSink.kept c.hold-ended.new.ends.sink } in
    let held = subst (λ (waited : List ℕ). IfSome known (λ bytes. ComesTo on bytes (g.W.Write.contents c.args.ends.now.output) (g.W.Write.contents c.hold-ended.new.ends.output) waited c.hold-ended.new.pen.out.items k c.hold-ended.result)) c.new-pen.ensures.out
    (subst (λ (settings : Settings). IfSome known (λ bytes. ComesTo (record { kit = on.kit; floor = on.floor; settings = settings; head = on.head }) bytes (g.W.Write.contents c.args.ends.now.output) (g.W.Write.contents c.hold-ended.new.ends.output) c.new-pen.result.out.items c.hold-ended.new.pen.out.items k c.hold-ended.result)) c.new-pen.ensures.settings c.hold-ended.ensures) in
    finish-whole on k known (g.W.Write.contents c.args.ends.now.output) (g.W.Write.contents c.hold-ended.new.ends.output) (g.W.Write.contents c.end.new.output) c.hold-ended.new.pen.out.items c.hold-ended.result c.end.result held c.end.ensures

pub returns-clause-refused : goal.returns-clause-refused
returns-clause-refused g c =
    let on : Terms = record { kit = kit_laws c.args.ground.kit; floor = c.args.ground.grid; settings = c.args.settings; head = drafted c.args.ground.head } in
    let known = (reader_remaining g.I.Read.remaining c.args.ends.now.input) in
    let k : KeptChapters = record { old = g.S.ChapterSink.kept c.args.ends.now.sink; new = g.S.ChapterSink.kept c.hold-ended.new.ends.sink } in
    let held = subst (λ (waited : List ℕ). IfSome known (λ bytes. ComesTo on bytes (g.W.Write.contents c.args.ends.now.output) (g.W.Write.contents c.hold-ended.new.ends.output) waited c.hold-ended.new.pen.out.items k c.hold-ended.result)) c.new-pen.ensures.out
    (subst (λ (settings : Settings). IfSome known (λ bytes. ComesTo (record { kit = on.kit; floor = on.floor; settings = settings; head = on.head }) bytes (g.W.Write.contents c.args.ends.now.output) (g.W.Write.contents c.hold-ended.new.ends.output) c.new-pen.result.out.items c.hold-ended.new.pen.out.items k c.hold-ended.result)) c.new-pen.ensures.settings c.hold-ended.ensures) in
    finish-refused on k known (g.W.Write.contents c.args.ends.now.output) (g.W.Write.contents c.hold-ended.new.ends.output) (g.W.Write.contents c.end.new.output) c.hold-ended.new.pen.out.items c.hold-ended.result c.end.result held c.end.ensures

pub returns-clause-roomless : goal.returns-clause-roomless
returns-clause-roomless g c =
    let on : Terms = record { kit = kit_laws c.args.ground.kit; floor = c.args.ground.grid; settings = c.args.settings; head = drafted c.args.ground.head } in
    let known = (reader_remaining g.I.Read.remaining c.args.ends.now.input) in
    let k : KeptChapters = record { old = g.S.ChapterSink.kept c.args.ends.now.sink; new = g.S.ChapterSink.kept c.hold-ended.new.ends.sink } in
    let held = subst (λ (waited : List ℕ). IfSome known (λ bytes. ComesTo on bytes (g.W.Write.contents c.args.ends.now.output) (g.W.Write.contents c.hold-ended.new.ends.output) waited c.hold-ended.new.pen.out.items k c.hold-ended.result)) c.new-pen.ensures.out
    (subst (λ (settings : Settings). IfSome known (λ bytes. ComesTo (record { kit = on.kit; floor = on.floor; settings = settings; head = on.head }) bytes (g.W.Write.contents c.args.ends.now.output) (g.W.Write.contents c.hold-ended.new.ends.output) c.new-pen.result.out.items c.hold-ended.new.pen.out.items k c.hold-ended.result)) c.new-pen.ensures.settings c.hold-ended.ensures) in
    finish-roomless on k known (g.W.Write.contents c.args.ends.now.output) (g.W.Write.contents c.hold-ended.new.ends.output) (g.W.Write.contents c.end.new.output) c.hold-ended.new.pen.out.items c.hold-ended.result c.end.result held c.end.ensures

pub returns-clause-broken : goal.returns-clause-broken
returns-clause-broken g c =
    let on : Terms = record { kit = kit_laws c.args.ground.kit; floor = c.args.ground.grid; settings = c.args.settings; head = drafted c.args.ground.head } in
    let known = (reader_remaining g.I.Read.remaining c.args.ends.now.input) in
    let k : KeptChapters = record { old = g.S.ChapterSink.kept c.args.ends.now.sink; new = g.S.ChapterSink.kept c.hold-ended.new.ends.sink } in
    let held = subst (λ (waited : List ℕ). IfSome known (λ bytes. ComesTo on bytes (g.W.Write.contents c.args.ends.now.output) (g.W.Write.contents c.hold-ended.new.ends.output) waited c.hold-ended.new.pen.out.items k c.hold-ended.result)) c.new-pen.ensures.out
    (subst (λ (settings : Settings). IfSome known (λ bytes. ComesTo (record { kit = on.kit; floor = on.floor; settings = settings; head = on.head }) bytes (g.W.Write.contents c.args.ends.now.output) (g.W.Write.contents c.hold-ended.new.ends.output) c.new-pen.result.out.items c.hold-ended.new.pen.out.items k c.hold-ended.result)) c.new-pen.ensures.settings c.hold-ended.ensures) in
    finish-broken on k known (g.W.Write.contents c.args.ends.now.output) (g.W.Write.contents c.hold-ended.new.ends.output) (g.W.Write.contents c.end.new.output) c.hold-ended.new.pen.out.items c.hold-ended.result c.end.result held c.end.ensures

pub returns-clause-unwritten : goal.returns-clause-unwritten
returns-clause-unwritten g c =
    let on : Terms = record { kit = kit_laws c.args.ground.kit; floor = c.args.ground.grid; settings = c.args.settings; head = drafted c.args.ground.head } in
    let known = (reader_remaining g.I.Read.remaining c.args.ends.now.input) in
    let k : KeptChapters = record { old = g.S.ChapterSink.kept c.args.ends.now.sink; new = g.S.ChapterSink.kept c.hold-ended.new.ends.sink } in
    let held = subst (λ (waited : List ℕ). IfSome known (λ bytes. ComesTo on bytes (g.W.Write.contents c.args.ends.now.output) (g.W.Write.contents c.hold-ended.new.ends.output) waited c.hold-ended.new.pen.out.items k c.hold-ended.result)) c.new-pen.ensures.out
    (subst (λ (settings : Settings). IfSome known (λ bytes. ComesTo (record { kit = on.kit; floor = on.floor; settings = settings; head = on.head }) bytes (g.W.Write.contents c.args.ends.now.output) (g.W.Write.contents c.hold-ended.new.ends.output) c.new-pen.result.out.items c.hold-ended.new.pen.out.items k c.hold-ended.result)) c.new-pen.ensures.settings c.hold-ended.ensures) in
    finish-unwritten on k known (g.W.Write.contents c.args.ends.now.output) (g.W.Write.contents c.hold-ended.new.ends.output) (g.W.Write.contents c.end.new.output) c.hold-ended.new.pen.out.items c.hold-ended.result c.end.result held c.end.ensures
