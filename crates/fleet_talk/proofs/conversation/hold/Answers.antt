-- What a conversation comes to.
use Rattle.std.proofs.Common.{◌∙◌, ℕ, length, List, [], Option, IfSome, sym, ap, subst}
use Rattle.std.specs.Prelude.{OnOk}
use Rattle.std.specs.declared.alloc.Global.{Global}
use Rattle.std.specs.Io.Buffered.{reader_remaining}
use Rattle.fleet_text.specs.Kit.{kit_laws}
use Rattle.fleet_world.specs.Keeps.{talk}
use Rattle.fleet_talk.specs.Chapters.{ChapterView, KeepsTurned}
use Rattle.fleet_talk.specs.Conversation.{ComesTo, IsUnopened, KeptChapters, Takes, Terms}
use Rattle.fleet_talk.specs.declared.ends.Settings.{Settings}
use Rattle.fleet_talk.specs.Door.{AreRefused}
use Rattle.fleet_talk.specs.Fleet.{opened_fleet}
use Rattle.fleet_talk.specs.Heading.{HearsAll, drafted}
use Rattle.fleet_talk.specs.Open.{fleet_of}
use Rattle.fleet_talk.proofs.Finishing.{come-head, come-unopened, come-refused, come-talk}
use Rattle.fleet_talk.proofs.conversation.hold.Goals as goal

pub returns-in-Ok : goal.returns-in-Ok
returns-in-Ok g c =
    let on : Terms = record { kit = kit_laws c.args.ground.kit; floor = c.args.ground.grid; settings = c.args.pen.now.settings; head = drafted c.args.ground.head } in
    let before = g.S.ChapterSink.kept c.args.ends.now.sink in
    let mid = g.S.ChapterSink.kept c.back_up.new.sink in
    let after = g.S.ChapterSink.kept c.close.new.sink in
    let last = fleet_of c.go_on-ended.new.fleet in
    subst (λ (q : List ℕ). IfSome (reader_remaining g.I.Read.remaining c.args.ends.now.input) (λ bytes. ComesTo on bytes (g.W.Write.contents c.args.ends.now.output) (g.W.Write.contents c.go_on-ended.new.ends.output) c.args.pen.now.out.items q (record { old = before; new = after }) c.close.result)) (sym c.back_up.ensures.out)
    (come-talk on before mid after (reader_remaining g.I.Read.remaining c.args.ends.now.input) (reader_remaining g.I.Read.remaining c.hear_head.new.ends.input) (g.W.Write.contents c.args.ends.now.output) (g.W.Write.contents c.hear_head.new.ends.output) (g.W.Write.contents c.go_on-ended.new.ends.output) (drafted c.hear_head.new.head) c.hear_head.new.bytes.items c.in-Ok-Some.first c.args.pen.now.out.items c.hear_head.new.pen.out.items c.go_on-ended.new.pen.out.items c.hear_head.new.pen.settings c.in-Ok.session.world.core.turns c.in-Ok.door.refused.marks.items (opened_fleet (talk c.in-Ok.session)) last c.go_on-ended.result c.close.result
    (subst (λ (at : Option ℕ). IfSome (reader_remaining g.I.Read.remaining c.args.ends.now.input) (λ xs. HearsAll c.args.pen.now.settings (drafted c.args.ground.head) xs (reader_remaining g.I.Read.remaining c.hear_head.new.ends.input) (drafted c.hear_head.new.head) c.hear_head.new.bytes.items at (g.W.Write.contents c.args.ends.now.output) (g.W.Write.contents c.hear_head.new.ends.output) c.args.pen.now.out.items c.hear_head.new.pen.out.items)) c.in-Ok-Some.field-0-is c.in-Ok-Some.ensures.all)
    c.hear_head.ensures.settings c.in-Ok.ensures.can c.in-Ok.ensures.orderly
    (λ starts is. subst (λ (st : Settings). AreRefused st.roomy c.args.ground.grid (length starts) c.in-Ok.door.refused.marks.items) c.hear_head.ensures.settings (c.in-Ok.ensures.door starts is))
    (λ starts is. subst (λ (st : Settings). Takes (record { kit = on.kit; floor = on.floor; settings = st; head = on.head }) (record { starts = starts; head = drafted c.hear_head.new.head; number = 0; lines = [] }) c.in-Ok.session.world.core.turns) c.hear_head.ensures.settings (c.in-Ok.ensures.takes starts is))
    c.in-Ok.ensures.ok c.go_on-ended.ensures.talks c.go_on-ended.ensures.broken
    (subst (λ (known : Option (List (ChapterView Global))). OnOk c.go_on-ended.result (KeepsTurned known mid (talk c.in-Ok.session) last.talk)) (c.opened.ensures.kept ∙ ap g.S.ChapterSink.kept c.hear_head.ensures.sink)
    (subst (λ (known : Option (List (ChapterView Global))). OnOk c.go_on-ended.result (KeepsTurned (g.S.ChapterSink.kept c.opened.new.self) known (talk c.in-Ok.session) last.talk)) (sym c.back_up.ensures.kept) c.go_on-ended.ensures.kept))
    c.close.ensures.ended c.close.ensures.kept)

pub returns-in-Ok-Some : goal.returns-in-Ok-Some
returns-in-Ok-Some g c =
    let on : Terms = record { kit = kit_laws c.args.ground.kit; floor = c.args.ground.grid; settings = c.args.pen.now.settings; head = drafted c.args.ground.head } in
    let k : KeptChapters = record { old = g.S.ChapterSink.kept c.args.ends.now.sink; new = g.S.ChapterSink.kept c.hear_head.new.ends.sink } in
    come-refused on k (reader_remaining g.I.Read.remaining c.args.ends.now.input) (reader_remaining g.I.Read.remaining c.hear_head.new.ends.input) (g.W.Write.contents c.args.ends.now.output) (g.W.Write.contents c.hear_head.new.ends.output) (drafted c.hear_head.new.head) c.hear_head.new.bytes.items c.in-Ok-Some.first c.args.pen.now.out.items c.hear_head.new.pen.out.items c.in-Err-open_planned.fault
    (subst (λ (at : Option ℕ). IfSome (reader_remaining g.I.Read.remaining c.args.ends.now.input) (λ xs. HearsAll c.args.pen.now.settings (drafted c.args.ground.head) xs (reader_remaining g.I.Read.remaining c.hear_head.new.ends.input) (drafted c.hear_head.new.head) c.hear_head.new.bytes.items at (g.W.Write.contents c.args.ends.now.output) (g.W.Write.contents c.hear_head.new.ends.output) c.args.pen.now.out.items c.hear_head.new.pen.out.items)) c.in-Ok-Some.field-0-is c.in-Ok-Some.ensures.all)
    (λ starts is. subst (λ (st : Settings). IsUnopened on.kit on.floor st.manner starts (drafted c.hear_head.new.head) c.in-Err-open_planned.fault) c.hear_head.ensures.settings (c.in-Err-open_planned.ensures.fault starts is))

pub returns-in-Ok-None : goal.returns-in-Ok-None
returns-in-Ok-None g c =
    let on : Terms = record { kit = kit_laws c.args.ground.kit; floor = c.args.ground.grid; settings = c.args.pen.now.settings; head = drafted c.args.ground.head } in
    let k : KeptChapters = record { old = g.S.ChapterSink.kept c.args.ends.now.sink; new = g.S.ChapterSink.kept c.hear_head.new.ends.sink } in
    come-unopened on (g.S.ChapterSink.kept c.args.ends.now.sink) (g.S.ChapterSink.kept c.hear_head.new.ends.sink) (reader_remaining g.I.Read.remaining c.args.ends.now.input) (reader_remaining g.I.Read.remaining c.hear_head.new.ends.input) (g.W.Write.contents c.args.ends.now.output) (g.W.Write.contents c.hear_head.new.ends.output) (drafted c.hear_head.new.head) c.hear_head.new.bytes.items c.args.pen.now.out.items c.hear_head.new.pen.out.items
    (ap g.S.ChapterSink.kept c.hear_head.ensures.sink)
    (subst (λ (at : Option ℕ). IfSome (reader_remaining g.I.Read.remaining c.args.ends.now.input) (λ xs. HearsAll c.args.pen.now.settings (drafted c.args.ground.head) xs (reader_remaining g.I.Read.remaining c.hear_head.new.ends.input) (drafted c.hear_head.new.head) c.hear_head.new.bytes.items at (g.W.Write.contents c.args.ends.now.output) (g.W.Write.contents c.hear_head.new.ends.output) c.args.pen.now.out.items c.hear_head.new.pen.out.items)) c.in-Ok-None.field-0-is c.in-Ok-None.ensures.all)

pub returns : goal.returns
returns g c =
    let on : Terms = record { kit = kit_laws c.args.ground.kit; floor = c.args.ground.grid; settings = c.args.pen.now.settings; head = drafted c.args.ground.head } in
    let k : KeptChapters = record { old = g.S.ChapterSink.kept c.args.ends.now.sink; new = g.S.ChapterSink.kept c.hear_head.new.ends.sink } in
    come-head on k (reader_remaining g.I.Read.remaining c.args.ends.now.input) (g.W.Write.contents c.args.ends.now.output) (g.W.Write.contents c.hear_head.new.ends.output) c.args.pen.now.out.items c.hear_head.new.pen.out.items c.in-Err.fault c.in-Err.ensures.broken
