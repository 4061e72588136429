-- From its first stage on the fleet heard its events.
use Rattle.std.proofs.Common.{◌∙◌, ℕ, ap, map, refl, subst, sym}
use Rattle.std.proofs.lemmas.Result.{on_ok_weaker}
use Rattle.std.specs.Prelude.{vec_len}
use Rattle.rtrb.specs.Ring.{sent}
use Rattle.fleet_talk.specs.Chapters.{chapter_shown}
use Rattle.fleet_world.specs.Keeps.{talk}
use Rattle.live_parts.specs.Recalls.{Recalls}
use Rattle.live_fleet.specs.Party.{IsDoorOf, Stage, door_shown, stage_of}
use Rattle.live_fleet.specs.Recalling.{AreBegun}
use Rattle.fleet_live.specs.Begin.{first_stage, speakers_at}
use Rattle.fleet_live.specs.Taken.{noted}
use Rattle.fleet_live.specs.Logged.{LogView, log_view}
use Rattle.fleet_live.proofs.Backed.{ready-somehow}
use Rattle.fleet_live.proofs.Beginning.{if-logged, if-served, new-ahead}
use Rattle.fleet_live.proofs.Sound.{none-sound}
use Rattle.fleet_live.proofs.serving.live.Goals as goal

pub keep-kept-requires-clause-within : goal.keep-kept-requires-clause-within
keep-kept-requires-clause-within g c κs within k = new-ahead _ k _ c.in_ok-desk.ensures.texts

pub keep-kept-requires-clause-sound : goal.keep-kept-requires-clause-sound
keep-kept-requires-clause-sound g c κs within = none-sound _ _ c.in_ok-desk.ensures.chapters (ap (λ (s : Stage). s.at.out.chapters) (c.in_ok-desk.ensures.stage ∙ c.in_ok-party.ensures.stage))

pub keep-kept-requires-clause-door : goal.keep-kept-requires-clause-door
keep-kept-requires-clause-door g c κs within = subst IsDoorOf (sym (c.in_ok-desk.ensures.stage ∙ c.in_ok-party.ensures.stage)) c.requires.door

pub keep-kept-requires-clause-ready : goal.keep-kept-requires-clause-ready
keep-kept-requires-clause-ready g c κs within =
    let d = c.in_ok-desk.desk in
    ready-somehow (log_view g.J.Journal.logged d.listeners.log.journal d.listeners.log.number d.listeners.log.entries) (stage_of d.party d.out) (ap (λ (l : LogView). l.entries) c.in_ok-desk.ensures.log)
    (ap (λ (s : Stage). s.at.out.chapters) (c.in_ok-desk.ensures.stage ∙ c.in_ok-party.ensures.stage))

pub returns-clause-serves : goal.returns-clause-serves
returns-clause-serves g c =
    let s = c.args.session in
    let d = c.in_ok-desk.desk in
    let new = c.keep-kept.new in
    let recalls = c.in_ok-party.party.fleet.recalls in
    let begun = subst (λ (r : Recalls). AreBegun s.world.core.history r recalls) c.replace-recalls.ensures.value c.in_ok-party.ensures.begun in
    let who = λ (n : ℕ). speakers_at c.args.site.settings n s.world.core.history in
    let same = λ (n : ℕ). first_stage (talk s) recalls (door_shown c.args.door) (who n) in
    on_ok_weaker c.keep-kept.result (λ it. (recalls, begun, it))
    (if-served c.keep-kept.result (talk s) recalls (door_shown c.args.door) (who (vec_len c.args.ends.pipes)) (stage_of d.party d.out) (stage_of new.party new.out) (map noted d.events.taken.items) (map noted new.events.taken.items) d.listeners.texts.items new.listeners.texts.items
    (map chapter_shown (sent d.listeners.chapters)) (map chapter_shown (sent new.listeners.chapters)) (log_view g.J.Journal.logged d.listeners.log.journal d.listeners.log.number d.listeners.log.entries)
    (log_view g.J.Journal.logged new.listeners.log.journal new.listeners.log.number new.listeners.log.entries) (c.in_ok-desk.ensures.stage ∙ (c.in_ok-party.ensures.stage ∙ ap same c.len-pipes.ensures)) c.in_ok-desk.ensures.texts (ap (map noted) c.in_ok-desk.ensures.taken)
    (ap (map chapter_shown) c.in_ok-desk.ensures.chapters) c.keep-kept.ensures.kept)

pub returns-clause-logged : goal.returns-clause-logged
returns-clause-logged g c =
    let s = c.args.session in
    let d = c.in_ok-desk.desk in
    let new = c.keep-kept.new in
    let recalls = c.in_ok-party.party.fleet.recalls in
    let begun = subst (λ (r : Recalls). AreBegun s.world.core.history r recalls) c.replace-recalls.ensures.value c.in_ok-party.ensures.begun in
    let who = λ (n : ℕ). speakers_at c.args.site.settings n s.world.core.history in
    let same = λ (n : ℕ). first_stage (talk s) recalls (door_shown c.args.door) (who n) in
    on_ok_weaker c.keep-kept.result (λ it before start. (recalls, begun, it before start))
    (if-logged c.keep-kept.result (talk s) recalls (door_shown c.args.door) (who (vec_len c.args.ends.pipes)) (stage_of d.party d.out) (stage_of new.party new.out) (map noted d.events.taken.items) (map noted new.events.taken.items) d.listeners.texts.items new.listeners.texts.items
    (map chapter_shown (sent d.listeners.chapters)) (map chapter_shown (sent new.listeners.chapters)) (log_view g.J.Journal.logged d.listeners.log.journal d.listeners.log.number d.listeners.log.entries)
    (log_view g.J.Journal.logged new.listeners.log.journal new.listeners.log.number new.listeners.log.entries) _ (c.in_ok-desk.ensures.stage ∙ (c.in_ok-party.ensures.stage ∙ ap same c.len-pipes.ensures)) c.in_ok-desk.ensures.texts (ap (map noted) c.in_ok-desk.ensures.taken)
    c.in_ok-desk.ensures.log refl c.keep-kept.ensures.kept)
