-- What is asked is done.
use Rattle.std.proofs.Common.{◌≡◌, List, Some, sym, subst}
use Rattle.std.specs.Prelude.{OnOk, slice_get}
use Rattle.fleet_talk.specs.Said.{under}
use Rattle.live_parts.specs.declared.demand.Wanted.{Wanted}
use Rattle.live_fleet.specs.declared.speaker.Speaker.{Speaker}
use Rattle.live_fleet.specs.Act.{Act}
use Rattle.live_fleet.specs.Asking.{Grants}
use Rattle.live_fleet.specs.Party.{stage_of}
use Rattle.live_fleet.proofs.party.Party.ask.Goals as goal

pub returns-in-Chapter : goal.returns-in-Chapter
returns-in-Chapter g c = record {
  ok = subst (λ (w : Wanted). OnOk c.ask_chapter.result ((sp : Speaker) → slice_get c.args.self.now.speakers.items c.args.place.to ≡ Some sp →
      (acts : List Act) × Grants c.args.place.to sp (under c.args.place.line.mark) w (stage_of c.args.self.now c.args.out.now) acts (stage_of c.ask_chapter.new.self c.ask_chapter.new.out)))
      (sym c.in-Chapter.is) c.ask_chapter.ensures.ok;
}

pub returns-in-Look : goal.returns-in-Look
returns-in-Look g c = record {
  ok = subst (λ (w : Wanted). OnOk c.ask_look.result ((sp : Speaker) → slice_get c.args.self.now.speakers.items c.args.place.to ≡ Some sp →
      (acts : List Act) × Grants c.args.place.to sp (under c.args.place.line.mark) w (stage_of c.args.self.now c.args.out.now) acts (stage_of c.ask_look.new.self c.ask_look.new.out)))
      (sym c.in-Look.is) c.ask_look.ensures.ok;
}
