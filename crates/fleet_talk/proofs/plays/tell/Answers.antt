-- What is said of an event is the text of its reply and of the entry that it made.
use Rattle.std.proofs.Common.{◌∙◌, ◌-◌, length, refl, ap, string_bytes, List}
use Rattle.std.specs.Prelude.{slice_get, option_copied}
use Rattle.fleet_history.specs.declared.history.Entry.{Entry}
use Rattle.fleet_history.specs.History.{History}
use Rattle.fleet_world.specs.Keeps.{talk}
use Rattle.fleet_talk.specs.Said.{under}
use Rattle.fleet_talk.proofs.Talking.{told}
use Rattle.fleet_talk.proofs.plays.tell.Goals as goal

pub returns-clause-ok : goal.returns-clause-ok
returns-clause-ok g c =
    told c.say.result (talk c.args.session.now) (under c.args.mark) c.args.event c.args.reply (string_bytes c.write_event.new.out) (string_bytes c.new-text.result) c.as_str.result.now
    (option_copied c.last-entry.result) c.args.pen.now _ c.say.new.self c.new-text.ensures.bytes c.in_ok-write_event.ensures
    (c.last-entry.ensures.value ∙ ap (λ (es : List (Entry _)). slice_get es (length es - 1)) (c.deref.ensures.value ∙ ap (λ (h : History _). h.entries) c.chapter.ensures.history))
    c.as_str.ensures.value refl refl c.say.ensures.ok
