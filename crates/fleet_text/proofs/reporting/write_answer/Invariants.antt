use Rattle.std.proofs.Common.{◌≡◌, ◌-◌, ◌++◌, List, replicate, string_bytes}
use Rattle.fleet_book.specs.declared.event.Event.{Event}
use Rattle.fleet_world.specs.declared.reply.Reply.{Reply}
use Rattle.fleet_text.specs.Output.{run_text}
use Rattle.fleet_text.proofs.reporting.write_answer.Given as goal

abbrev pub invariant-loop-time : goal.invariant-loop-time
invariant-loop-time l = (es : List Event) (rs : List Reply) →
    string_bytes l.out ++ run_text (replicate (l.times - l.time) l.answer.event ++ es) (replicate (l.times - l.time) l.answer.reply ++ rs) l.rest
    ≡ string_bytes l.initial.out ++ run_text (replicate l.times l.answer.event ++ es) (replicate l.times l.answer.reply ++ rs) l.entries
