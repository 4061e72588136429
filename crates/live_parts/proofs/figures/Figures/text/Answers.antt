-- The counters, the verdicts, the turns, the gauges, and the times.
use Rattle.live_parts.specs.Figures.{counters_text, memory_text, queues_text, times_text, turns_text, verdicts_text, waits_text}
use Rattle.live_parts.proofs.Figuring.{seven}
use Rattle.live_parts.proofs.figures.Figures.text.Goals as goal

pub returns : goal.returns
returns c =
    seven (counters_text c.args.self.now) (verdicts_text c.args.self.now.notices) (turns_text c.args.self.now) (queues_text c.args.self.now)
    (waits_text c.args.self.now) (memory_text c.args.self.now) (times_text c.args.self.now) _ _ _ _ _ _ _ _
    c.new-text.ensures.bytes c.in_ok-add_counters.ensures c.in_ok-add_verdicts.ensures c.in_ok-add_turns.ensures c.in_ok-add_queues.ensures
    c.in_ok-add_waits.ensures c.in_ok-add_memory.ensures c.in_ok-add_times.ensures
