use Rattle.std.proofs.Common.{◌≡◌, ◌+◌, map, take}
use Rattle.fleet_trace.specs.Trace.{trace_of}
use Rattle.fleet_trace.specs.Chapters.{TellEach}
use Rattle.fleet_trace.proofs.chapters.read_each.Given as goal

abbrev pub invariant-loop-text : goal.invariant-loop-text
invariant-loop-text l = record {
  number : l.number ≡ l.text-index + 1;
  told : TellEach (map (λ text. text.items) (take l.text-index l.texts)) (map trace_of l.chapters.items);
}
