-- What was heard and told so far.
use Rattle.std.proofs.Common.{◌≡◌, ◌≤◌, ◌++◌, ℕ, List, length}
use Rattle.std.specs.declared.alloc.Global.{Global}
use Rattle.fleet_talk.specs.Chapters.{ChapterView}
use Rattle.live_fleet.specs.Out.{out_of, text_at}
use Rattle.live_fleet.specs.Party.{Heard, IsDoorOf, stage_of}
use Rattle.live_parts.specs.Kept.{AreSound}
use Rattle.fleet_live.specs.Logged.{IsReadyAt, Logs}
use Rattle.fleet_live.specs.Loop.{Keeps}
use Rattle.fleet_live.proofs.keeping.keep.Given as goal

abbrev pub invariant-loop : goal.invariant-loop
invariant-loop g l = record {
  heard : (heard : List Heard) × (g.E.Events.taken l.events ≡ g.E.Events.taken l.fn.events ++ heard)
      × Keeps (stage_of l.fn.party l.fn.out) (stage_of l.party l.out) heard (g.L.Listeners.told l.fn.listeners) (g.L.Listeners.told l.listeners)
      (g.L.Listeners.ahead l.fn.listeners) (g.L.Listeners.ahead l.listeners) (g.L.Listeners.kept l.fn.listeners) (g.L.Listeners.kept l.listeners)
      × ((before : List (ChapterView Global)) → IsReadyAt (g.L.Listeners.log l.fn.listeners) before (stage_of l.fn.party l.fn.out) → Logs (stage_of l.fn.party l.fn.out) (stage_of l.party l.out) heard (g.L.Listeners.told l.fn.listeners) (g.L.Listeners.told l.listeners)
      (g.L.Listeners.ahead l.fn.listeners) (g.L.Listeners.kept l.fn.listeners) (g.L.Listeners.kept l.listeners) before (g.L.Listeners.log l.fn.listeners) (g.L.Listeners.log l.listeners));
  ready : (before : List (ChapterView Global)) × IsReadyAt (g.L.Listeners.log l.listeners) before (stage_of l.party l.out);
  within : (k : ℕ) → g.L.Listeners.ahead l.listeners k ≤ length (text_at (out_of l.out) k);
  all : AreSound (g.L.Listeners.kept l.listeners ++ (out_of l.out).chapters);
  sound : AreSound (out_of l.out).chapters;
  door : IsDoorOf (stage_of l.party l.out);
}
