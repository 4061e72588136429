-- What is left are the clients from here on.
use Rattle.std.proofs.Common.{◌≡◌, ◌≤◌, ◌-◌, ℕ, List, vec_len, Bool, true, false}
use Rattle.std.specs.List.{range_with_len}
use Rattle.live_fleet.specs.Act.{Act}
use Rattle.live_fleet.specs.Out.{IsFull, out_of, text_at}
use Rattle.live_fleet.specs.Went.{At, at_of}
use Rattle.live_fleet.specs.Telling.{TellsOne, numbers_of}
use Rattle.live_fleet.proofs.Parts.{Leaves}
use Rattle.live_fleet.proofs.telling.tell_clients.Given as goal

abbrev pub invariant-loop-client : goal.invariant-loop-client
invariant-loop-client g l = record {
  leaves : (acts : List Act) × Leaves (λ (client : ℕ) (a : At) (acts : List Act) (b : At). (all : Bool) × TellsOne l.fn.to client all a acts b) (numbers_of l.fn.clients) (range_with_len l.client (l.fn.clients.end - l.client)) (at_of l.fn.fleet l.fn.out) acts (at_of l.fleet l.out);
  whole : l.all ≡ true → (acts : List Act) × Leaves (λ (client : ℕ) (a : At) (acts : List Act) (b : At). TellsOne l.fn.to client true a acts b) (numbers_of l.fn.clients) (range_with_len l.client (l.fn.clients.end - l.client)) (at_of l.fn.fleet l.fn.out) acts (at_of l.fleet l.out);
  full : l.all ≡ false → IsFull (text_at (out_of l.out) l.fn.to);
  count : vec_len l.out.texts ≡ vec_len l.fn.out.texts;
}
