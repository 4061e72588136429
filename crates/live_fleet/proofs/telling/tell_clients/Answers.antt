-- One client after another was told.
use Rattle.std.proofs.Common.{◌≡◌, ◌∙◌, ◌≤◌, ◌<◌, ◌+◌, ◌-◌, ◌++◌, ℕ, Bool, true, false, List, [], length, refl, sym, subst, arith}
use Rattle.std.specs.List.{range_with_len}
use Rattle.live_fleet.specs.Act.{Act}
use Rattle.live_fleet.specs.Went.{At, at_of}
use Rattle.live_fleet.specs.Telling.{TellsOne, numbers_of}
use Rattle.live_fleet.proofs.Parts.{leaves-all, loop-done, loop-next}
use Rattle.live_fleet.proofs.Tells.{both-told, full-now, told-all}
use Rattle.live_fleet.proofs.telling.tell_clients.Goals as goal

pub loop-client-init : goal.loop-client-init
loop-client-init g c = record {
  leaves = ([], leaves-all (λ (client : ℕ) (a : At) (acts : List Act) (b : At). (all : Bool) × TellsOne c.args.to client all a acts b) (numbers_of c.args.clients) (at_of c.args.fleet.now c.args.out.now));
  whole = λ is. ([], leaves-all (λ (client : ℕ) (a : At) (acts : List Act) (b : At). TellsOne c.args.to client true a acts b) (numbers_of c.args.clients) (at_of c.args.fleet.now c.args.out.now));
  full = λ is. absurd (let bad : true ≡ false = is in cc);
  count = refl;
}

pub loop-client-preserved : goal.loop-client-preserved
loop-client-preserved g c =
    let before : At = at_of c.loop-client.fleet c.loop-client.out in
    let after : At = at_of c.tell_client.new.fleet c.tell_client.new.out in
    let start : At = at_of c.args.fleet.now c.args.out.now in
    let one : Bool = c.in_ok-all.field-0 in
    record {
      leaves = loop-next (λ (client : ℕ) (a : At) (acts : List Act) (b : At). (all : Bool) × TellsOne c.args.to client all a acts b) (numbers_of c.args.clients) c.loop-client.client c.args.clients.end start
          before after c.loop-client-test.true c.loop-client.invariant.leaves
          (let (more, tells) = c.in_ok-all.ensures.ok in (more, (_, tells)));
      whole = λ is. both-told c.loop-client.all one _ _ refl is (λ so now. loop-next (λ (client : ℕ) (a : At) (acts : List Act) (b : At). TellsOne c.args.to client true a acts b) (numbers_of c.args.clients) c.loop-client.client c.args.clients.end start
          before after c.loop-client-test.true (c.loop-client.invariant.whole so) (told-all c.args.to c.loop-client.client one before after c.in_ok-all.ensures.ok now));
      full = λ is. full-now c.args.to c.loop-client.client c.loop-client.all one _ before after refl is c.loop-client.invariant.full c.in_ok-all.ensures.ok;
      count = c.tell_client.ensures.count ∙ c.loop-client.invariant.count;
    }

pub returns-clause-ok : goal.returns-clause-ok
returns-clause-ok g c =
    loop-done (λ (client : ℕ) (a : At) (acts : List Act) (b : At). (all : Bool) × TellsOne c.args.to client all a acts b) (numbers_of c.args.clients) c.loop-client.client c.args.clients.end (at_of c.args.fleet.now c.args.out.now)
    (at_of c.loop-client.fleet c.loop-client.out) (omega (arith, c.loop-client-test.false)) c.loop-client.invariant.leaves

pub returns-clause-whole : goal.returns-clause-whole
returns-clause-whole g c = λ is.
    loop-done (λ (client : ℕ) (a : At) (acts : List Act) (b : At). TellsOne c.args.to client true a acts b) (numbers_of c.args.clients) c.loop-client.client c.args.clients.end (at_of c.args.fleet.now c.args.out.now)
    (at_of c.loop-client.fleet c.loop-client.out) (omega (arith, c.loop-client-test.false)) (c.loop-client.invariant.whole is)
