-- All was told, and that the fleet ended was said if it had room.
use Rattle.std.proofs.Common.{◌≡◌, ◌∙◌, ◌<◌, ℕ, List, length, refl, ap, arith, Vec, Global}
use Rattle.std.proofs.lemmas.List.{length-map}
use Rattle.fleet_text.specs.Answers.{ended_line}
use Rattle.live_fleet.specs.Party.{Stage, stage_of}
use Rattle.live_fleet.specs.Went.{At, at_of}
use Rattle.live_fleet.proofs.Rested.{tells-last-no, tells-last-yes}
use Rattle.live_fleet.proofs.party.Party.tell_left.Goals as goal

pub returns-then-not-branch-2-clause-ok : goal.returns-then-not-branch-2-clause-ok
returns-then-not-branch-2-clause-ok g c =
    let s : Stage = stage_of c.args.self.now c.args.out.now in
    let mid : At = at_of c.tell_clients.new.fleet c.tell_clients.new.out in
    let size = length-map c.tell_clients.new.out.texts.items (λ (t : Vec ℕ Global). t.items) in
    λ sp there. tells-last-no c.args.to sp c.index.result.now s _ mid c.as_bytes.result.now c.in_ok-say_if_room.field-0
    (omega (arith, c.requires.there, c.requires.texts, c.tell_clients.ensures.count, c.tell_clients.new.out.texts.ok.0, size)) (omega (arith, c.requires.there, c.args.self.now.speakers.ok.0)) c.index.ensures there
    (c.in_ok-tell_clients.ensures.whole c.if-not-branch.false) (c.as_bytes.ensures.value ∙ (c.in_ok-line.ensures ∙ ap ended_line c.clock.ensures)) refl c.in_ok-say_if_room.ensures.ok c.if-not-branch-2.true refl

pub returns-clause-ok : goal.returns-clause-ok
returns-clause-ok g c =
    let s : Stage = stage_of c.args.self.now c.args.out.now in
    let mid : At = at_of c.tell_clients.new.fleet c.tell_clients.new.out in
    let size = length-map c.tell_clients.new.out.texts.items (λ (t : Vec ℕ Global). t.items) in
    λ sp there. tells-last-yes c.args.to sp c.index.result.now c.index_mut.result.now s _ mid c.as_bytes.result.now c.in_ok-say_if_room.field-0
    (omega (arith, c.requires.there, c.requires.texts, c.tell_clients.ensures.count, c.tell_clients.new.out.texts.ok.0, size)) (omega (arith, c.requires.there, c.args.self.now.speakers.ok.0)) c.index.ensures c.index_mut.ensures.value there
    (c.in_ok-tell_clients.ensures.whole c.if-not-branch.false) (c.as_bytes.ensures.value ∙ (c.in_ok-line.ensures ∙ ap ended_line c.clock.ensures)) refl c.in_ok-say_if_room.ensures.ok c.if-not-branch-2.false refl
