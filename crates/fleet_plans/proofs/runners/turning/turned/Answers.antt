-- One more action is read.
use Rattle.std.proofs.Common.{◌≡◌, ℕ, List, [], ◌∷◌, ◌++◌, length, ap, subst, sym, arith}
use Rattle.std.proofs.lemmas.List.{length-append}
use Rattle.fleet_plans.specs.Cells.{parts_of}
use Rattle.fleet_plans.specs.Turning.{turned}
use Rattle.fleet_plans.proofs.Parts.{joined}
use Rattle.fleet_plans.proofs.Turns.{turned_more}
use Rattle.fleet_plans.proofs.runners.turning.turned.Goals as goal

pub loop-part-preserved : goal.loop-part-preserved
loop-part-preserved c =
    let all = turned c.args.dir (parts_of c.args.text.now) in
    let ahead = c.loop-part.ahead in
    let old = c.loop-part.letters.items in
    let part = c.in-Some.part.now in
    let parts = parts_of c.in-Some.after.now in
    let letter = c.in-Some-act_in.letter in
    let more : c.push.new.self.items ≡ old ++ letter ∷ [] = c.in_ok-push.ensures.items in
    let left : all ≡ joined old (turned ahead (part ∷ parts)) = subst (λ (ps : List (List ℕ)). all ≡ joined old (turned ahead ps)) c.in-Some.ensures.cut c.loop-part.invariant.read in
    record {
      read = rw more (turned_more all old ahead part parts left letter c.in-Some-act_in.next (sym c.in-Some-act_in.ensures));
      few = omega (arith, ap (λ (l : List ℕ). length l) more, length-append old (letter ∷ []), c.loop-part.invariant.few, c.in-Some.ensures.shorter);
    }
