-- The list with one more start cell.
use Rattle.std.proofs.Common.{◌≡◌, ℕ, List, [], ◌∷◌, ◌++◌, subst, sym, arith}
use Rattle.fleet_map.specs.Text.{words_of}
use Rattle.fleet_script.proofs.Starts.{IsRead, one_more}
use Rattle.fleet_script.proofs.header.cells.Goals as goal

pub loop-word-preserved : goal.loop-word-preserved
loop-word-preserved g c =
    let words = words_of c.args.words.now in
    let old = c.loop-word.cells.items in
    let more : c.push.new.self.items ≡ old ++ c.in-Some-small_number.cell ∷ [] = c.in_ok-push.ensures.items in
    rw more (one_more c.args.most words old c.in-Some.word.now (words_of c.in-Some.after.now) c.in-Some-small_number.cell (sym c.in-Some-small_number.ensures) (omega arith) (subst (λ (ws : List (List ℕ)). IsRead c.args.most words old ws) c.in-Some.ensures.cut c.loop-word.invariant))
