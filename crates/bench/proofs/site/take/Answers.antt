-- What a cell that is told as free was.
use Rattle.std.proofs.Common.{◌≡◌, Bool, true, false, not, refl, rules, ap, ◌∙◌, Some}
use Rattle.std.proofs.lemmas.Option.{slice_get_read}
use Rattle.bench.proofs.site.take.Goals as goal

was-false : (b : Bool) → not b ≡ true → b ≡ false
was-false false e = refl
was-false true e = search (rules, e)

pub returns-clause-free : goal.returns-clause-free
returns-clause-free c =
    let taken = c.args.taken.now in
    λ free. slice_get_read taken.items taken.len c.args.cell c.index-was_taken.result.now taken.ok.0 c.requires.inside c.index-was_taken.ensures ∙ ap Some (was-false c.index-was_taken.result.now free)
