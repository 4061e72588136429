-- Words that are the decimal digits of no number.
use Rattle.std.proofs.Common.{◌≡◌, ◌∙◌, true, false, sym}
use Rattle.std.proofs.lemmas.Bool.Decides.{Decides-eqb}
use Rattle.std.proofs.lemmas.Slice.Eq.{slice_eq-Decides}
use Rattle.fleet_lib.proofs.Folder.{none-read, great-read, other-read}
use Rattle.fleet_lib.proofs.names.numeral.Goals as goal

pub returns-in_default : goal.returns-in_default
returns-in_default c = none-read c.args.word.now 4294967296 (sym c.in_default.is ∙ c.number_up_to.ensures)

pub returns-then-number : goal.returns-then-number
returns-then-number c = great-read c.args.word.now c.in-Some.number (sym c.in-Some.is ∙ c.number_up_to.ensures) c.if-number.true

pub returns : goal.returns
returns c =
    let same = slice_eq-Decides Decides-eqb c.as_bytes.result.now c.args.word.now c.eq.result c.eq.ensures in
    other-read c.args.word.now c.as_bytes.result.now c.in-Some.number (sym c.in-Some.is ∙ c.number_up_to.ensures) (c.as_bytes.ensures.value ∙ c.in_ok-text.ensures.ok)
    (λ is. let bad : true ≡ false = sym (same.1 is) ∙ c.if-eq.false in absurd cc)
