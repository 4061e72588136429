-- The lines that were read, and one more.
use Rattle.std.proofs.Common.{◌∙◌, ◌++◌, ◌∷◌, [], ℕ, Bool, List, refl, sym, ap, subst, arith, append_assoc, length-append}
use Rattle.fleet_map.specs.Text.{lines_of}
use Rattle.fleet_script.specs.Shown.{IsTaken}
use Rattle.fleet_talk.specs.HeadFile.{SaysHead, none, next, with_file_line}
use Rattle.fleet_talk.specs.Heading.{drafted}
use Rattle.fleet_talk.proofs.heading.read_head.Goals as goal

pub loop-line-init : goal.loop-line-init
loop-line-init c = record { few = omega (arith, c.requires); said = ([], refl, refl, subst (SaysHead []) (sym c.new-head.ensures) none) }

pub loop-line-preserved : goal.loop-line-preserved
loop-line-preserved c =
    let (before, at, counted, says) = c.loop-line.invariant.said in
    let line = c.in-Some.line.now in
    let taken = subst (λ (t : Bool). IsTaken t (with_file_line (drafted c.loop-line.head) line) (drafted c.loop-line.head) (drafted c.add_file_line.new.head)) c.if-not-branch.false c.in_ok-add_file_line.ensures in
    record {
      few = omega (arith, c.loop-line.invariant.few, c.in-Some.ensures.shorter);
      said = (
        before ++ line ∷ [],
        at ∙ ap (λ (ls : List (List ℕ)). before ++ ls) c.in-Some.ensures.cut ∙ sym (append_assoc before (line ∷ []) (lines_of c.in-Some.after.now)),
        omega (arith, counted, length-append before (line ∷ [])),
        next line says taken refl,
      );
    }
