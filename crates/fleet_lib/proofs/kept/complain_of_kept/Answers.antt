-- The line was written, or a prefix of it.
use Rattle.std.proofs.Common.{◌∙◌, List, ℕ, refl, sym, subst}
use Rattle.fleet_text.specs.Transfer.{AppendsPrefix}
use Rattle.fleet_lib.specs.Kept.{told}
use Rattle.fleet_lib.proofs.kept.complain_of_kept.Goals as goal

pub returns-in-Ok-line_of : goal.returns-in-Ok-line_of
returns-in-Ok-line_of g c = told c.in-Ok.reason (sym c.is_memory.ensures ∙ c.if-is_memory.false) c.in-Ok.ensures refl
    (subst (λ (text : List ℕ). AppendsPrefix (g.E.Write.contents c.args.error.now) (g.E.Write.contents c.write_whole.new.writer) text) (c.as_bytes.ensures.value ∙ c.in-Ok-line_of.ensures) c.write_whole.ensures.prefix)
