use Rattle.std.proofs.Common.{sym, ◌∙◌}
use Rattle.std.proofs.lemmas.Bool.{false≢true}
use Rattle.fleet_script.proofs.Bundles.{found, line_read}
use Rattle.fleet_script.proofs.bundle.split_bundle.Goals as goal

pub returns-then-is_script-clause-found : goal.returns-then-is_script-clause-found
returns-then-is_script-clause-found c = found c.args.bytes.now c.loop-line.rest.now c.loop-line.number c.in-Some.line.now c.in-Some.after.now c.loop-line.invariant c.in-Some.ensures.cut (c.is_script.ensures.0 c.if-is_script.true)

pub loop-line-preserved : goal.loop-line-preserved
loop-line-preserved c = line_read c.args.bytes.now c.loop-line.rest.now c.loop-line.number c.in-Some.line.now c.in-Some.after.now c.loop-line.invariant c.in-Some.ensures.cut c.in-Some.ensures.behind c.in-Some.ensures.shorter (λ e. false≢true (sym c.if-is_script.false ∙ c.is_script.ensures.1 e))
