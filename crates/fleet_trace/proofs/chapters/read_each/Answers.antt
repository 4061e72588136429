-- One more text is read, or the first that tells no trace.
use Rattle.std.proofs.Common.{ℕ, List, arith, map, sym, subst}
use Rattle.fleet_trace.specs.Trace.{trace_of}
use Rattle.fleet_trace.specs.inside.Turns.{IsToldMore, IsUntold}
use Rattle.fleet_trace.proofs.Turns.{next-told, untold}
use Rattle.fleet_trace.proofs.chapters.read_each.Goals as goal

pub loop-text-preserved : goal.loop-text-preserved
loop-text-preserved c = record {
  number = omega (arith, c.loop-text.invariant.number);
  told = next-told (λ v. v.items) c.args.texts.now c.loop-text.text-index c.text-item.result c.loop-text-test.true (sym c.text-item.is) (map trace_of c.loop-text.chapters.items) (map trace_of c.push_numbered.new.chapters.items) c.loop-text.invariant.told
      (subst (λ (bytes : List ℕ). IsToldMore bytes (map trace_of c.loop-text.chapters.items) (map trace_of c.push_numbered.new.chapters.items)) c.deref.ensures.value c.in-Ok.ensures.told);
}

pub returns-in-Err-clause-fault : goal.returns-in-Err-clause-fault
returns-in-Err-clause-fault c =
    untold (λ v. v.items) c.args.texts.now c.loop-text.text-index c.text-item.result c.loop-text-test.true (sym c.text-item.is) (map trace_of c.loop-text.chapters.items) c.loop-text.number c.in-Err.fault c.loop-text.invariant.told c.loop-text.invariant.number
    (subst (λ (bytes : List ℕ). IsUntold c.loop-text.number bytes c.in-Err.fault) c.deref.ensures.value c.in-Err.ensures.fault)
