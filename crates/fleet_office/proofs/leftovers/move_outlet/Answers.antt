-- Each notice that is known moves from the front of the outlet to the end of the list.
use Rattle.std.proofs.Common.{◌++◌, ◌∷◌, [], length, sym, ap, ◌∙◌, arith, append_assoc}
use Rattle.fleet_office.proofs.leftovers.move_outlet.Goals as goal

pub loop-preserved : goal.loop-preserved
loop-preserved g c =
    let i = c.loop.invariant in
    let x = c.collect_known.result in
    let known = c.collect_known.new.self.known in
    let p = c.push_reserved.ensures in
    let e = c.collect_known.ensures.known in (
      ap (λ xs. xs ++ known) p.items ∙ append_assoc c.loop.out.items (x ∷ []) known ∙ ap (λ xs. c.loop.out.items ++ xs) (sym e) ∙ i.0,
      omega (arith, ap length e, i.1),
      omega (arith, p.len, ap length e, i.2),
      p.capacity ∙ i.3,
    )
