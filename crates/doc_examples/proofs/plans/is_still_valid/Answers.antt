-- The judge was given the next placement too, and found no fault.
use Rattle.std.proofs.Common.{◌++◌, ◌∷◌, []}
use Rattle.doc_examples.proofs.plans.is_still_valid.Goals as goal

pub returns-in-None-clause-valid : goal.returns-in-None-clause-valid
returns-in-None-clause-valid c = λ m places was _. c.in-None.ensures.first m (places ++ c.args.next.now ∷ []) (c.in_ok-take.ensures.taken m places was)

pub returns-in-Some-clause-faulty : goal.returns-in-Some-clause-faulty
returns-in-Some-clause-faulty c = λ m places was _. (c.in-Some._fault.time, c.in-Some._fault.fault, c.in-Some.ensures.first m (places ++ c.args.next.now ∷ []) (c.in_ok-take.ensures.taken m places was))
