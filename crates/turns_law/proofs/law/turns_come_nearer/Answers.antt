use Rattle.turns_law.proofs.Steps.{some_to_go, nearer_to_go}
use Rattle.turns_law.proofs.law.turns_come_nearer.Goals as goal

pub returns : goal.returns
returns c = record {
  some = λ m t reach depth turn f e g are limits fleet known is. some_to_go m t are reach depth turn limits f fleet e g known is;
  nearer = λ m t reach depth turn laws old new e g ticks are limits fleet tick eldest is off go. nearer_to_go m t are reach depth turn limits laws old new fleet tick e g ticks eldest is off go;
}
