-- Only a legal chapter has a next one.
use Rattle.std.proofs.Common.{refl, sym, subst}
use Rattle.fleet_history.specs.History.{history_of}
use Rattle.fleet_state.proofs.Parts.{queue-count}
use Rattle.fleet_trace.specs.declared.fault.JudgeFault.{JudgeFault}
use Rattle.fleet_trace.specs.Judged.{IsJudgeFault}
use Rattle.fleet_trace.proofs.EntryByEntry.{illegal}
use Rattle.fleet_site.proofs.after.opening_after.Goals as goal

pub returns-in-Err-Illegal : goal.returns-in-Err-Illegal
returns-in-Err-Illegal c = λ sound.
    let m = c.args.grid.now in
    let h = history_of c.args.chapter.now in
    illegal m h c.in-Err-Illegal.field-0-0 c.in-Err-Illegal.field-0-1 (subst (λ (f : JudgeFault). IsJudgeFault m h f) c.in-Err-Illegal.field-0-is c.in-Err-Illegal.ensures.fault) sound.legal

pub next_opening-requires : goal.next_opening-requires
next_opening-requires c = sym (queue-count c.in_ok-state.ensures)
