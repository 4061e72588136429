-- Only a legal chapter has a next one.
use Rattle.std.proofs.Common.{List, inr, sym, subst}
use Rattle.fleet_history.specs.declared.history.Entry.{Entry}
use Rattle.fleet_history.specs.History.{history_of, start, with_entries}
use Rattle.fleet_history.proofs.Legal.{legal-opening}
use Rattle.fleet_state.proofs.Parts.{queue-count}
use Rattle.fleet_trace.specs.declared.fault.JudgeFault.{JudgeFault}
use Rattle.fleet_trace.specs.declared.fault.JudgeFault.TheVariants.{Illegal}
use Rattle.fleet_trace.specs.Judged.{IsEntryFault}
use Rattle.fleet_trace.proofs.EntryByEntry.{illegal}
use Rattle.fleet_trace.proofs.OpeningParts.{none_out, some_out}
use Rattle.fleet_trace.proofs.judging.next.opening_after.Goals as goal

pub returns-in-Some : goal.returns-in-Some
returns-in-Some c = λ sound.
    absurd (some_out c.args.grid.now c.args.chapter.now.opening c.in_ok-opening_fault.field-0 c.in_ok-opening_fault.ensures c.in-Some.field-0 c.in-Some.is (legal-opening c.args.grid.now (history_of c.args.chapter.now) sound.legal))

pub state_after-requires-clause-order : goal.state_after-requires-clause-order
state_after-requires-clause-order c = none_out c.args.grid.now c.args.chapter.now.opening c.in_ok-opening_fault.field-0 c.in_ok-opening_fault.ensures c.in_default.is

pub next_opening-requires : goal.next_opening-requires
next_opening-requires c = sym (queue-count c.in-Ok.ensures.state)

pub returns-in-Err-Illegal : goal.returns-in-Err-Illegal
returns-in-Err-Illegal c = λ sound.
    let m = c.args.grid.now in
    let o = c.args.chapter.now.opening in
    let f = Illegal c.in-Err-Illegal.field-0-0 c.in-Err-Illegal.field-0-1 in
    illegal m (history_of c.args.chapter.now) c.in-Err-Illegal.field-0-0 c.in-Err-Illegal.field-0-1
    (inr (subst (λ (es : List (Entry _)). IsEntryFault m (with_entries (start o) es) f) c.as_slice.ensures.value
    (subst (λ (g : JudgeFault). IsEntryFault m (with_entries (start o) c.as_slice.result.now) g) c.in-Err-Illegal.field-0-is c.in-Err-Illegal.ensures.fault)))
    sound.legal
