-- What is said of two traces: that they follow one another, that they do not, or why one is not read.
use Rattle.std.proofs.Common.{◌≡◌, ℕ, List, [], ◌∷◌, subst, refl, false}
use Rattle.std.proofs.lemmas.Result.{IfOk-weaker}
use Rattle.fleet_view.specs.declared.fault.ViewFault.{ViewFault}
use Rattle.fleet_view.specs.declared.fault.ViewFault.TheVariants as fault
use Rattle.fleet_view.specs.View.{IsUnshown}
use Rattle.fleet_lib.specs.Said.{Outcome}
use Rattle.fleet_lib.specs.View.{faulty}
use Rattle.fleet_lib.specs.Runs.{IsPairSaid, IsTracesSaid, apart, in_turn, is_chapter, unread}
use Rattle.fleet_lib.proofs.runs.answer_traces.Goals as goal

told : (map one other : List ℕ) (f named : ViewFault) (o : Outcome) → f ≡ named → is_chapter named ≡ false → IsUnshown map (one ∷ other ∷ []) f → o ≡ faulty named → IsTracesSaid map one other o
told map one other f named o is calm why said = unread named (subst (λ (x : ViewFault). IsUnshown map (one ∷ other ∷ []) x) is why) calm said

two : (map one other a b : List ℕ) (f : ViewFault) (number : ℕ) (o : Outcome) → f ≡ fault.Chapter number → IsUnshown map (one ∷ other ∷ []) f → a ≡ one → b ≡ other → IsPairSaid map a b o → IsTracesSaid map one other o
two map one other a b f number o is why first second said =
    apart number (subst (λ (x : ViewFault). IsUnshown map (one ∷ other ∷ []) x) is why)
    (subst (λ (x : List ℕ). IsPairSaid map one x o) second (subst (λ (x : List ℕ). IsPairSaid map x b o) first said))

pub returns-in-Ok : goal.returns-in-Ok
returns-in-Ok c = in_turn c.in-Ok.page.items c.in-Ok.ensures.page c.shown.ensures

pub returns-in-Err-Chapter : goal.returns-in-Err-Chapter
returns-in-Err-Chapter c =
    let first : c.deref.result.now ≡ c.args.one.items = c.deref.ensures.value in
    let second : c.deref-in-Err-Chapter.result.now ≡ c.args.other.items = c.deref-in-Err-Chapter.ensures.value in
    IfOk-weaker c.answer_pair.result _ _
    (λ s e. two c.args.map.now c.args.one.items c.args.other.items _ _ c.in-Err-Chapter.field-0 c.in-Err-Chapter.field-0-0 _ c.in-Err-Chapter.field-0-is c.in-Err-Chapter.ensures.fault first second e)
    c.answer_pair.ensures

pub returns-in-Err-Map : goal.returns-in-Err-Map
returns-in-Err-Map c =
    IfOk-weaker c.faulty.result _ _
    (λ s e. told c.args.map.now c.args.one.items c.args.other.items c.in-Err-Map.field-0 (fault.Map c.in-Err-Map.fault) _ c.in-Err-Map.field-0-is refl c.in-Err-Map.ensures.fault e)
    c.faulty.ensures

pub returns-in-Err-Trace : goal.returns-in-Err-Trace
returns-in-Err-Trace c =
    IfOk-weaker c.faulty-in-Err-Trace.result _ _
    (λ s e. told c.args.map.now c.args.one.items c.args.other.items c.in-Err-Trace.field-0 (fault.Trace c.in-Err-Trace.fault) _ c.in-Err-Trace.field-0-is refl c.in-Err-Trace.ensures.fault e)
    c.faulty-in-Err-Trace.ensures

pub returns-in-Err-OffMap : goal.returns-in-Err-OffMap
returns-in-Err-OffMap c =
    IfOk-weaker c.faulty-in-Err-OffMap.result _ _
    (λ s e. told c.args.map.now c.args.one.items c.args.other.items c.in-Err-OffMap.field-0 (fault.OffMap c.in-Err-OffMap.number) _ c.in-Err-OffMap.field-0-is refl c.in-Err-OffMap.ensures.fault e)
    c.faulty-in-Err-OffMap.ensures

pub returns : goal.returns
returns c =
    IfOk-weaker c.faulty-in-Err-NoMemory.result _ _
    (λ s e. told c.args.map.now c.args.one.items c.args.other.items c.in-Err-NoMemory.field-0 fault.NoMemory _ c.in-Err-NoMemory.field-0-is refl c.in-Err-NoMemory.ensures.fault e)
    c.faulty-in-Err-NoMemory.ensures
