-- A cycle in which all robots may begin.
use Rattle.std.proofs.Common.{◌≡◌, ◌≢◌, ℕ, ◌+◌, ◌≤◌, true, false, Some, inl, inr, refl, sym, ◌∙◌, ap, subst, arith}
use Rattle.std.proofs.lemmas.Bool.{cases_lt}
use Rattle.fleet_execution.specs.declared.robot.Leave.{Leave}
use Rattle.fleet_execution.specs.declared.robot.Planned.{Planned}
use Rattle.fleet_execution.specs.Desk.{Desk, before_in, chain}
use Rattle.fleet_execution.specs.Asked.{IsNextIn, IsFreeIn, IsLinked, IsReadyIn}
use Rattle.fleet_execution.specs.State.{desk_of}
use Rattle.fleet_execution.proofs.Chains.{comes_back, next_is, up_to, all_to}
use Rattle.fleet_execution.proofs.Answered.{all_of, before_link, next_only, link_inside}
use Rattle.fleet_execution.proofs.state.State.turn.Goals as goal

at_first : (P : ℕ → Type 0) → P 0 → (j : ℕ) → j ≤ 0 → P j
at_first P here j small = let z : 0 ≡ j = omega arith in subst P z here

all_in : (p : ℕ) (P : ℕ → Type 0) → ((j : ℕ) → j ≤ p → P j) → P (p + 1) → (j : ℕ) → j ≤ p + 1 → P j
all_in p P old new j small = elim (cases_lt p j) [
  | inr early ↦ old j early
  | inl late ↦ (let z : p + 1 ≡ j = omega arith in subst P z new)
]

two : true ≡ false → ⊥
two e = cc

pub loop-passed-init : goal.loop-passed-init
loop-passed-init g c = record {
  at = refl;
  inside = c.requires.inside;
  linked = λ j less. absurd (omega arith);
  ready = at_first (λ j. IsReadyIn (desk_of c.args.self.now) c.args.step (chain (before_in (desk_of c.args.self.now).window c.args.step) c.args.robot j)) (record { next = c.requires.next; free = c.requires.free });
  away = λ j some small. absurd (omega arith);
}

-- what is known once the link was read
module _ (d : Desk) (step robot passed at : ℕ) (leave : Leave) (p : Planned) (is : at ≡ chain (before_in d.window step) robot passed) (read : p ≡ d.window at step) (some : p.after ≡ Some leave) where
  link : (d.window at step).after ≡ Some leave
  link = sym (ap (λ (y : Planned). y.after) read) ∙ some

  onward : leave.robot ≡ chain (before_in d.window step) robot (passed + 1)
  onward = next_is (before_in d.window step) robot passed at leave.robot (sym (before_link d step at leave link)) is

  linked_now : leave.step ≡ step → IsLinked d step (chain (before_in d.window step) robot passed)
  linked_now same = subst (λ (q : ℕ). IsLinked d step q) is (leave, link, same)

pub next-requires-clause-inside : goal.next-requires-clause-inside
next-requires-clause-inside g c =
    let d = desk_of c.args.self.now in
    let all = all_of c.requires.sound.course c.args.self.now.turning c.requires.idle c.requires.sound.executes.turning in
    let l = link (desk_of c.args.self.now) c.args.step c.args.robot c.loop-passed.passed c.loop-passed.at c.in-Some.leave c.planned.result c.loop-passed.invariant.at c.planned.ensures c.in-Some.is in
    let ready = c.loop-passed.invariant.ready c.loop-passed.passed (omega arith) in
    let next : IsNextIn (desk_of c.args.self.now) c.loop-passed.at c.args.step = subst (λ (q : ℕ). IsNextIn (desk_of c.args.self.now) q c.args.step) (sym c.loop-passed.invariant.at) ready.next in
    link_inside (desk_of c.args.self.now) c.requires.sound.course c.requires.sound.executes all c.loop-passed.at c.args.step c.loop-passed.invariant.inside next c.in-Some.leave l

pub is_free-requires-clause-inside : goal.is_free-requires-clause-inside
is_free-requires-clause-inside g c =
    let all = all_of c.requires.sound.course c.args.self.now.turning c.requires.idle c.requires.sound.executes.turning in
    let l = link (desk_of c.args.self.now) c.args.step c.args.robot c.loop-passed.passed c.loop-passed.at c.in-Some.leave c.planned.result c.loop-passed.invariant.at c.planned.ensures c.in-Some.is in
    let ready = c.loop-passed.invariant.ready c.loop-passed.passed (omega arith) in
    let next : IsNextIn (desk_of c.args.self.now) c.loop-passed.at c.args.step = subst (λ (q : ℕ). IsNextIn (desk_of c.args.self.now) q c.args.step) (sym c.loop-passed.invariant.at) ready.next in
    link_inside (desk_of c.args.self.now) c.requires.sound.course c.requires.sound.executes all c.loop-passed.at c.args.step c.loop-passed.invariant.inside next c.in-Some.leave l

pub returns-then-at-robot-clause-turns : goal.returns-then-at-robot-clause-turns
returns-then-at-robot-clause-turns g c it_is =
    let go = onward (desk_of c.args.self.now) c.args.step c.args.robot c.loop-passed.passed c.loop-passed.at c.in-Some.leave c.planned.result c.loop-passed.invariant.at c.planned.ensures c.in-Some.is in
    let now = linked_now (desk_of c.args.self.now) c.args.step c.args.robot c.loop-passed.passed c.loop-passed.at c.in-Some.leave c.planned.result c.loop-passed.invariant.at c.planned.ensures c.in-Some.is c.if-leave-step.false in
    record {
      some = omega arith;
      back = sym go ∙ c.if-at-robot.true;
      linked = all_to c.loop-passed.passed (λ j. IsLinked (desk_of c.args.self.now) c.args.step (chain (before_in (desk_of c.args.self.now).window c.args.step) c.args.robot j)) c.loop-passed.invariant.linked now;
      ready = λ j less. c.loop-passed.invariant.ready j (omega arith);
    }

pub returns-then-next-step-clause-not : goal.returns-then-next-step-clause-not
returns-then-next-step-clause-not g c it_is all =
    let go = onward (desk_of c.args.self.now) c.args.step c.args.robot c.loop-passed.passed c.loop-passed.at c.in-Some.leave c.planned.result c.loop-passed.invariant.at c.planned.ensures c.in-Some.is in
    let next : IsNextIn (desk_of c.args.self.now) c.in-Some.leave.robot c.args.step = subst (λ (q : ℕ). IsNextIn (desk_of c.args.self.now) q c.args.step) (sym go) ((all.1 (c.loop-passed.passed + 1)).1.next) in
    c.if-next-step.true (next_only (desk_of c.args.self.now) c.in-Some.leave.robot c.next.result c.args.step c.next.ensures.none c.next.ensures.some next)

pub returns-then-not-is_free-clause-not : goal.returns-then-not-is_free-clause-not
returns-then-not-is_free-clause-not g c it_is all =
    let go = onward (desk_of c.args.self.now) c.args.step c.args.robot c.loop-passed.passed c.loop-passed.at c.in-Some.leave c.planned.result c.loop-passed.invariant.at c.planned.ensures c.in-Some.is in
    let free : IsFreeIn (desk_of c.args.self.now) c.in-Some.leave.robot = subst (λ (q : ℕ). IsFreeIn (desk_of c.args.self.now) q) (sym go) ((all.1 (c.loop-passed.passed + 1)).1.free) in
    two (sym (c.is_free.ensures.1 free) ∙ c.if-not-is_free.true)

pub loop-passed-preserved : goal.loop-passed-preserved
loop-passed-preserved g c =
    let go = onward (desk_of c.args.self.now) c.args.step c.args.robot c.loop-passed.passed c.loop-passed.at c.in-Some.leave c.planned.result c.loop-passed.invariant.at c.planned.ensures c.in-Some.is in
    let now = linked_now (desk_of c.args.self.now) c.args.step c.args.robot c.loop-passed.passed c.loop-passed.at c.in-Some.leave c.planned.result c.loop-passed.invariant.at c.planned.ensures c.in-Some.is c.if-leave-step.false in
    let all = all_of c.requires.sound.course c.args.self.now.turning c.requires.idle c.requires.sound.executes.turning in
    let l = link (desk_of c.args.self.now) c.args.step c.args.robot c.loop-passed.passed c.loop-passed.at c.in-Some.leave c.planned.result c.loop-passed.invariant.at c.planned.ensures c.in-Some.is in
    let was = c.loop-passed.invariant.ready c.loop-passed.passed (omega arith) in
    let next : IsNextIn (desk_of c.args.self.now) c.loop-passed.at c.args.step = subst (λ (q : ℕ). IsNextIn (desk_of c.args.self.now) q c.args.step) (sym c.loop-passed.invariant.at) was.next in
    let more : c.next.result ≢ 0 = λ e. absurd (omega (arith, e, c.if-next-step.false, c.requires.next.after)) in
    let fresh : IsNextIn (desk_of c.args.self.now) c.in-Some.leave.robot c.args.step = subst (λ (t : ℕ). IsNextIn (desk_of c.args.self.now) c.in-Some.leave.robot t) c.if-next-step.false (c.next.ensures.some more) in
    let ready : IsReadyIn (desk_of c.args.self.now) c.args.step c.in-Some.leave.robot = record { next = fresh; free = c.is_free.ensures.0 c.if-not-is_free.false } in
    record {
      at = go;
      inside = link_inside (desk_of c.args.self.now) c.requires.sound.course c.requires.sound.executes all c.loop-passed.at c.args.step c.loop-passed.invariant.inside next c.in-Some.leave l;
      linked = all_to c.loop-passed.passed (λ j. IsLinked (desk_of c.args.self.now) c.args.step (chain (before_in (desk_of c.args.self.now).window c.args.step) c.args.robot j)) c.loop-passed.invariant.linked now;
      ready = all_in c.loop-passed.passed (λ j. IsReadyIn (desk_of c.args.self.now) c.args.step (chain (before_in (desk_of c.args.self.now).window c.args.step) c.args.robot j)) c.loop-passed.invariant.ready
          (subst (λ (q : ℕ). IsReadyIn (desk_of c.args.self.now) c.args.step q) go ready);
      away = up_to c.loop-passed.passed (λ j. chain (before_in (desk_of c.args.self.now).window c.args.step) c.args.robot j ≢ c.args.robot) c.loop-passed.invariant.away
          (λ e. c.if-at-robot.false (go ∙ e));
    }

pub returns-clause-not : goal.returns-clause-not
returns-clause-not g c it_is all = comes_back (before_in (desk_of c.args.self.now).window c.args.step) c.args.robot c.args.self.now.count all.0.inside all.0.apart
    (λ k some small. c.loop-passed.invariant.away k some (omega arith))
