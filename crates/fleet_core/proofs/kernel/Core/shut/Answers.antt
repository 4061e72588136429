use Rattle.std.proofs.Common.{arith, ◌≡◌, ◌∙◌, ℕ, ◌<◌, ◌≤◌, Bool, true, false, Option, None, length, ap, sym, refl, subst}
use Rattle.std.specs.Prelude.{is_some}
use Rattle.std.specs.Option.{option_map}
use Rattle.std.proofs.lemmas.List.{length-map}
use Rattle.std.proofs.lemmas.Result.{err_from_is_err_and}
use Rattle.fleet_history.specs.declared.history.Entry.TheVariants as entry
use Rattle.fleet_history.specs.History.{history_of, robots, unfinished, is_shut}
use Rattle.fleet_history.specs.Legal.{Fits, is_none_left}
use Rattle.fleet_state.proofs.Parts.{cell-count, queue-count}
use Rattle.fleet_core.specs.Core.{HasEntries}
use Rattle.fleet_core.specs.Hooks.{AreFarewells, spare_laws}
use Rattle.fleet_core.proofs.EntriesKept.{kept-shut, may-follow, shuts-so}
use Rattle.fleet_core.proofs.ClosuresKept.{farewell-there, farewell-is, farewells-idle}
use Rattle.fleet_core.proofs.FaultCases.{done, shut-already-chapter_full, shut-already-no_robot, shut-chapter_full-already, shut-chapter_full-no_robot, shut-no_memory-already, shut-no_memory-chapter_full, shut-no_memory-no_robot, shut-no_robot-already, shut-no_robot-chapter_full}
use Rattle.fleet_core.proofs.Refusals.{not_both, not_same, not_true}
use Rattle.fleet_core.proofs.kernel.Core.shut.Goals as goal
use Rattle.fleet_core.proofs.kernel.Core.shut.Goals.{After-last_word_if-farewell}

spare_is : (g : _) (c : After-last_word_if-farewell g) → AreFarewells (history_of c.self.inside.chapter) (spare_laws c.args.farewells.now.items)
spare_is g c = subst (λ w. AreFarewells w.history (spare_laws c.args.farewells.now.items)) (sym c.self.view_is) c.requires.farewells

known_is : (g : _) (c : After-last_word_if-farewell g) → c.args.robot < robots (history_of c.self.inside.chapter)
known_is g c = subst (λ n. c.args.robot < n) (c.robots.ensures.of c.self.inside.grid (history_of c.self.inside.chapter) c.self.invariant.is) c.if-robot-robots.false

none_is : (g : _) (c : After-last_word_if-farewell g) → c.has_no_errand-idle.result ≡ is_none_left (unfinished (history_of c.self.inside.chapter) c.args.robot)
none_is g c = c.has_no_errand-idle.ensures ∙ ap (λ w. is_none_left (unfinished w.history c.args.robot)) (sym c.self.view_is)

-- an idle robot gives its word, any other none
word_is : (idle : Bool) (farewell : Option ℕ) {spare : Bool} → (idle ≡ true → is_some farewell ≡ spare) → (idle ≡ false → farewell ≡ None) → spare ≡ true → is_some farewell ≡ idle
word_is true farewell answers silent there = answers refl ∙ there
word_is false farewell answers silent there = ap (λ (o : Option ℕ). is_some o) (silent refl)

fits_is : (g : _) (c : After-last_word_if-farewell g) → Fits {A = g.row.A.Denot} c.self.inside.grid (history_of c.self.inside.chapter) (entry.Shut c.args.robot c.last_word_if-farewell.result)
fits_is g c =
    let h = history_of c.self.inside.chapter in
    let known = known_is g c in
    let not_shut : is_shut h c.args.robot ≡ false = sym (c.is_shut.ensures c.self.inside.grid h c.self.invariant.is) ∙ c.if-is_shut.false in
    let spare = spare_laws c.args.farewells.now.items in
    record {
      known = known;
      first = not_shut;
      leaves = word_is c.has_no_errand-idle.result c.last_word_if-farewell.result c.last_word_if-farewell.ensures.answers c.last_word_if-farewell.ensures.silent (farewell-there h spare (spare_is g c) c.args.robot known not_shut) ∙ none_is g c;
      stamp = farewell-is h spare (spare_is g c) c.args.robot c.last_word_if-farewell.result c.last_word_if-farewell.ensures.stamp;
    }

pub has_no_errand-idle-requires : goal.has_no_errand-idle-requires
has_no_errand-idle-requires g c =
    let inside : c.args.robot < robots (history_of c.self.inside.chapter) = subst (λ n. c.args.robot < n) (c.robots.ensures.of c.self.inside.grid (history_of c.self.inside.chapter) c.self.invariant.is) c.if-robot-robots.false in
    subst (λ w. c.args.robot < robots w.history) c.self.view_is inside

pub is_shut-requires : goal.is_shut-requires
is_shut-requires g c = subst (λ n. c.args.robot < n) c.robots.ensures.count c.if-robot-robots.false

pub bounds-place-robot : goal.bounds-place-robot
bounds-place-robot g c =
    subst (λ n. c.args.robot < n) (c.robots.ensures.count ∙ queue-count c.self.invariant.is ∙ sym (ap length c.place.ensures.cells ∙ cell-count c.self.invariant.is)) c.if-robot-robots.false

pub last_word_if-farewell-requires : goal.last_word_if-farewell-requires
last_word_if-farewell-requires g c =
    let spare = subst (λ w. AreFarewells w.history (spare_laws c.args.farewells.now.items)) (sym c.self.view_is) c.requires.farewells in
    subst (λ n. c.args.robot < n) (c.robots.ensures.count ∙ queue-count c.self.invariant.is ∙ sym (c.args.farewells.now.ok.0 ∙ sym (length-map c.args.farewells.now.items (λ f. option_map (λ x. x.law) f)) ∙ spare.count)) c.if-robot-robots.false

pub enter_shut-requires : goal.enter_shut-requires
enter_shut-requires g c =
    let fits = fits_is g (goal.at.enter_shut-requires g c).After-last_word_if-farewell in
    record {
      farewell = c.last_word_if-farewell.result;
      may = may-follow c.self.invariant (entry.Shut c.args.robot c.last_word_if-farewell.result) fits;
    }

pub add-requires : goal.add-requires
add-requires g c = omega (arith, c.in_ok-reserve.ensures.ok)

pub invariant_of-self-2 : goal.invariant_of-self-2
invariant_of-self-2 g c =
    let k = c.self.invariant in
    let h = history_of c.self.inside.chapter in
    let next = c.enter_shut.ensures.follows c.last_word_if-farewell.result c.self.inside.grid h k.is (fits_is g (goal.at.invariant_of-self-2 g c).After-last_word_if-farewell) in
    let few : length h.entries < c.self.inside.limits.chapter = subst HasEntries (sym c.self.view_is) (c.if-is_full.ensures.room refl) in
    rw (c.add.ensures, c.reserve.ensures.items)
    (kept-shut k c.args.robot c.last_word_if-farewell.result few next c.enter_shut.ensures.rooms)

pub returns-clause-ok : goal.returns-clause-ok
returns-clause-ok g c =
    rw (← c.self.view_is, c.add.ensures, c.reserve.ensures.items)
    (shuts-so c.self.invariant c.args.robot c.last_word_if-farewell.result (fits_is g (goal.at.returns-clause-ok g c).After-last_word_if-farewell))

pub returns-clause-farewells : goal.returns-clause-farewells
returns-clause-farewells g c =
    let h = history_of c.self.inside.chapter in
    let p = (goal.at.returns-clause-farewells g c).After-last_word_if-farewell in
    rw (c.add.ensures, c.reserve.ensures.items, c.last_word_if-farewell.ensures.spent)
    (farewells-idle h (spare_laws c.args.farewells.now.items) (spare_is g p) c.args.robot c.last_word_if-farewell.result c.has_no_errand-idle.result (known_is g p) (none_is g p))

-- refused

pub returns-then-robot-robots : goal.returns-then-robot-robots
returns-then-robot-robots g c =
    let k = c.self.invariant in
    let h = history_of c.self.inside.chapter in
    let past : robots h ≤ c.args.robot = subst (λ n. n ≤ c.args.robot) (c.robots.ensures.of c.self.inside.grid h k.is) c.if-robot-robots.true in
    let many = subst (λ w. robots w.history ≤ c.args.robot) c.self.view_is past in
    record {
      no_robot = (λ e. many, λ l. refl);
      already = (shut-no_robot-already, λ p. absurd (not_both p.0 many));
      chapter_full = (shut-no_robot-chapter_full, λ p. absurd (not_both p.0 many));
      entries = tt;
      ok = tt;
      err = refl;
      farewells = c.requires.farewells;
    }

pub returns-then-is_shut : goal.returns-then-is_shut
returns-then-is_shut g c =
    let k = c.self.invariant in
    let h = history_of c.self.inside.chapter in
    let inside : c.args.robot < robots h = subst (λ n. c.args.robot < n) (c.robots.ensures.of c.self.inside.grid h k.is) c.if-robot-robots.false in
    let known = subst (λ w. c.args.robot < robots w.history) c.self.view_is inside in
    let shut = ap (λ w. is_shut w.history c.args.robot) (sym c.self.view_is) ∙ sym (c.is_shut.ensures c.self.inside.grid h k.is) ∙ c.if-is_shut.true in
    record {
      no_robot = (shut-already-no_robot, λ l. absurd (not_both known l));
      already = (λ e. (known, shut), λ p. refl);
      chapter_full = (shut-already-chapter_full, λ p. absurd (not_true shut p.1));
      entries = tt;
      ok = tt;
      err = refl;
      farewells = c.requires.farewells;
    }

pub returns-then-is_full : goal.returns-then-is_full
returns-then-is_full g c =
    let k = c.self.invariant in
    let h = history_of c.self.inside.chapter in
    let inside : c.args.robot < robots h = subst (λ n. c.args.robot < n) (c.robots.ensures.of c.self.inside.grid h k.is) c.if-robot-robots.false in
    let known = subst (λ w. c.args.robot < robots w.history) c.self.view_is inside in
    let opened = ap (λ w. is_shut w.history c.args.robot) (sym c.self.view_is) ∙ sym (c.is_shut.ensures c.self.inside.grid h k.is) ∙ c.if-is_shut.false in
    let full = c.if-is_full.ensures.full refl in
    record {
      no_robot = (shut-chapter_full-no_robot, λ l. absurd (not_both known l));
      already = (shut-chapter_full-already, λ p. absurd (not_true p.1 opened));
      chapter_full = (λ e. (known, opened, full), λ p. refl);
      entries = tt;
      ok = tt;
      err = refl;
      farewells = c.requires.farewells;
    }

pub invariant_of-self : goal.invariant_of-self
invariant_of-self g c = rw c.reserve.ensures.items c.self.invariant

pub returns-in_err-reserve : goal.returns-in_err-reserve
returns-in_err-reserve g c =
    let p = err_from_is_err_and c.from_residual.result c.from_residual.ensures.1 in
    let k = c.self.invariant in
    let h = history_of c.self.inside.chapter in
    let inside : c.args.robot < robots h = subst (λ n. c.args.robot < n) (c.robots.ensures.of c.self.inside.grid h k.is) c.if-robot-robots.false in
    let known = subst (λ w. c.args.robot < robots w.history) c.self.view_is inside in
    let opened = ap (λ w. is_shut w.history c.args.robot) (sym c.self.view_is) ∙ sym (c.is_shut.ensures c.self.inside.grid h k.is) ∙ c.if-is_shut.false in
    let room = c.if-is_full.ensures.room refl in
    rw (p.1, p.2)
    record {
      no_robot = (shut-no_memory-no_robot, λ l. absurd (not_both known l));
      already = (shut-no_memory-already, λ q. absurd (not_true q.1 opened));
      chapter_full = (shut-no_memory-chapter_full, λ q. absurd (not_same room q.2));
      entries = tt;
      ok = tt;
      err = rw c.reserve.ensures.items c.self.view_is;
      farewells = rw c.reserve.ensures.items (subst (λ w. AreFarewells w.history (spare_laws c.args.farewells.now.items)) (sym c.self.view_is) c.requires.farewells);
    }

pub returns-clause-no_robot : goal.returns-clause-no_robot
returns-clause-no_robot g c =
    let k = c.self.invariant in
    let h = history_of c.self.inside.chapter in
    let inside : c.args.robot < robots h = subst (λ n. c.args.robot < n) (c.robots.ensures.of c.self.inside.grid h k.is) c.if-robot-robots.false in
    let known = subst (λ w. c.args.robot < robots w.history) c.self.view_is inside in
    (done, λ l. absurd (not_both known l))

pub returns-clause-already : goal.returns-clause-already
returns-clause-already g c =
    let h = history_of c.self.inside.chapter in
    let opened = ap (λ w. is_shut w.history c.args.robot) (sym c.self.view_is) ∙ sym (c.is_shut.ensures c.self.inside.grid h c.self.invariant.is) ∙ c.if-is_shut.false in
    (done, λ q. absurd (not_true q.1 opened))

pub returns-clause-entries : goal.returns-clause-entries
returns-clause-entries g c = c.if-is_full.ensures.room refl

pub returns-clause-err : goal.returns-clause-err
returns-clause-err g c = tt

pub returns-clause-chapter_full : goal.returns-clause-chapter_full
returns-clause-chapter_full g c = let room = c.if-is_full.ensures.room refl in (done, λ p. absurd (not_same room p.2))
