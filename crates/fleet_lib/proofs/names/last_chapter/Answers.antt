-- The last of the numbers that names name.
use Rattle.std.proofs.Common.{◌≡◌, ◌∙◌, ◌≤◌, ℕ, List, Bool, true, false, sym, subst}
use Rattle.std.specs.Prelude.{map, nat_lt, string_bytes}
use Rattle.std.specs.List.{All, Contains, list_any}
use Rattle.fleet_lib.specs.Names.{IsRun}
use Rattle.fleet_lib.proofs.Folder.{below-some, is-last, is-missing, none-named, numbers-sorted}
use Rattle.fleet_lib.proofs.names.last_chapter.Goals as goal

pub returns-in_default-clause-ok : goal.returns-in_default-clause-ok
returns-in_default-clause-ok c =
    let names = map (λ s. string_bytes s) c.args.names.now in
    let sorted = c.sort_unstable.new.self.items in
    none-named names sorted (numbers-sorted names c.in_ok-numbers.numbers.items sorted c.in_ok-numbers.ensures.ok c.sort_unstable.ensures.permutation) (sym c.deref.ensures.value ∙ c.in_default.ensures)

pub overflow_sub-result : goal.overflow_sub-result
overflow_sub-result c = below-some c.deref-3.result.now c.begin_of-begin.result (sym c.has_less.ensures ∙ c.if-has_less.true)

pub returns-then-has_less-clause-fault : goal.returns-then-has_less-clause-fault
returns-then-has_less-clause-fault c =
    let names = map (λ s. string_bytes s) c.args.names.now in
    let sorted = c.sort_unstable.new.self.items in
    let begin = c.begin_of-begin.result in
    let last = c.in-Some.last in (
      c.in_ok-numbers.ensures.readable,
      is-missing names sorted (numbers-sorted names c.in_ok-numbers.numbers.items sorted c.in_ok-numbers.ensures.ok c.sort_unstable.ensures.permutation) begin last
          (subst (λ (l : List ℕ). Contains l last) c.deref.ensures.value c.in-Some.ensures.0) (subst (λ (l : List ℕ). All (λ n. n ≤ last) l) c.deref.ensures.value c.in-Some.ensures.1)
          (subst (λ (l : List ℕ). IsRun l begin last) c.deref-2.ensures.value c.begin_of-begin.ensures)
          (subst (λ (l : List ℕ). list_any (λ n. nat_lt n begin) l ≡ true) c.deref-3.ensures.value (sym c.has_less.ensures ∙ c.if-has_less.true)),
    )

pub returns-clause-ok : goal.returns-clause-ok
returns-clause-ok c =
    let names = map (λ s. string_bytes s) c.args.names.now in
    let sorted = c.sort_unstable.new.self.items in
    let begin = c.begin_of-begin.result in
    let last = c.in-Some.last in
    is-last names sorted (numbers-sorted names c.in_ok-numbers.numbers.items sorted c.in_ok-numbers.ensures.ok c.sort_unstable.ensures.permutation) begin last
    (subst (λ (l : List ℕ). Contains l last) c.deref.ensures.value c.in-Some.ensures.0) (subst (λ (l : List ℕ). All (λ n. n ≤ last) l) c.deref.ensures.value c.in-Some.ensures.1)
    (subst (λ (l : List ℕ). IsRun l begin last) c.deref-2.ensures.value c.begin_of-begin.ensures)
    (subst (λ (l : List ℕ). list_any (λ n. nat_lt n begin) l ≡ false) c.deref-3.ensures.value (sym c.has_less.ensures ∙ c.if-has_less.false))
