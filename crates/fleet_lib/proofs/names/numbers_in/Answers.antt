-- One name more.
use Rattle.std.proofs.Common.{◌≡◌, ◌∙◌, ◌+◌, ◌∷◌, [], ◌++◌, List, ℕ, ap, arith, sym, subst, take, take_all}
use Rattle.std.specs.Prelude.{map, slice_index_or, string_bytes}
use Rattle.std.proofs.lemmas.List.{get_or-map, length-map, map_more, take-map}
use Rattle.fleet_lib.specs.declared.names.Named.{Named}
use Rattle.fleet_lib.specs.Names.{AreNumbers, AreReadable, IsLikeName, IsNamed, IsNoName}
use Rattle.fleet_lib.proofs.Folder.{numbers-other, numbers-more, readable-more}
use Rattle.fleet_lib.proofs.names.numbers_in.Goals as goal
use Rattle.fleet_lib.proofs.names.numbers_in.Goals.{in-Other, in-Chapter+in-Ok}

pub loop-at-preserved : goal.loop-at-preserved
loop-at-preserved c =
    let name = string_bytes c.index-names-at.result in
    let names = map (λ s. string_bytes s) (take c.loop-at.at c.args.names.now) in
    let says = subst (λ (l : List ℕ). IsNamed l c.in_ok-said_by.field-0) c.as_str.ensures.value c.in_ok-said_by.ensures in
    let all : map (λ s. string_bytes s) (take (c.loop-at.at + 1) c.args.names.now) ≡ names ++ name ∷ [] = map_more (λ s. string_bytes s) c.args.names.now c.loop-at.at c.index-names-at.result c.loop-at-test.true ∙ ap (λ s. names ++ string_bytes s ∷ []) (sym c.index-names-at.is) in
    let both : AreNumbers (names ++ name ∷ []) c.match-branch-2.numbers.items × AreReadable (names ++ name ∷ []) = elim c.match-branch-2.branch [
      | in-Other w ↦ (
        subst (λ (v : _). AreNumbers (names ++ name ∷ []) v.items) (sym w.numbers-is) (numbers-other names c.loop-at.numbers.items name c.loop-at.invariant.numbers (subst (λ (n : Named). IsNamed name n) w.in-Other.is says)),
        readable-more names name c.loop-at.invariant.readable (λ like none. subst (λ (n : Named). IsNamed name n) w.in-Other.is says like),
      )
      | in-Chapter+in-Ok w ↦
          let (small, is) = subst (λ (n : Named). IsNamed name n) w.in-Chapter.is says in (
            subst (λ (v : _). AreNumbers (names ++ name ∷ []) v.items) (sym w.numbers-is)
                (subst (λ (l : List ℕ). AreNumbers (names ++ name ∷ []) l) (sym w.in-Ok.ensures.items) (numbers-more names c.loop-at.numbers.items name c.loop-at.invariant.numbers w.in-Chapter.number small is)),
            readable-more names name c.loop-at.invariant.readable (λ like none. none w.in-Chapter.number small is),
          )
    ] in
    record {
      numbers = subst (λ (l : List (List ℕ)). AreNumbers l c.match-branch-2.numbers.items) (sym all) both.0;
      readable = subst (λ (l : List (List ℕ)). AreReadable l) (sym all) both.1;
    }

pub returns-in-Unreadable-clause-fault : goal.returns-in-Unreadable-clause-fault
returns-in-Unreadable-clause-fault c =
    let name = string_bytes c.index-names-at.result in
    let says = subst (λ (l : List ℕ). IsNamed l c.in_ok-said_by.field-0) c.as_str.ensures.value c.in_ok-said_by.ensures in
    let (like, none) = subst (λ (n : Named). IsNamed name n) c.in-Unreadable.is says in
    let is : slice_index_or (map (λ s. string_bytes s) c.args.names.now) c.loop-at.at [] ≡ name = get_or-map (λ s. string_bytes s) c.args.names.now c.loop-at.at c.index-names-at.result [] c.loop-at-test.true ∙ ap (λ s. string_bytes s) (sym c.index-names-at.is) in
    record {
      inside = omega (arith, c.loop-at-test.true, length-map c.args.names.now (λ s. string_bytes s));
      like = subst (λ (l : List ℕ). IsLikeName l) (sym is) like;
      none = subst (λ (l : List ℕ). IsNoName l) (sym is) none;
      before = subst (λ (l : List (List ℕ)). AreReadable l) (sym (take-map (λ s. string_bytes s) c.loop-at.at c.args.names.now)) c.loop-at.invariant.readable;
    }

pub returns-clause-readable : goal.returns-clause-readable
returns-clause-readable c = subst (λ (l : List _). AreReadable (map (λ s. string_bytes s) l)) (take_all c.loop-at.at c.args.names.now (omega (arith, c.loop-at-test.false))) c.loop-at.invariant.readable
