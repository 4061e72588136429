-- A name that begins and ends as that of a chapter.
use Rattle.std.proofs.Common.{◌≡◌, ◌≢◌, ◌∙◌, ◌<◌, ◌^◌, ◌++◌, List, ℕ, Option, Some, sym, ap, subst}
use Rattle.std.specs.Prelude.{MatchOption, codes, decimal}
use Rattle.std.proofs.lemmas.Bool.Decides.{Decides-eqb}
use Rattle.std.proofs.lemmas.Slice.Eq.{strip_prefix_is, strip_suffix_is}
use Rattle.fleet_lib.proofs.Folder.{is-name, like, no-name}
use Rattle.fleet_lib.proofs.names.said_by.Goals as goal

pub returns-in-Some-2 : goal.returns-in-Some-2
returns-in-Some-2 c =
    let begins : c.args.name.now ≡ codes "chapter-" ++ c.in-Some.rest.now = sym c.as_bytes.ensures.value ∙ (strip_prefix_is Decides-eqb c.as_bytes.result.now c.as_slice.result.now (Some c.in-Some.rest) c.in-Some.ensures.cases ∙ ap (λ (p : List ℕ). p ++ c.in-Some.rest.now) c.as_slice.ensures) in
    let ends : c.in-Some.rest.now ≡ c.in-Some-strip_suffix.middle.now ++ codes ".json" = strip_suffix_is Decides-eqb c.in-Some.rest.now c.as_slice-2.result.now (Some c.in-Some-strip_suffix.middle) c.in-Some-strip_suffix.ensures.cases ∙ ap (λ (p : List ℕ). c.in-Some-strip_suffix.middle.now ++ p) c.as_slice-2.ensures in
    let (small, digits) = (subst (λ (o : Option ℕ). MatchOption o ((n : ℕ) → n < 2 ^ 32 → c.in-Some-strip_suffix.middle.now ≢ decimal n) (λ n. (n < 2 ^ 32) × (c.in-Some-strip_suffix.middle.now ≡ decimal n))) c.in-Some-2.is c.in_ok-number.ensures) in
    (small, is-name c.args.name.now c.in-Some.rest.now begins c.in-Some-strip_suffix.middle.now ends c.in-Some-2.number digits)

pub returns-in-None : goal.returns-in-None
returns-in-None c =
    let begins : c.args.name.now ≡ codes "chapter-" ++ c.in-Some.rest.now = sym c.as_bytes.ensures.value ∙ (strip_prefix_is Decides-eqb c.as_bytes.result.now c.as_slice.result.now (Some c.in-Some.rest) c.in-Some.ensures.cases ∙ ap (λ (p : List ℕ). p ++ c.in-Some.rest.now) c.as_slice.ensures) in
    let ends : c.in-Some.rest.now ≡ c.in-Some-strip_suffix.middle.now ++ codes ".json" = strip_suffix_is Decides-eqb c.in-Some.rest.now c.as_slice-2.result.now (Some c.in-Some-strip_suffix.middle) c.in-Some-strip_suffix.ensures.cases ∙ ap (λ (p : List ℕ). c.in-Some-strip_suffix.middle.now ++ p) c.as_slice-2.ensures in (
      like c.args.name.now c.in-Some.rest.now begins c.in-Some-strip_suffix.middle.now ends,
      no-name c.args.name.now c.in-Some.rest.now begins c.in-Some-strip_suffix.middle.now ends
          (subst (λ (o : Option ℕ). MatchOption o ((n : ℕ) → n < 2 ^ 32 → c.in-Some-strip_suffix.middle.now ≢ decimal n) (λ n. (n < 2 ^ 32) × (c.in-Some-strip_suffix.middle.now ≡ decimal n))) c.in-None.is c.in_ok-number.ensures),
    )
