-- One more placement ends where the cells do.
use Rattle.std.proofs.Common.{◌≡◌, ℕ, List, [], ◌∷◌, ◌++◌, length, subst, sym, ap, ◌∙◌, arith}
use Rattle.std.proofs.lemmas.List.{length-append}
use Rattle.fleet_plans.specs.Cut.{cut, IsCut}
use Rattle.fleet_plans.proofs.Cuts.{is_cut_more, cut_more}
use Rattle.fleet_plans.proofs.placements.Placements.push.Goals as goal

-- the ends and the cells after the call
more_is : (old ends : List ℕ) (cells place more : List ℕ) (end : ℕ) → IsCut 0 old (length cells) → more ≡ cells ++ place → end ≡ length more → ends ≡ old ++ end ∷ [] → IsCut 0 ends (length more)
more_is old ends cells place more end is grown here added =
    subst (λ (es : List ℕ). IsCut 0 es (length more)) (sym added)
    (subst (λ (e : ℕ). IsCut 0 (old ++ e ∷ []) (length more)) (sym here)
    (is_cut_more 0 old (length cells) (length more) (omega (arith, ap length grown, length-append cells place)) is))

seen : (old ends : List ℕ) (cells place more : List ℕ) (end : ℕ) (was : List (List ℕ)) → IsCut 0 old (length cells) → more ≡ cells ++ place → end ≡ length more → ends ≡ old ++ end ∷ [] → cut 0 old cells ≡ was
    → cut 0 ends more ≡ was ++ place ∷ []
seen old ends cells place more end was is grown here added view =
    ap (λ (es : List ℕ). cut 0 es more) added
    ∙ (ap (λ (e : ℕ). cut 0 (old ++ e ∷ []) more) here
    ∙ (ap (λ (m : List ℕ). cut 0 (old ++ length m ∷ []) m) grown
    ∙ (cut_more 0 old cells place is
    ∙ ap (λ (xs : List (List ℕ)). xs ++ place ∷ []) view)))

pub invariant_of-self-2 : goal.invariant_of-self-2
invariant_of-self-2 g c =
    let old = c.self.inside in
    let ends = c.push_reserved.ensures.items ∙ ap (λ (es : List ℕ). es ++ c.len.result ∷ []) c.in_ok-reserve.ensures.items in
    more_is old.ends.items c.push_reserved.new.self.items old.cells.items c.args.place.now c.extend_from_slice.new.self.items c.len.result c.self.invariant
    c.in_ok-extend_from_slice.ensures.items (c.len.ensures ∙ c.extend_from_slice.new.self.ok.0) ends

pub returns-clause-added : goal.returns-clause-added
returns-clause-added g c =
    let old = c.self.inside in
    let ends = c.push_reserved.ensures.items ∙ ap (λ (es : List ℕ). es ++ c.len.result ∷ []) c.in_ok-reserve.ensures.items in
    seen old.ends.items c.push_reserved.new.self.items old.cells.items c.args.place.now c.extend_from_slice.new.self.items c.len.result c.args.self.now c.self.invariant
    c.in_ok-extend_from_slice.ensures.items (c.len.ensures ∙ c.extend_from_slice.new.self.ok.0) ends c.self.view_is
