use Rattle.std.proofs.Common.{◌≡◌, ℕ, get_or, sym, ap, subst, ◌∙◌, arith}
use Rattle.std.proofs.lemmas.Bool.{false≢true}
use Rattle.std.proofs.lemmas.List.{get_or_default}
use Rattle.fleet_grid.specs.Floor.{cell_across}
use Rattle.fleet_grid.proofs.Edges.{beside_across}
use Rattle.fleet_grid.proofs.Forms.{floor_inside, few_cells, wide}
use Rattle.fleet_field.specs.declared.target.Target.{Target}
use Rattle.fleet_field.specs.inside.Estimate.{IsToward}
use Rattle.fleet_field.proofs.Read.{there_inside, nearer_toward, nearer_first, home_is}
use Rattle.fleet_field.proofs.Serving.{target_wide}
use Rattle.fleet_field.proofs.growing.GrowingField.doubt.Goals as goal

pub returns-then-not-has-clause-none : goal.returns-then-not-has-clause-none
returns-then-not-has-clause-none g c e w n less = absurd (false≢true (sym c.if-not-has.true ∙ c.has.ensures.1 ((c.requires.open c.args.dir).1 (w, n))))

pub is_toward-requires : goal.is_toward-requires
is_toward-requires g c = target_wide c.args.grid.now c.args.self.now c.args.self.now c.requires.serves

pub returns-then-is_toward-clause-none : goal.returns-then-is_toward-clause-none
returns-then-is_toward-clause-none g c e w n less =
    nearer_toward c.args.grid.now c.args.self.now c.requires.serves c.args.cell c.requires.floor c.requires.come c.args.dir w n (c.is_toward.ensures.0 c.if-is_toward.true) less

pub across-next-requires-clause-small : goal.across-next-requires-clause-small
across-next-requires-clause-small g c =
    let i = floor_inside c.args.grid.now c.args.cell c.requires.floor in
    let few = few_cells c.args.grid.now c.requires.serves.form in
    omega (arith, i, few)

pub index-requires : goal.index-requires
index-requires g c =
    let o = (c.requires.open c.args.dir).0 (c.has.ensures.0 c.if-not-has.false) in
    let i = there_inside c.args.grid.now c.args.self.now c.requires.serves c.args.cell c.requires.floor o.0 o.1.to in
    let e : c.across-next.result ≡ o.0 = c.across-next.ensures ∙ (ap (λ (x : ℕ). cell_across x c.args.cell c.args.dir) c.width.ensures.value ∙ sym (beside_across c.args.grid.now.width c.args.dir c.args.cell o.0 o.1.beside)) in
    omega (arith, i, e, c.args.self.now.labels.ok.0)

pub returns-then-index-ne0-clause-none : goal.returns-then-index-ne0-clause-none
returns-then-index-ne0-clause-none g c e w n less none =
    let i = there_inside c.args.grid.now c.args.self.now c.requires.serves c.args.cell c.requires.floor w n.to in
    let q : c.across-next.result ≡ w = c.across-next.ensures ∙ (ap (λ (x : ℕ). cell_across x c.args.cell c.args.dir) c.width.ensures.value ∙ sym (beside_across c.args.grid.now.width c.args.dir c.args.cell w n.beside)) in
    c.if-index-ne0.true (c.index.ensures ∙ (ap (λ (x : ℕ). get_or c.args.self.now.labels.items x c.index.result.now) q ∙ (sym (get_or_default c.args.self.now.labels.items w 0 c.index.result.now i) ∙ none)))

pub of-home-requires : goal.of-home-requires
of-home-requires g c =
    let w = wide c.args.grid.now c.args.cell c.requires.serves.form c.requires.floor in
    omega (arith, w, c.width-then-self-eq-FIRST.ensures.value)

pub is_toward-requires-then-self-eq-FIRST : goal.is_toward-requires-then-self-eq-FIRST
is_toward-requires-then-self-eq-FIRST g c =
    let w = wide c.args.grid.now c.args.cell c.requires.serves.form c.requires.floor in
    let e = ap (λ (t : Target). t.width) c.of-home.ensures in
    omega (arith, w, e, c.width-then-self-eq-FIRST.ensures.value)

pub returns-then-not-is_toward-clause-none : goal.returns-then-not-is_toward-clause-none
returns-then-not-is_toward-clause-none g c e w n less =
    let home = home_is c.width-then-self-eq-FIRST.result c.args.grid.now.width c.args.self.now.goal c.of-home.result c.args.self.now.target c.of-home.ensures c.width-then-self-eq-FIRST.ensures.value c.requires.serves.width in
    absurd (nearer_first c.args.grid.now c.args.self.now c.requires.serves c.args.cell c.requires.floor c.requires.come c.if-self-eq-FIRST.true c.args.dir w n
    (λ t. false≢true (sym c.if-not-is_toward.true ∙ c.is_toward-then-self-eq-FIRST.ensures.1 (subst (λ (h : Target). IsToward h c.args.cell c.args.dir) (sym home) t))) less)

pub returns-else-not-is_toward-clause-inside : goal.returns-else-not-is_toward-clause-inside
returns-else-not-is_toward-clause-inside g c =
    let o = (c.requires.open c.args.dir).0 (c.has.ensures.0 c.if-not-has.false) in
    let i = there_inside c.args.grid.now c.args.self.now c.requires.serves c.args.cell c.requires.floor o.0 o.1.to in
    let e : c.across-next.result ≡ o.0 = c.across-next.ensures ∙ (ap (λ (x : ℕ). cell_across x c.args.cell c.args.dir) c.width.ensures.value ∙ sym (beside_across c.args.grid.now.width c.args.dir c.args.cell o.0 o.1.beside)) in
    omega (arith, i, e)

pub returns-else-self-eq-FIRST-clause-inside : goal.returns-else-self-eq-FIRST-clause-inside
returns-else-self-eq-FIRST-clause-inside g c =
    let o = (c.requires.open c.args.dir).0 (c.has.ensures.0 c.if-not-has.false) in
    let i = there_inside c.args.grid.now c.args.self.now c.requires.serves c.args.cell c.requires.floor o.0 o.1.to in
    let e : c.across-next.result ≡ o.0 = c.across-next.ensures ∙ (ap (λ (x : ℕ). cell_across x c.args.cell c.args.dir) c.width.ensures.value ∙ sym (beside_across c.args.grid.now.width c.args.dir c.args.cell o.0 o.1.beside)) in
    omega (arith, i, e)
