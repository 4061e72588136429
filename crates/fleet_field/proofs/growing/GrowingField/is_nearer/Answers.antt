use Rattle.std.proofs.Common.{◌≡◌, ℕ, get_or, sym, ap, ◌∙◌, arith}
use Rattle.std.proofs.lemmas.Bool.{false≢true}
use Rattle.fleet_grid.specs.Floor.{cell_across}
use Rattle.fleet_grid.proofs.Edges.{beside_across}
use Rattle.fleet_grid.proofs.Forms.{floor_inside, few_cells}
use Rattle.fleet_field.proofs.Read.{there_inside, unlike_is, like_is, none_is}
use Rattle.fleet_field.proofs.Serving.{target_wide}
use Rattle.fleet_field.proofs.growing.GrowingField.is_nearer.Goals as goal

pub returns-then-not-has : goal.returns-then-not-has
returns-then-not-has g c w n =
    (λ f. absurd (false≢true f), λ less. absurd (false≢true (sym c.if-not-has.true ∙ c.has.ensures.1 ((c.requires.open c.args.dir).1 (w, n)))))

pub returns-then-here-eq0 : goal.returns-then-here-eq0
returns-then-here-eq0 g c w n =
    (λ f. absurd (false≢true f), λ less. absurd (none_is c.args.grid.now c.args.self.now c.requires.serves c.args.cell c.requires.floor c.requires.settled c.args.dir w c.index-here.result.now n c.index-here.ensures c.if-here-eq0.true less))

pub across-requires-clause-small : goal.across-requires-clause-small
across-requires-clause-small g c =
    let i = floor_inside c.args.grid.now c.args.cell c.requires.floor in
    let few = few_cells c.args.grid.now c.requires.serves.form in
    omega (arith, i, few)

pub index-there-requires : goal.index-there-requires
index-there-requires g c =
    let o = (c.requires.open c.args.dir).0 (c.has.ensures.0 c.if-not-has.false) in
    let i = there_inside c.args.grid.now c.args.self.now c.requires.serves c.args.cell c.requires.floor o.0 o.1.to in
    let e : c.across.result ≡ o.0 = c.across.ensures ∙ (ap (λ (x : ℕ). cell_across x c.args.cell c.args.dir) c.width.ensures.value ∙ sym (beside_across c.args.grid.now.width c.args.dir c.args.cell o.0 o.1.beside)) in
    omega (arith, i, e, c.args.self.now.labels.ok.0)

pub is_toward-requires : goal.is_toward-requires
is_toward-requires g c = target_wide c.args.grid.now c.args.self.now c.args.self.now c.requires.serves

pub returns-then-is_toward : goal.returns-then-is_toward
returns-then-is_toward g c w n =
    let e : c.across.result ≡ w = c.across.ensures ∙ (ap (λ (x : ℕ). cell_across x c.args.cell c.args.dir) c.width.ensures.value ∙ sym (beside_across c.args.grid.now.width c.args.dir c.args.cell w n.beside)) in
    let both = unlike_is c.args.grid.now c.args.self.now c.requires.serves c.args.cell c.requires.floor c.args.dir w c.index-here.result.now c.index-there.result.now n c.index-here.ensures
    (c.index-there.ensures ∙ ap (λ (x : ℕ). get_or c.args.self.now.labels.items x c.index-there.result.now) e) c.if-here-eq0.false (c.is_toward.ensures.0 c.if-is_toward.true) in
    (λ b. both.0 (c.is_other.ensures.0 b), λ less. c.is_other.ensures.1 (both.1 less))

pub returns-else-is_toward : goal.returns-else-is_toward
returns-else-is_toward g c w n =
    let e : c.across.result ≡ w = c.across.ensures ∙ (ap (λ (x : ℕ). cell_across x c.args.cell c.args.dir) c.width.ensures.value ∙ sym (beside_across c.args.grid.now.width c.args.dir c.args.cell w n.beside)) in
    like_is c.args.grid.now c.args.self.now c.requires.serves c.args.cell c.requires.floor c.args.dir w c.index-here.result.now c.index-there.result.now n c.index-here.ensures
    (c.index-there.ensures ∙ ap (λ (x : ℕ). get_or c.args.self.now.labels.items x c.index-there.result.now) e) c.requires.settled c.if-here-eq0.false
    (λ near. false≢true (sym c.if-is_toward.false ∙ c.is_toward.ensures.1 near))
