-- A refusal of one call is that of the call around it.
use Rattle.std.proofs.Common.{◌≡◌, ◌↔◌, ap, sym, ◌∙◌}
use Rattle.std.specs.Prelude.{Ok, Err, Result, IfOk, IfErr, OnOk}

abbrev err_of : (X : Type 0) {E : Type 0} → E → Result X E
err_of X e = Err e

abbrev ok_of : (E : Type 0) {X : Type 0} → X → Result X E
ok_of E x = Ok x

err_over : (X Y : Type 0) {E : Type 0} (e f : E) → err_of X e ≡ err_of X f → err_of Y e ≡ err_of Y f
err_over X Y e f s = let same : e ≡ f = cc in ap (err_of Y) same

module _ {X Y E : Type 0} where
  pub refused-err : (r : Result X E) (e f : E) (P : Type 0) → r ≡ Err e → ((r ≡ Err f) ↔ P) → ((err_of Y e ≡ Err f) ↔ P)
  refused-err r e f P is h = (
    (λ s. h.0 (is ∙ err_over Y X e f s)),
    (λ p. err_over X Y e f (sym is ∙ h.1 p)),
  )

  pub refused-ok : (r : Result X E) (x : X) (y : Y) (f : E) (P : Type 0) → r ≡ Ok x → ((r ≡ Err f) ↔ P) → ((ok_of E y ≡ Err f) ↔ P)
  refused-ok r x y f P is h = (
    (λ s. cc),
    (λ p. let bad : ok_of E x ≡ err_of X f = sym is ∙ h.1 p in cc),
  )

-- a fault that one hall of a kind gives is a fault that some of that kind gives
pub some-fault : {W X E : Type 0} (L : W → Type 0) (P : W → E → Type 0) (w : W) (r : Result X E) → L w → IfErr r (λ e. P w e) → IfErr r (λ e. (v : W) × L v × P v e)
some-fault L P w (Ok x) l h = tt
some-fault L P w (Err e) l h = (w, l, h)

-- and so of the result of a hall
pub some-kind : {W X E : Type 0} (L : W → Type 0) (P : W → X → Type 0) (w : W) (r : Result X E) → L w → IfOk r (λ x. P w x) → IfOk r (λ x. (v : W) × L v × P v x)
some-kind L P w (Ok x) l h = (w, l, h)
some-kind L P w (Err e) l h = tt

-- what an answer says of the world that it leaves, it says of some world
pub some-outcome : {W X E : Type 0} {R : X → Type 0} (P : W → X → Type 0) (w : W) (r : Result X E) → ((x : X) → R x → P w x) → IfOk r R → IfOk r (λ x. (v : W) × P v x)
some-outcome P w (Ok x) says h = (w, says x h)
some-outcome P w (Err e) says h = tt

-- what stands at a success, and what follows from it
pub ok-kind : {X E P Q : Type 0} (r : Result X E) → (P → Q) → OnOk r P → OnOk r Q
ok-kind (Ok x) more h = more h
ok-kind (Err e) more h = tt

-- what a call does between two worlds of a kind, it does between some of that kind
pub some-step : {W X E : Type 0} (L : W → Type 0) (P : W → X → W → Type 0) (h g : W) (r : Result X E) → L h → IfOk r (λ x. P h x g) → IfOk r (λ x. (v u : W) × L v × P v x u)
some-step L P h g (Ok x) l p = (h, g, l, p)
some-step L P h g (Err e) l p = tt

-- with a fact of the world that is left
pub some-step-left : {W X E : Type 0} (L : W → Type 0) (P : W → X → W → Type 0) (Q : W → Type 0) (h g : W) (r : Result X E) → L h → IfOk r (λ x. P h x g × Q g) →
    IfOk r (λ x. (v u : W) × L v × P v x u × Q u)
some-step-left L P Q h g (Ok x) l p = (h, g, l, p.0, p.1)
some-step-left L P Q h g (Err e) l p = tt

pub some-stop : {W X E : Type 0} (L : W → Type 0) (P : W → E → W → Type 0) (h g : W) (r : Result X E) → L h → IfErr r (λ e. P h e g) → IfErr r (λ e. (v u : W) × L v × P v e u)
some-stop L P h g (Ok x) l p = tt
some-stop L P h g (Err e) l p = (h, g, l, p)
