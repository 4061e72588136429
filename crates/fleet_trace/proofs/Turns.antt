-- Texts that tell chapters, and chapters that follow one another, one by one.
use Rattle.std.proofs.Common.{◌≡◌, ◌∙◌, ℕ, ◌+◌, ◌<◌, ◌≤◌, List, [], ◌∷◌, ◌++◌, length, get_or, map, take, drop, refl, sym, ap, subst, append_assoc, arith, Bool, true, false}
use Rattle.std.specs.Prelude.{◌==◌, ◌&&◌}
use Rattle.std.specs.Str.{bytes_eq}
use Rattle.std.proofs.lemmas.Bool.{eqb-true}
use Rattle.std.proofs.lemmas.Bool.Decides.{Decides-eqb}
use Rattle.std.proofs.lemmas.List.{take_more, drop_more, take_all, take-append-drop, map-append, length-map, length-take-le}
use Rattle.std.proofs.lemmas.Slice.Eq.{bytes_eq-Decides}
use Rattle.std.specs.declared.alloc.Global.{Global}
use Rattle.fleet_grid.specs.Floor.{Floor}
use Rattle.fleet_history.specs.History.{clock, place}
use Rattle.fleet_history.specs.Next.{next_opening}
use Rattle.fleet_trace.specs.declared.fault.ChaptersFault.{ChaptersFault}
use Rattle.fleet_trace.specs.declared.fault.ChaptersFault.TheVariants as fault
use Rattle.fleet_trace.specs.Trace.{Trace}
use Rattle.fleet_trace.specs.Reads.{Tells}
use Rattle.fleet_trace.specs.Chapters.{TellEach, IsSound, Continues, AreInTurn, IsFirstUnfit}
use Rattle.fleet_trace.specs.inside.Turns.{IsToldMore, IsUntold, AreUntold, goes_on}

-- ---- texts

tell-more : (bs : List (List ℕ)) (ts : List (Trace Global)) (b : List ℕ) (t : Trace Global) → TellEach bs ts → Tells b t → TellEach (bs ++ b ∷ []) (ts ++ t ∷ [])
tell-more [] [] b t each tells = (tells, tt)
tell-more (x ∷ xs) (y ∷ ys) b t each tells = (each.0, tell-more xs ys b t each.1 tells)
tell-more [] (y ∷ ys) b t each tells = absurd each
tell-more (x ∷ xs) [] b t each tells = absurd each

module _ {V : Type 0} (f : V → List ℕ) (texts : List V) (k : ℕ) where
  module _ (x : V) (less : k < length texts) (is : get_or texts k x ≡ x) where
    -- one more text tells a trace
    pub next-told : (ts more : List (Trace Global)) → TellEach (map f (take k texts)) ts → IsToldMore (f x) ts more → TellEach (map f (take (k + 1) texts)) more
    next-told ts more each told =
        let grown : take (k + 1) texts ≡ take k texts ++ x ∷ [] = take_more texts k x less ∙ ap (λ y. take k texts ++ y ∷ []) is in
        let bytes : map f (take (k + 1) texts) ≡ map f (take k texts) ++ f x ∷ [] = ap (map f) grown ∙ map-append f (take k texts) (x ∷ []) in
        rw (bytes, told.2) (tell-more (map f (take k texts)) ts (f x) told.0 each told.1)

    -- it tells none
    pub untold : (ts : List (Trace Global)) (number : ℕ) (why : ChaptersFault) → TellEach (map f (take k texts)) ts → number ≡ k + 1 → IsUntold number (f x) why → AreUntold (map f texts) why
    untold ts number (fault.Trace n g) each same told =
        let split : texts ≡ take k texts ++ x ∷ drop (k + 1) texts = sym (take-append-drop k texts) ∙ ap (λ l. take k texts ++ l) (drop_more texts k x less ∙ ap (λ y. y ∷ drop (k + 1) texts) is) in
        record {
          before = map f (take k texts);
          text = f x;
          behind = map f (drop (k + 1) texts);
          splits = ap (map f) split ∙ map-append f (take k texts) (x ∷ drop (k + 1) texts);
          place = omega (arith, told.0, same, length-map (take k texts) f, length-take-le k texts (omega (arith, less)));
          traces = ts;
          told = each;
          why = told.1;
          named = told.2;
        }
    untold ts number (fault.Chapter n) each same told = absurd told
    untold ts number fault.NoMemory each same told = tt

  pub all-told : (ts : List (Trace Global)) → length texts ≤ k → TellEach (map f (take k texts)) ts → TellEach (map f texts) ts
  all-told ts past each = subst (λ (l : List V). TellEach (map f l) ts) (take_all k texts past) each

-- ---- two chapters

both : (a b : Bool) → (a && b) ≡ true → (a ≡ true) × (b ≡ true)
both true b e = (refl, e)
both false b e = cc

joint : (a b : Bool) → a ≡ true → b ≡ true → (a && b) ≡ true
joint a b p q = rw (p, q) refl

alike : (a b : ℕ) → a ≡ b → (a == b) ≡ true
alike a b e = (Decides-eqb a b).1 e

module _ {A : Type 0} (m : Floor) (t u : Trace A) where
  pub continued : goes_on t u ≡ true → (IsSound m t.history → u.history.opening ≡ next_opening t.history) → Continues m t u
  continued e state =
      let p = both (u.number == t.number + 1) _ e in
      let q = both (u.history.opening.tick == clock t.history) _ p.1 in
      let r = both (bytes_eq (map (λ x. x.cell) u.history.opening.robots) (place t.history)) _ q.1 in
      let s = both (length u.history.opening.clients == length t.history.opening.clients) _ r.1 in
      let l = both (u.history.opening.queue == t.history.opening.queue) (u.history.opening.life == t.history.opening.life) s.1 in
      record {
        number = eqb-true u.number (t.number + 1) p.0;
        clock = eqb-true u.history.opening.tick (clock t.history) q.0;
        cells = (bytes_eq-Decides (map (λ x. x.cell) u.history.opening.robots) (place t.history)).0 r.0;
        clients = eqb-true (length u.history.opening.clients) (length t.history.opening.clients) s.0;
        queue = eqb-true u.history.opening.queue t.history.opening.queue l.0;
        life = eqb-true u.history.opening.life t.history.opening.life l.1;
        state = state;
      }

  pub goes : Continues m t u → goes_on t u ≡ true
  goes k =
      joint (u.number == t.number + 1) _ (alike u.number (t.number + 1) k.number)
      (joint (u.history.opening.tick == clock t.history) _ (alike u.history.opening.tick (clock t.history) k.clock)
      (joint (bytes_eq (map (λ x. x.cell) u.history.opening.robots) (place t.history)) _ ((bytes_eq-Decides (map (λ x. x.cell) u.history.opening.robots) (place t.history)).1 k.cells)
      (joint (length u.history.opening.clients == length t.history.opening.clients) _ (alike (length u.history.opening.clients) (length t.history.opening.clients) k.clients)
      (joint (u.history.opening.queue == t.history.opening.queue) _ (alike u.history.opening.queue t.history.opening.queue k.queue)
      (alike u.history.opening.life t.history.opening.life k.life)))))

-- ---- all chapters

turn-more : {A : Type 0} (m : Floor) (xs : List (Trace A)) (t u : Trace A) → AreInTurn m (xs ++ t ∷ []) → Continues m t u → AreInTurn m (xs ++ t ∷ u ∷ [])
turn-more m [] t u turn next = (next, tt)
turn-more m (x ∷ []) t u turn next = (turn.0, (next, tt))
turn-more m (x ∷ y ∷ xs) t u turn next = (turn.0, turn-more m (y ∷ xs) t u turn.1 next)

pub one-in-turn : {A C : Type 0} (m : Floor) (g : C → Trace A) (cs : List C) → AreInTurn m (map g (take 1 cs))
one-in-turn m g [] = tt
one-in-turn m g (c ∷ cs) = tt

module _ {A C : Type 0} (m : Floor) (g : C → Trace A) (cs : List C) (i : ℕ) where
  pub all-in-turn : length cs ≤ i → AreInTurn m (map g (take i cs)) → AreInTurn m (map g cs)
  all-in-turn past turn = subst (λ (l : List C). AreInTurn m (map g l)) (take_all i cs past) turn

  module _ (p : ℕ) (at : i ≡ p + 1) (t u : C) (less : i < length cs) (is-t : get_or cs p t ≡ t) (is-u : get_or cs i u ≡ u) (turn : AreInTurn m (map g (take i cs))) where
    front : take i cs ≡ take p cs ++ t ∷ []
    front = ap (λ n. take n cs) at ∙ take_more cs p t (omega (arith, at, less)) ∙ ap (λ y. take p cs ++ y ∷ []) is-t

    pair : take (i + 1) cs ≡ take p cs ++ t ∷ u ∷ []
    pair = take_more cs i u less ∙ ap (λ y. take i cs ++ y ∷ []) is-u ∙ ap (λ (l : List C). l ++ u ∷ []) front ∙ append_assoc (take p cs) (t ∷ []) (u ∷ [])

    before-turn : AreInTurn m (map g (take p cs) ++ g t ∷ [])
    before-turn = subst (λ (l : List (Trace A)). AreInTurn m l) (ap (map g) front ∙ map-append g (take p cs) (t ∷ [])) turn

    -- one more continues the one before it
    pub next-in-turn : Continues m (g t) (g u) → AreInTurn m (map g (take (i + 1) cs))
    next-in-turn next =
        subst (λ (l : List (Trace A)). AreInTurn m l) (sym (ap (map g) pair ∙ map-append g (take p cs) (t ∷ u ∷ []))) (turn-more m (map g (take p cs)) (g t) (g u) before-turn next)

    -- it does not
    pub unfit-here : (Continues m (g t) (g u) → ⊥) → IsFirstUnfit m (map g cs) (i + 1)
    unfit-here unfit =
        let split : cs ≡ take p cs ++ t ∷ u ∷ drop (i + 1) cs =
        sym (take-append-drop (i + 1) cs) ∙ ap (λ (l : List C). l ++ drop (i + 1) cs) pair ∙ append_assoc (take p cs) (t ∷ u ∷ []) (drop (i + 1) cs) in
        record {
          before = map g (take p cs);
          first = g t;
          next = g u;
          behind = map g (drop (i + 1) cs);
          splits = ap (map g) split ∙ map-append g (take p cs) (t ∷ u ∷ drop (i + 1) cs);
          place = omega (arith, at, length-map (take p cs) g, length-take-le p cs (omega (arith, at, less)));
          in_turn = before-turn;
          unfit = unfit;
        }
