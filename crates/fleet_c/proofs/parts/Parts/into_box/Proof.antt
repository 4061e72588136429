-- `into_box`: the parts give the call what it asks for, the value and the right to free its block.
use Rattle.fleet_c.proofs.BoxWalk.{◌≡◌, refl, sym, subst, ap, List, [], ◌∷◌, ◌++◌, T, Ura, Fn, Args, Body, a_type, dcons, dnil, place, copy, assign, rv_opd, seq, return, inst_fn, Val, vptr, has_ty, WT, SProp, ent, id⊢, ftrue, fsep, flft, ◌⊑◌, Fun, fact, tables, tables_of, Memory, Routine, WpFn, Tables, Logic, Item, at_ret, ‵, raw, ◌⊛◌, some, later, ◌$◌, ◌∵◌, !, qed, by, move, drop, use1, join, split, split3, pick, rewrite, fsplit, fjoin, feq_i, suffices, await, done, whole, sub, stop, fld, no_more, and_then, of_opd, returns, enter, first, blocks, exec, alloc_all, pass_all, free_all, look_at, get, get_in, sets, lands_last, env, no, bounded, RattleType, block_ptr, plain, heard, nothing, only, calls_at_last, Ended, Clauses, triple_of, Triple, Contract, says, Stays, stay_dropped, walk_of, ends_at, fm_of, token, Goes-blank, proved_at, box_owns, Bx, D, R, P, B, word, box_typed, box_ty, box_out, box_in}
use Rattle.fleet_c.specs.contracts.parts.Parts as parts
use Rattle.fleet_c.specs.contracts.parts.Parts.into_box as this
use Rattle.fleet_c.specs.contracts.parts.Parts.into_box.Key.{name as #self}
use Rattle.fleet_c.proofs.parts.Parts.into_box.Statement.{statement}
use Rattle.fleet_c.proofs.parts.Parts.into_box.Code as code
use Rattle.std_alloc.specs.contracts.boxed.Box.from_raw as closing
use Rattle.std_alloc.proofs.boxed.Box.from_raw.Symbol as closing_name
use Rattle.std_alloc.proofs.boxed.Box.from_raw.Met.{met}

-- what runs when the call has returned
abbrev rest : Body
rest = seq (assign (place 0 []) (rv_opd (copy (place 4 [])))) return

module _ (E : Bx) where
  abbrev passed : Args
  passed = bounded (a_type ∷ a_type ∷ []) (E.row, (E.al.row, tt)) (dcons E.al.d (dcons E.al.drops dnil))

  abbrev body : Fn
  body = inst_fn passed code.function

  abbrev ends : Ended
  ends = this.ended E.row E.al.row E.al.g E.al.d E.al.drops

  abbrev Given : RattleType
  Given = parts.the_row (R E) (P E) E.al.g

  abbrev stays : Stays ends.signature.params ends.kept
  stays = (stay_dropped (plain (λ _. Given)) no, tt)

  module _ {M : Type 1} {𝓤 : Ura M} (𝓛 : Logic 𝓤) (mem : Memory → SProp 𝓤) (run : Routine → Fun 𝓤) (𝓣 : Tables 𝓤 𝓛.H) where
    open 𝓛 use {H}

    abbrev clauses : Clauses 𝓤 ends
    clauses = this.clauses E.row E.al.row E.al.g E.al.d E.al.drops 𝓛 mem run

    abbrev Shuts : Contract 𝓤
    Shuts = triple_of 𝓛 (closing.signature E.row E.al.row E.al.g E.al.d E.al.drops) (closing.spec E.row E.al.row E.al.g E.al.d E.al.drops 𝓛 mem run)

    walk : Triple 𝓤 (𝓣.C (closing_name.name passed)) Shuts → (z : (walk_of 𝓛 ends stays clauses).Ghost)
        → ent 𝓤 ((walk_of 𝓛 ends stays clauses).pre z) (WpFn 𝓤 H 𝓣.C 𝓣.Λ body (z.0.4.0 ++ []) ((walk_of 𝓛 ends stays clauses).post z))
    walk known z =
        let given = z.0.3.0 in let by_whom = given.alloc in let x = given.value in
        let boxed : D E = record { ptr = given.ptr; alloc = by_whom; value = x } in
        let Post = (walk_of 𝓛 ends stays clauses).post z in
        let alive : Item 𝓤 = ‵ (flft z.0.0.0 z.0.1.0) ⊛ ‵ (flft z.0.0.1.0 z.0.1.1.0) ⊛ ‵ ftrue in
        let lives : Item 𝓤 = raw (fact 𝓤 (z.0.0.0 ⊑ E.row.lives)) in let lives' : Item 𝓤 = raw (fact 𝓤 (z.0.0.1.0 ⊑ E.al.row.lives)) in
        qed 𝓛 ((alive ⊛ ‵ (fsep ((B E).own_val boxed z.0.4.0) ftrue)) ∷ (lives ⊛ lives' ⊛ ‵ ftrue) ∷ []) ∵ split ! $ move ! (1 ∷ []) $ fsplit ! $
        box_out E ! boxed z.0.4.0 (λ b o h at is_word fits. fjoin ! $
        let w = word E h b o in
        let asked : Shuts.Ghost = ((z.0.0, z.0.1, tt, (by_whom, (block_ptr b o, tt)), (h ∷ [], (vptr b o ∷ [], tt))), x) in
        let Γ : List (Item 𝓤) = ‵ (box_owns (token E.al by_whom) (R E) (block_ptr b o) x) ∷ ‵ ((P E).own_val by_whom (h ∷ [])) ∷ ‵ ftrue ∷ alive ∷ (lives ⊛ lives' ⊛ ‵ ftrue) ∷ [] in
        by ! (subst (λ (ws : List Val). ent 𝓤 (types.Kit.⋆ 𝓛 Γ) (WpFn 𝓤 H 𝓣.C 𝓣.Λ body (ws ++ []) Post)) (sym is_word)
        (qed 𝓛 Γ ∵ enter ! 𝓣.C 𝓣.Λ body (w ∷ []) _ $ alloc_all ! (λ l. pass_all ! refl (box_typed E h b o fits, tt) $
        sets ! (of_opd ! (get_in ! (fld ! refl (stop !)) (sub ! 0 refl (whole !)))) refl (tt, tt) $
        sets ! (of_opd ! (get_in ! (fld ! refl (stop !)) (sub ! 1 refl (whole !)))) refl fits $
        first ! $ blocks ! $ sets ! (of_opd ! (get ! refl)) refl fits $
        -- the tokens, the arguments and what the call requires, in its order
        move ! (4 ∷ []) $ split3 ! $ move ! (2 ∷ []) $ drop ! $ move ! (1 ∷ 2 ∷ []) $ join ! $ move ! (1 ∷ 0 ∷ []) $ join ! $
        move ! (2 ∷ []) $ feq_i ! (List Val) (vptr b o ∷ []) (vptr b o ∷ []) refl $ fjoin ! $ move ! (2 ∷ 0 ∷ []) $ fjoin ! $
        move ! (2 ∷ 0 ∷ []) $ join ! $ join ! $ use1 𝓛 (raw (Shuts.pre asked)) (id⊢ 𝓤 _) $
        calls_at_last ! (fm_of 𝓤 H 𝓛.laws 𝓣) Shuts known asked (and_then ! (get ! refl) (and_then ! (get ! refl) (no_more !))) (λ u.
        use1 𝓛 (later (some (λ (r : D E). (alive ⊛ ‵ ((B E).own_val r (u ∷ [])))
        ⊛ some (λ (_ : Unit {0} × (Unit {0} × Unit {0})). ‵ (fsep ftrue (fsep ftrue ftrue)) ⊛ (raw (fact 𝓤 (r.value ≡ x)) ⊛ raw (fact 𝓤 (r.alloc ≡ by_whom))))))) (id⊢ 𝓤 _) $
        await ! tt $ pick ! (λ r. split ! $ move ! (1 ∷ []) $ pick ! (λ _. split3 ! $ drop ! $ heard ! (r.value ≡ x) (λ same. drop ! $ split ! $ move ! (1 ∷ []) $
        box_out E ! r (u ∷ []) (λ c k h' at' is_word' fits'. box_in E ! r c k r.value at' refl $ rewrite ! 0 (λ (ws : List Val). ‵ ((B E).own_val r ws)) (sym is_word') refl $
        let typed : T (has_ty (box_ty E) u) × WT u = subst (λ (s : Val). T (has_ty (box_ty E) s) × WT s) (sym (ap only is_word')) (box_typed E h' c k fits') in
        lands_last ! refl typed $ exec ! 𝓣.C 𝓣.Λ (env body.locals l) rest (at_ret (env body.locals l) Post) $
        sets ! (of_opd ! (get ! refl)) refl typed $ returns ! (look_at ! 0 refl) $ free_all ! refl $
        suffices ! _ (ends_at 𝓛 ends stays clauses z u r ((tt, (tt, tt)), tt) (tt, tt)) $ says ! same $
        nothing ! $ nothing ! $ fjoin ! $ join ! $ move ! (1 ∷ 0 ∷ []) $ join ! $ done !)))))))))

pub into_box_spec : {M : Type 1} → statement M
unfolding tables_of
into_box_spec 𝓤 𝓛 𝓜 𝓡 wired X Z LX LZ g d drops allocator meets =
    let E : Bx = record { row = X; laws = LX; al = record { row = Z; laws = LZ; g = g; d = d; drops = drops } } in
    let 𝓣 : Tables 𝓤 𝓛.H = tables_of 𝓤 𝓛.H 𝓜 (tables 𝓤 𝓛.H 𝓜 𝓡 𝓡.env) in
    let known = met 𝓤 𝓛 𝓜 𝓡 (code.calls-std_alloc::boxed::Box::from_raw 𝓡.env wired) X Z LX LZ g d drops allocator meets in
    proved_at 𝓛 (ends E) (stays E) (clauses E 𝓛 𝓜.mem 𝓡.returns 𝓣) 𝓜 𝓡
    (Goes-blank 𝓛 2 (plain (λ _. Given E)) no (λ κs x f. tt), tt) (#self (passed E)) (body E)
    (code.unfolded 𝓤 𝓛.H 𝓜 𝓡 wired (X, (Z, tt)) d drops)
    (λ z are. walk E 𝓛 𝓜.mem 𝓡.returns 𝓣 known z)
