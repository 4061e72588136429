-- `of`: the call gives the pointer and the allocator, with what the box owned, and the parts keep all three.
use Rattle.fleet_c.proofs.BoxWalk.{◌≡◌, refl, sym, subst, ap, ◌∙◌, List, [], ◌∷◌, ◌++◌, Ura, Fn, Args, Dict, a_type, dcons, dnil, inst_fn, bare, Val, vstruct, of_list, SProp, ent, id⊢, never, fst∗, ftrue, fsep, flft, ◌⊑◌, Fun, fact, tables, tables_of, Memory, Routine, WpFn, Tables, Logic, sem, Item, ‵, raw, ◌⊛◌, some, later, ◌$◌, ◌∵◌, !, qed, by, move, drop, use1, join, split, split3, pick, rewrite, fsplit, fjoin, fpick, feq_l, suffices, await, done, whole, sub, agg, stop, fld, no_more, and_then, of_opd, returns, enter, alloc_all, pass_all, free_all, look_at, get, get_in, sets, lands_as, no, bounded, RattleType, Ptr, RawPtr, block_ptr, null_ptr, ptr_val, in_a_block, plain, heard, nothing, only, Tuple, calls_at, Ended, Clauses, triple_of, Triple, Contract, says, Stays, stay_dropped, walk_of, ends_at, fm_of, token, handle_tells, Goes-blank, proved_at, box_owns, Bx, D, τ, R, P, B, word, box_typed, box_out, box_in}
use Rattle.fleet_c.specs.contracts.parts.Parts as parts
use Rattle.fleet_c.specs.contracts.parts.Parts.of as this
use Rattle.fleet_c.specs.contracts.parts.Parts.of.Key.{name as #self}
use Rattle.fleet_c.proofs.parts.Parts.of.Statement.{statement}
use Rattle.fleet_c.proofs.parts.Parts.of.Code as code
use Rattle.std_alloc.specs.contracts.boxed.Box.into_raw_with_allocator as opening
use Rattle.std_alloc.proofs.boxed.Box.into_raw_with_allocator.Symbol as opening_name
use Rattle.std_alloc.proofs.boxed.Box.into_raw_with_allocator.Met.{met}

module _ (E : Bx) (dropped : Dict) where
  abbrev passed : Args
  passed = bounded (a_type ∷ a_type ∷ []) (E.row, (E.al.row, tt)) (dcons E.al.d (dcons E.al.drops (dcons dropped dnil)))

  abbrev body : Fn
  body = inst_fn passed code.function

  abbrev ends : Ended
  ends = this.ended E.row E.al.row E.al.g E.al.d E.al.drops dropped

  abbrev stays : Stays ends.signature.params ends.kept
  stays = (stay_dropped (plain (λ _. B E)) no, tt)

  abbrev Made : RattleType
  Made = parts.the_row (R E) (P E) E.al.g

  module _ {M : Type 1} {𝓤 : Ura M} (𝓛 : Logic 𝓤) (mem : Memory → SProp 𝓤) (run : Routine → Fun 𝓤) (𝓣 : Tables 𝓤 𝓛.H) where
    open 𝓛 use {H}

    abbrev clauses : Clauses 𝓤 ends
    clauses = this.clauses E.row E.al.row E.al.g E.al.d E.al.drops dropped 𝓛 mem run

    abbrev Opens : Contract 𝓤
    Opens = triple_of 𝓛 (opening.signature E.row E.al.row E.al.g E.al.d E.al.drops dropped) (opening.spec E.row E.al.row E.al.g E.al.d E.al.drops dropped 𝓛 mem run)

    walk : Triple 𝓤 (𝓣.C (opening_name.name passed)) Opens → (z : (walk_of 𝓛 ends stays clauses).Ghost)
        → ent 𝓤 ((walk_of 𝓛 ends stays clauses).pre z) (WpFn 𝓤 H 𝓣.C 𝓣.Λ body (z.0.4.0 ++ []) ((walk_of 𝓛 ends stays clauses).post z))
    walk known z =
        let boxed = z.0.3.0 in let by_whom = boxed.alloc in
        let Post = (walk_of 𝓛 ends stays clauses).post z in
        let alive : Item 𝓤 = ‵ (flft z.0.0.0 z.0.1.0) ⊛ ‵ (flft z.0.0.1.0 z.0.1.1.0) ⊛ ‵ ftrue in
        let outlive : Item 𝓤 = raw (fact 𝓤 (z.0.0.0 ⊑ E.row.lives)) ⊛ raw (fact 𝓤 (z.0.0.1.0 ⊑ E.al.row.lives)) ⊛ ‵ ftrue in
        qed 𝓛 ((alive ⊛ ‵ (fsep ((B E).own_val boxed z.0.4.0) ftrue)) ∷ outlive ∷ []) ∵ split ! $ move ! (1 ∷ []) $ fsplit ! $
        -- the box's machine value is a pointer and a handle
        box_out E ! boxed z.0.4.0 (λ b o h at is_word fits. box_in E ! boxed b o boxed.value at refl $
        let w = word E h b o in
        let asked : Opens.Ghost = ((z.0.0, z.0.1, tt, (boxed, tt), (w ∷ [], tt)), tt) in
        by ! (subst (λ (ws : List Val). ent 𝓤 (types.Kit.⋆ 𝓛 (‵ ((B E).own_val boxed (w ∷ [])) ∷ ‵ ftrue ∷ alive ∷ outlive ∷ [])) (WpFn 𝓤 H 𝓣.C 𝓣.Λ body (ws ++ []) Post)) (sym is_word)
        (qed 𝓛 (‵ ((B E).own_val boxed (w ∷ [])) ∷ ‵ ftrue ∷ alive ∷ outlive ∷ []) ∵ enter ! 𝓣.C 𝓣.Λ body (w ∷ []) _ $
        alloc_all ! (λ l. pass_all ! refl (box_typed E h b o fits, tt) $ sets ! (of_opd ! (get ! refl)) refl (box_typed E h b o fits) $
        fjoin ! $ move ! (1 ∷ 0 ∷ []) $ join ! $ join ! $ use1 𝓛 (raw (Opens.pre asked)) (id⊢ 𝓤 _) $
        calls_at ! (fm_of 𝓤 H 𝓛.laws 𝓣) Opens known asked (and_then ! (get ! refl) (no_more !)) (λ u.
        use1 𝓛 (later (some (λ (r : Ptr × E.al.row.Denot). (alive ⊛ ‵ ((Tuple (RawPtr ∷ P E ∷ [])).own_val r (u ∷ [])))
        ⊛ some (λ (_ : (Unit {0} × (Unit {0} × Unit {0})) × Unit {0}). ‵ (fsep (fsep ftrue (fsep ftrue ftrue)) ftrue) ⊛ (raw (fact 𝓤 (r.1 ≡ by_whom)) ⊛ ‵ (box_owns (token E.al by_whom) (R E) r.0 boxed.value)))))) (id⊢ 𝓤 _) $
        await ! tt $ pick ! (λ r. split ! $ move ! (1 ∷ []) $ pick ! (λ _. split3 ! $ drop ! $ heard ! (r.1 ≡ by_whom) (λ same.
        -- nothing that is owned lies at null
        in_a_block ! r.0 (λ p. box_owns (token E.al by_whom) (R E) p boxed.value) (fst∗ 𝓤 (never 𝓤) (sem 𝓛 (token E.al by_whom (bare (τ E)) null_ptr))) (λ c k there.
        move ! (1 ∷ []) $ split ! $ move ! (1 ∷ []) $ fpick ! (λ words. fsplit ! $ feq_l ! (λ is_pair. fsplit ! $ feq_l ! (λ is_ptr. fsplit ! $
        rewrite ! 0 (λ (s : E.al.row.Denot). ‵ (E.al.row.own_val s words.1.0)) same refl $ handle_tells E.al ! by_whom words.1.0 (λ h' is_handle fits'.
        let again : D E = record { ptr = block_ptr c k; alloc = by_whom; value = boxed.value } in
        let made : Made.Denot = record { ptr = block_ptr c k; alloc = by_whom; value = boxed.value } in
        let w' = word E h' c k in let typed = box_typed E h' c k fits' in
        lands_as ! (ap only (is_pair ∙ (λ i. vstruct (of_list ((is_ptr ∙ ap (λ (p : Ptr). ptr_val p ∷ []) there) i ++ (is_handle i ++ []))) ∷ []))) refl typed $
        sets ! (of_opd ! (get_in ! (fld ! refl (stop !)) (sub ! 0 refl (whole !)))) refl (tt, tt) $
        sets ! (of_opd ! (get_in ! (fld ! refl (stop !)) (sub ! 1 refl (whole !)))) refl fits' $
        sets ! (of_opd ! (get ! refl)) refl fits' $
        sets ! (agg ! (and_then ! (get ! refl) (and_then ! (get ! refl) (no_more !)))) refl typed $
        returns ! (look_at ! 0 refl) $ free_all ! refl $
        -- the handle; true; the tokens; the value with the right to its block
        move ! (3 ∷ []) $ fsplit ! $ box_in E ! again c k boxed.value refl refl $ use1 𝓛 (‵ (Made.own_val made (w' ∷ []))) (id⊢ 𝓤 _) $ move ! (1 ∷ []) $ drop ! $
        suffices ! _ (ends_at 𝓛 ends stays clauses z w' made ((tt, (tt, tt)), tt) (tt, tt)) $ says ! refl $
        nothing ! $ nothing ! $ fjoin ! $ join ! $ move ! (1 ∷ 0 ∷ []) $ join ! $ done !)))))))))))))

pub of_spec : {M : Type 1} → statement M
unfolding tables_of
of_spec 𝓤 𝓛 𝓜 𝓡 wired X Z LX LZ g d drops dropped allocator meets glue =
    let E : Bx = record { row = X; laws = LX; al = record { row = Z; laws = LZ; g = g; d = d; drops = drops } } in
    let 𝓣 : Tables 𝓤 𝓛.H = tables_of 𝓤 𝓛.H 𝓜 (tables 𝓤 𝓛.H 𝓜 𝓡 𝓡.env) in
    let known = met 𝓤 𝓛 𝓜 𝓡 (code.calls-std_alloc::boxed::Box::into_raw_with_allocator 𝓡.env wired) X Z LX LZ g d drops dropped allocator meets glue in
    proved_at 𝓛 (ends E dropped) (stays E dropped) (clauses E dropped 𝓛 𝓜.mem 𝓡.returns 𝓣) 𝓜 𝓡
    (Goes-blank 𝓛 2 (plain (λ _. B E)) no (λ κs x f. tt), tt) (#self (passed E dropped)) (body E dropped)
    (code.unfolded 𝓤 𝓛.H 𝓜 𝓡 wired (X, (Z, tt)) d drops dropped)
    (λ z are. walk E dropped 𝓛 𝓜.mem 𝓡.returns 𝓣 known z)
