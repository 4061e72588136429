-- `into_parts`: of a handle that owns something, the parts own that.
use Rattle.fleet_c.proofs.BoxWalk.{refl, sym, subst, List, [], ◌∷◌, ◌++◌, Ura, Val, SProp, ent, id⊢, ftrue, fsep, Fun, fact, tables, tables_of, Memory, Routine, WpFn, Tables, Logic, ‵, raw, ◌⊛◌, ◌$◌, ◌∵◌, !, qed, by, move, drop, use1, join, split, fsplit, fjoin, rewrite, suffices, done, whole, sub, agg, stop, fld, no_more, and_then, of_opd, returns, enter, alloc_all, pass_all, free_all, look_at, get, get_in, sets, yes, heard, nothing, says, Stays, stay_dropped, walk_of, ends_at, Goes-dropped, proved_at, D, R, P, B, word, box_typed, box_out, box_in}
use Rattle.std.specs.Prelude.{Option, IsSome}
use Rattle.fleet_c.specs.OwnsShield.{HeldValue}
use Rattle.fleet_c.proofs.AsShieldBox.{E, FromOwned, some_of}
use Rattle.fleet_c.specs.contracts.owned_shield.OwnedShield as owned
use Rattle.fleet_c.specs.contracts.parts.Parts as parts
use Rattle.fleet_c.specs.contracts.owned_shield.OwnedShield.into_parts as this
use Rattle.fleet_c.specs.contracts.owned_shield.OwnedShield.into_parts.Key.{name as #self}
use Rattle.fleet_c.proofs.owned_shield.OwnedShield.into_parts.Statement.{statement}
use Rattle.fleet_c.proofs.owned_shield.OwnedShield.into_parts.Code as code

abbrev stays : Stays (this.ended).signature.params (this.ended).kept
stays = (stay_dropped FromOwned yes, tt)

module _ {M : Type 1} {𝓤 : Ura M} (𝓛 : Logic 𝓤) (mem : Memory → SProp 𝓤) (run : Routine → Fun 𝓤) (𝓣 : Tables 𝓤 𝓛.H) where
  open 𝓛 use {H}

  walk : (z : (walk_of 𝓛 this.ended stays (this.clauses 𝓛 mem run)).Ghost)
      → ent 𝓤 ((walk_of 𝓛 this.ended stays (this.clauses 𝓛 mem run)).pre z) (WpFn 𝓤 H 𝓣.C 𝓣.Λ code.function (z.0.4.0 ++ []) ((walk_of 𝓛 this.ended stays (this.clauses 𝓛 mem run)).post z))
  walk z =
      let given = z.0.3.0 in
      let Post = (walk_of 𝓛 this.ended stays (this.clauses 𝓛 mem run)).post z in
      let Parts = parts.the_row (R E) (P E) E.al.g in
      qed 𝓛 ((‵ ftrue ⊛ ‵ (fsep ((owned.the_row).own_val given z.0.4.0) ftrue)) ∷ raw (fact 𝓤 (IsSome given.held)) ∷ []) ∵
      move ! (1 ∷ []) $ heard ! (IsSome given.held) (λ some. let x = (some_of given.held some).0 in let is = (some_of given.held some).1 in
      let boxed : D E = record { ptr = given.at; alloc = given.alloc; value = x } in
      let made : Parts.Denot = record { ptr = given.at; alloc = given.alloc; value = x } in
      split ! $ drop ! $ fsplit ! $
      rewrite ! 0 (λ (held : Option HeldValue). ‵ ((owned.the_row).own_val (record { at = given.at; alloc = given.alloc; held = held }) z.0.4.0)) is refl $
      use1 𝓛 (‵ ((B E).own_val boxed z.0.4.0)) (id⊢ 𝓤 _) $
      box_out E ! boxed z.0.4.0 (λ b o h at is_word fits. let w = word E h b o in
      box_in E ! boxed b o x at refl $ use1 𝓛 (‵ (Parts.own_val made (w ∷ []))) (id⊢ 𝓤 _) $ move ! (1 ∷ []) $ drop ! $
      by ! (subst (λ (ws : List Val). ent 𝓤 (types.Kit.⋆ 𝓛 (‵ (Parts.own_val made (w ∷ [])) ∷ [])) (WpFn 𝓤 H 𝓣.C 𝓣.Λ code.function (ws ++ []) Post)) (sym is_word)
      (qed 𝓛 (‵ (Parts.own_val made (w ∷ [])) ∷ []) ∵ enter ! 𝓣.C 𝓣.Λ code.function (w ∷ []) _ $
      alloc_all ! (λ l. pass_all ! refl (box_typed E h b o fits, tt) $
      sets ! (of_opd ! (get_in ! (fld ! refl (stop !)) (sub ! 0 refl (whole !)))) refl (tt, tt) $
      sets ! (of_opd ! (get_in ! (fld ! refl (stop !)) (sub ! 1 refl (whole !)))) refl fits $
      sets ! (of_opd ! (get ! refl)) refl (tt, tt) $
      sets ! (agg ! (and_then ! (get ! refl) (and_then ! (get ! refl) (no_more !)))) refl (box_typed E h b o fits) $
      returns ! (look_at ! 0 refl) $ free_all ! refl $
      suffices ! _ (ends_at 𝓛 this.ended stays (this.clauses 𝓛 mem run) z w made (tt, tt) (tt, tt)) $ says ! is $
      nothing ! $ nothing ! $ fjoin ! $ join ! $ nothing ! $ join ! $ done !)))))

pub into_parts_spec : {M : Type 1} → statement M
unfolding tables_of
into_parts_spec 𝓤 𝓛 𝓜 𝓡 wired =
    proved_at 𝓛 this.ended stays (this.clauses 𝓛 𝓜.mem 𝓡.returns) 𝓜 𝓡 (Goes-dropped 𝓛 0 FromOwned yes (λ κs x f. refl), tt) #self code.function (code.unfolded 𝓤 𝓛.H 𝓜 𝓡 wired)
    (λ z are. walk 𝓛 𝓜.mem 𝓡.returns (tables_of 𝓤 𝓛.H 𝓜 (tables 𝓤 𝓛.H 𝓜 𝓡 𝓡.env)) z)
