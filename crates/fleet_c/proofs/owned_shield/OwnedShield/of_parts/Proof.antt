-- `of_parts`: the fields are moved, and what the parts owned is owned from now on by what was made of them.
use Rattle.fleet_c.proofs.BoxWalk.{refl, sym, subst, List, [], ◌∷◌, ◌++◌, Ura, Val, SProp, ent, emp, id⊢, ftrue, fsep, Fun, tables, tables_of, Memory, Routine, WpFn, Tables, Logic, ‵, raw, ◌⊛◌, ◌$◌, ◌∵◌, !, qed, by, move, drop, use1, join, split, fsplit, fjoin, suffices, done, whole, sub, agg, stop, fld, no_more, and_then, of_opd, returns, enter, alloc_all, pass_all, free_all, look_at, get, get_in, sets, yes, nothing, says, Stays, stay_dropped, walk_of, ends_at, Goes-dropped, proved_at, D, B, word, box_typed, box_out, box_in}
use Rattle.std.specs.Prelude.{Some}
use Rattle.fleet_c.proofs.AsShieldBox.{E, FromParts}
use Rattle.fleet_c.specs.contracts.owned_shield.OwnedShield as owned
use Rattle.fleet_c.specs.contracts.owned_shield.OwnedShield.of_parts as this
use Rattle.fleet_c.specs.contracts.owned_shield.OwnedShield.of_parts.Key.{name as #self}
use Rattle.fleet_c.proofs.owned_shield.OwnedShield.of_parts.Statement.{statement}
use Rattle.fleet_c.proofs.owned_shield.OwnedShield.of_parts.Code as code

abbrev stays : Stays (this.ended).signature.params (this.ended).kept
stays = (stay_dropped FromParts yes, tt)

module _ {M : Type 1} {𝓤 : Ura M} (𝓛 : Logic 𝓤) (mem : Memory → SProp 𝓤) (run : Routine → Fun 𝓤) (𝓣 : Tables 𝓤 𝓛.H) where
  open 𝓛 use {H}

  walk : (z : (walk_of 𝓛 this.ended stays (this.clauses 𝓛 mem run)).Ghost)
      → ent 𝓤 ((walk_of 𝓛 this.ended stays (this.clauses 𝓛 mem run)).pre z) (WpFn 𝓤 H 𝓣.C 𝓣.Λ code.function (z.0.4.0 ++ []) ((walk_of 𝓛 this.ended stays (this.clauses 𝓛 mem run)).post z))
  walk z =
      let given = z.0.3.0 in
      let Post = (walk_of 𝓛 this.ended stays (this.clauses 𝓛 mem run)).post z in
      let boxed : D E = record { ptr = given.ptr; alloc = given.alloc; value = given.value } in
      let made : (owned.the_row).Denot = record { at = given.ptr; alloc = given.alloc; held = Some given.value } in
      qed 𝓛 ((‵ ftrue ⊛ ‵ (fsep ((B E).own_val boxed z.0.4.0) ftrue)) ∷ raw (emp 𝓤) ∷ []) ∵ split ! $ drop ! $ fsplit ! $
      box_out E ! boxed z.0.4.0 (λ b o h at is_word fits. let w = word E h b o in
      box_in E ! boxed b o given.value at refl $ use1 𝓛 (‵ ((owned.the_row).own_val made (w ∷ []))) (id⊢ 𝓤 _) $ move ! (1 ∷ 2 ∷ []) $ drop ! $ drop ! $
      by ! (subst (λ (ws : List Val). ent 𝓤 (types.Kit.⋆ 𝓛 (‵ ((owned.the_row).own_val made (w ∷ [])) ∷ [])) (WpFn 𝓤 H 𝓣.C 𝓣.Λ code.function (ws ++ []) Post)) (sym is_word)
      (qed 𝓛 (‵ ((owned.the_row).own_val made (w ∷ [])) ∷ []) ∵ enter ! 𝓣.C 𝓣.Λ code.function (w ∷ []) _ $
      alloc_all ! (λ l. pass_all ! refl (box_typed E h b o fits, tt) $
      sets ! (of_opd ! (get_in ! (fld ! refl (stop !)) (sub ! 0 refl (whole !)))) refl (tt, tt) $
      sets ! (of_opd ! (get_in ! (fld ! refl (stop !)) (sub ! 1 refl (whole !)))) refl fits $
      sets ! (of_opd ! (get ! refl)) refl (tt, tt) $
      sets ! (agg ! (and_then ! (get ! refl) (and_then ! (get ! refl) (no_more !)))) refl (box_typed E h b o fits) $
      returns ! (look_at ! 0 refl) $ free_all ! refl $
      suffices ! _ (ends_at 𝓛 this.ended stays (this.clauses 𝓛 mem run) z w made (tt, tt) (tt, tt)) $ says ! refl $
      nothing ! $ nothing ! $ fjoin ! $ join ! $ nothing ! $ join ! $ done !))))

pub of_parts_spec : {M : Type 1} → statement M
unfolding tables_of
of_parts_spec 𝓤 𝓛 𝓜 𝓡 wired =
    proved_at 𝓛 this.ended stays (this.clauses 𝓛 𝓜.mem 𝓡.returns) 𝓜 𝓡 (Goes-dropped 𝓛 0 FromParts yes (λ κs x f. refl), tt) #self code.function (code.unfolded 𝓤 𝓛.H 𝓜 𝓡 wired)
    (λ z are. walk 𝓛 𝓜.mem 𝓡.returns (tables_of 𝓤 𝓛.H 𝓜 (tables 𝓤 𝓛.H 𝓜 𝓡 𝓡.env)) z)
