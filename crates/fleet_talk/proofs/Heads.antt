-- The head of a conversation is what its lines are.
use Rattle.std.proofs.Common.{◌≡◌, ◌∙◌, ℕ, ◌+◌, Bool, true, false, List, [], ◌∷◌, ◌++◌, length, Option, Some, None, refl, sym, ap, subst, append_assoc, append-nil, unwrap_or}
use Rattle.std.specs.Prelude.{is_some}
use Rattle.std.proofs.lemmas.List.{length_push}
use Rattle.fleet_script.specs.Script.{Draft}
use Rattle.fleet_talk.specs.declared.ends.Settings.{Settings}
use Rattle.fleet_talk.specs.Act.{is_quit}
use Rattle.fleet_talk.specs.Ask.{Line, line_in}
use Rattle.fleet_talk.specs.Heading.{IsOfHead, texts_at}
use Rattle.fleet_talk.specs.Heads.{AreOfHead, none, good, bad, EndsHead, over, quits, opened, IsHead}
use Rattle.fleet_talk.specs.Heard.{Head, head_of, header_texts, opens, with_head_line, with_said}
use Rattle.fleet_talk.proofs.Hearing.{head-more, head-opens, head-over, said-append}

module _ (settings : Settings) (file : Draft) where
  module _ (before : List (List ℕ)) (bytes : List ℕ) (lines said : List (List ℕ)) (d : Draft) (n : ℕ) (are : AreOfHead settings file before d said) (at : n ≡ length before + 1)
      (rec : (e : Draft) (told : List (List ℕ)) → AreOfHead settings file (before ++ bytes ∷ []) e told → IsHead settings file ((before ++ bytes ∷ []) ++ lines) (with_said told (head_of settings e (n + 1) lines))) where
    abbrev l : Line
    l = line_in n bytes

    abbrev Comes : Head → Type 0
    Comes h = IsHead settings file (before ++ bytes ∷ lines) (with_said said h)

    told_none : AreOfHead settings file before d (said ++ [])
    told_none = subst (AreOfHead settings file before d) (sym (append-nil said)) are

    line_is : l ≡ line_in (length before + 1) bytes
    line_is = ap (λ (k : ℕ). line_in k bytes) at

    -- the line belongs to the head
    goes : (e : Draft) (texts : List (List ℕ)) → e ≡ unwrap_or (with_head_line d l l.asked) d → texts_at settings d l ≡ texts → IsOfHead d l → AreOfHead settings file (before ++ bytes ∷ []) e (said ++ texts) → Comes (head_of settings d n (bytes ∷ lines))
    goes e texts is told of more =
        let same : head_of settings d n (bytes ∷ lines) ≡ with_said texts (head_of settings e (n + 1) lines) =
        head-more settings d e n bytes lines l refl of is ∙ ap (λ (t : List (List ℕ)). with_said t (head_of settings e (n + 1) lines)) told in
        let all : with_said said (head_of settings d n (bytes ∷ lines)) ≡ with_said (said ++ texts) (head_of settings e (n + 1) lines) =
        ap (with_said said) same ∙ said-append said texts (head_of settings e (n + 1) lines) in
        subst (IsHead settings file (before ++ bytes ∷ lines)) (sym all)
        (subst (λ (ls : List (List ℕ)). IsHead settings file ls (with_said (said ++ texts) (head_of settings e (n + 1) lines))) (append_assoc before (bytes ∷ []) lines) (rec e (said ++ texts) more))

    by_words : IsOfHead d l → (o : Option Draft) → with_head_line d l l.asked ≡ o → Comes (head_of settings d n (bytes ∷ lines))
    by_words of (Some e) is = goes e _ (sym (ap (λ (m : Option Draft). unwrap_or m d) is)) (ap (λ (m : Option Draft). header_texts settings l (is_some m)) is) of (good bytes l are line_is of is refl refl)
    by_words of None is = goes d _ (sym (ap (λ (m : Option Draft). unwrap_or m d) is)) (ap (λ (m : Option Draft). header_texts settings l (is_some m)) is) of (bad bytes l are line_is of is refl refl)

    by_asked : is_quit l.asked ≡ false → (o : Option (List ℕ)) → opens d l.asked ≡ o → Comes (head_of settings d n (bytes ∷ lines))
    by_asked on (Some starts) is = subst Comes (sym (head-opens settings d n bytes lines l starts refl on is)) (record {
      first = before;
      rest = bytes ∷ lines;
      parts = refl;
      says = d;
      are = told_none;
      ends = subst (λ (k : ℕ). EndsHead d k (bytes ∷ lines) (Some (record { starts = starts; head = d; number = n; lines = bytes ∷ lines }))) at (opened bytes lines starts refl on is refl);
    })
    by_asked on None is = by_words (record { goes = on; unopened = is }) (with_head_line d l l.asked) refl

    by_quit : (b : Bool) → is_quit l.asked ≡ b → Comes (head_of settings d n (bytes ∷ lines))
    by_quit true is = subst Comes (sym (head-over settings d n bytes lines l refl is)) (record {
      first = before;
      rest = bytes ∷ lines;
      parts = refl;
      says = d;
      are = told_none;
      ends = subst (λ (k : ℕ). EndsHead d k (bytes ∷ lines) None) at (quits bytes lines refl is refl);
    })
    by_quit false is = by_asked is (opens d l.asked) refl

    line_heads : Comes (head_of settings d n (bytes ∷ lines))
    line_heads = by_quit (is_quit l.asked) refl

  heads : (before rest said : List (List ℕ)) (d : Draft) (n : ℕ) → AreOfHead settings file before d said → n ≡ length before + 1 → IsHead settings file (before ++ rest) (with_said said (head_of settings d n rest))
  heads before [] said d n are at = record {
    first = before;
    rest = [];
    parts = refl;
    says = d;
    are = subst (AreOfHead settings file before d) (sym (append-nil said)) are;
    ends = over refl refl;
  }
  heads before (bytes ∷ lines) said d n are at =
      line_heads before bytes lines said d n are at (λ e told more. heads (before ++ bytes ∷ []) lines told e (n + 1) more (ap (λ (k : ℕ). k + 1) (at ∙ sym (length_push before bytes))))

  pub is-head : (lines : List (List ℕ)) → IsHead settings file lines (head_of settings file 1 lines)
  is-head lines = heads [] lines [] file 1 none refl
