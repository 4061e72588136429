-- What was read of a bundle so far.
use Rattle.std.proofs.Common.{◌≡◌, ◌≢◌, ℕ, ◌+◌, ◌-◌, ◌<◌, ◌≤◌, ◌⊎◌, inl, inr, List, [], ◌∷◌, ◌++◌, length, take, get_or, refl, sym, ap, subst, ◌∙◌, arith}
use Rattle.std.specs.Prelude.{codes}
use Rattle.std.proofs.lemmas.List.{length-append, append_assoc}
use Rattle.std.proofs.lemmas.List.Elements.{All-append}
use Rattle.std.proofs.Math.Seq.{take-append_seam}
use Rattle.std.proofs.lemmas.List.{append_cancel_right}
use Rattle.fleet_map.specs.Text.{lines_of, IsBehindLine}
use Rattle.fleet_map.proofs.Cuts.{lines_behind, lines_cut}
use Rattle.fleet_script.specs.Bundle.{HasNoScript, IsBundle}

-- a text without bytes, or one that ends by a line feed
abbrev EndsLine : List ℕ → Type 0
EndsLine text = (text ≡ []) ⊎ ((line : List ℕ) × (text ≡ line ++ 10 ∷ []))

lines_joined : (a b : List ℕ) → EndsLine a → lines_of (a ++ b) ≡ lines_of a ++ lines_of b
lines_joined a b (inl none) = rw none refl
lines_joined a b (inr line) = rw line.1 (lines_cut line.0 b)

-- this many lines were read, none of which is `script`
pub record IsRead (bytes rest : List ℕ) (number : ℕ) : Type 0 where
  pub before : List ℕ
  pub cut : bytes ≡ before ++ rest
  pub ended : (rest ≡ []) ⊎ EndsLine before
  pub whole : lines_of bytes ≡ lines_of before ++ lines_of rest
  pub none : HasNoScript (lines_of before)
  pub count : number ≡ length (lines_of before) + 1
  pub room : number + length rest ≤ 1 + length bytes

-- nothing was read
pub nothing_read : (bytes : List ℕ) → IsRead bytes bytes 1
nothing_read bytes = record {
  before = [];
  cut = refl;
  ended = inr (inl refl);
  whole = refl;
  none = λ k d below. absurd (omega (arith, below));
  count = refl;
  room = omega arith;
}

one_line : (line : List ℕ) → line ≢ codes "script" → HasNoScript (line ∷ [])
one_line line other k d below = let first : k ≡ 0 = omega (arith, below) in subst (λ (i : ℕ). get_or (line ∷ []) i d ≢ codes "script") (sym first) other

pub line_read : (bytes rest : List ℕ) (number : ℕ) (line after : List ℕ) → IsRead bytes rest number → lines_of rest ≡ line ∷ lines_of after → IsBehindLine rest after → length after < length rest
    → line ≢ codes "script" → IsRead bytes after (number + 1)
line_read bytes rest number line after r c b shorter other = record {
  before = r.before ++ b.before;
  cut = r.cut ∙ (ap (λ (x : List ℕ). r.before ++ x) b.cut ∙ sym (append_assoc r.before b.before after));
  ended = elim b.ended [
    | inl none ↦ inl none
    | inr last ↦ inr (inr (r.before ++ last.0, ap (λ (x : List ℕ). r.before ++ x) last.1 ∙ sym (append_assoc r.before last.0 (10 ∷ []))))
  ];
  whole = r.whole ∙ (ap (λ (ls : List (List ℕ)). lines_of r.before ++ ls) c ∙ (sym (append_assoc (lines_of r.before) (line ∷ []) (lines_of after)) ∙ ap (λ (ls : List (List ℕ)). ls ++ lines_of after) (sym lines)));
  none = subst HasNoScript (sym lines) (All-append (λ l. l ≢ codes "script") (lines_of r.before) (line ∷ []) r.none (one_line line other));
  count = omega (arith, r.count, ap length lines, length-append (lines_of r.before) (line ∷ []));
  room = omega (arith, r.room, shorter);
}
  where
    own : lines_of b.before ≡ line ∷ []
    own = append_cancel_right (lines_of b.before) (line ∷ []) (lines_of after) (sym (lines_behind rest after b) ∙ c)

    started : EndsLine r.before
    started = elim r.ended [
      | inl none ↦ absurd (let e : lines_of [] ≡ line ∷ lines_of after = ap lines_of (sym none) ∙ c in cc e)
      | inr ends ↦ ends
    ]

    lines : lines_of (r.before ++ b.before) ≡ lines_of r.before ++ line ∷ []
    lines = lines_joined r.before b.before started ∙ ap (λ (ls : List (List ℕ)). lines_of r.before ++ ls) own

pub found : (bytes rest : List ℕ) (number : ℕ) (line after : List ℕ) → IsRead bytes rest number → lines_of rest ≡ line ∷ lines_of after → line ≡ codes "script"
    → IsBundle bytes (take (length bytes - length rest) bytes) after
found bytes rest number line after r c e = subst (λ (m : List ℕ). IsBundle bytes m after) (sym front) (record {
  lines = r.whole ∙ ap (λ (ls : List (List ℕ)). lines_of r.before ++ ls) (c ∙ ap (λ (l : List ℕ). l ∷ lines_of after) e);
  first = r.none;
})
  where
    size : length bytes - length rest ≡ length r.before
    size = omega (arith, ap length r.cut, length-append r.before rest)

    front : take (length bytes - length rest) bytes ≡ r.before
    front = rw (size, r.cut) (take-append_seam r.before rest)

nil : (xs : List (List ℕ)) → xs ++ [] ≡ xs
nil [] = refl
nil (x ∷ xs) = ap (λ (l : List (List ℕ)). x ∷ l) (nil xs)

pub all_read : (bytes rest : List ℕ) (number : ℕ) → IsRead bytes rest number → lines_of rest ≡ [] → HasNoScript (lines_of bytes) × (number ≡ length (lines_of bytes) + 1)
all_read bytes rest number r c =
    let same : lines_of bytes ≡ lines_of r.before = r.whole ∙ (ap (λ (ls : List (List ℕ)). lines_of r.before ++ ls) c ∙ nil (lines_of r.before)) in
    (subst HasNoScript (sym same) r.none, r.count ∙ ap (λ (ls : List (List ℕ)). length ls + 1) (sym same))
