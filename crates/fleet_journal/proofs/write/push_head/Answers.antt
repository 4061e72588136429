-- The text of a first line, piece by piece.
use Rattle.std.proofs.Common.{◌≡◌, ◌∙◌, ap, sym, string_bytes, codes, List, [], ◌∷◌, ℕ, ◌++◌, append_assoc}
use Rattle.std.specs.Prelude.{Result, Ok, Err, OnOk, is_ok, if◌then◌else◌}
use Rattle.std.specs.Fmt.{digits}
use Rattle.std.proofs.lemmas.Result.{on_ok_weaker}
use Rattle.json.specs.Print.{escape_byte}
use Rattle.fleet_journal.proofs.write.push_head.Goals as goal

joined : (t0 t1 t2 t3 t4 t5 a n b o c : List ℕ) → t1 ≡ t0 ++ a → t2 ≡ t1 ++ n → t3 ≡ t2 ++ b → t4 ≡ t3 ++ o → t5 ≡ t4 ++ (c ++ 10 ∷ []) →
    t5 ≡ t0 ++ ((a ++ (n ++ (b ++ (o ++ c)))) ++ 10 ∷ [])
joined t0 t1 t2 t3 t4 t5 a n b o c h1 h2 h3 h4 h5 =
    rw (h5, h4, h3, h2, h1)
    (append_assoc (((t0 ++ a) ++ n) ++ b) o (c ++ 10 ∷ []) ∙ append_assoc ((t0 ++ a) ++ n) b (o ++ (c ++ 10 ∷ [])) ∙ append_assoc (t0 ++ a) n (b ++ (o ++ (c ++ 10 ∷ [])))
    ∙ append_assoc t0 a (n ++ (b ++ (o ++ (c ++ 10 ∷ []))))
    ∙ ap (λ (x : List ℕ). t0 ++ (a ++ (n ++ (b ++ x)))) (sym (append_assoc o c (10 ∷ [])))
    ∙ ap (λ (x : List ℕ). t0 ++ (a ++ (n ++ x))) (sym (append_assoc b (o ++ c) (10 ∷ [])))
    ∙ ap (λ (x : List ℕ). t0 ++ (a ++ x)) (sym (append_assoc n (b ++ (o ++ c)) (10 ∷ [])))
    ∙ ap (λ (x : List ℕ). t0 ++ x) (sym (append_assoc a (n ++ (b ++ (o ++ c))) (10 ∷ []))))

on_ok_if : {T E : Type 0} (r : Result T E) (x a b : List ℕ) → x ≡ (if is_ok r then a else b) → OnOk r (x ≡ a)
on_ok_if (Ok v) x a b e = e
on_ok_if (Err w) x a b e = tt

pub returns-clause-text : goal.returns-clause-text
unfolding escape_byte digits
returns-clause-text g c =
    on_ok_weaker c.push_str-3.result (λ last. joined _ _ _ _ _ _ _ _ _ _ (codes ",\"version\":2}") c.in_ok-push_str.ensures.bytes c.in_ok-write.ensures.bytes
    c.in_ok-push_str-2.ensures.bytes c.in_ok-push_opening.ensures.text last) (on_ok_if c.push_str-3.result _ _ _ c.push_str-3.ensures.bytes)
