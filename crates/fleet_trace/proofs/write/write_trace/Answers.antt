-- The text of a trace, piece by piece.
use Rattle.std.proofs.Common.{◌≡◌, ◌∙◌, ap, map, string_bytes, List, [], ℕ, ◌++◌, append_assoc, false}
use Rattle.std.specs.Fmt.{digits}
use Rattle.json.specs.Print.{escape_byte}
use Rattle.serde_json.specs.View.{items_of}
use Rattle.serde_json.specs.Written.{compact_text, has_float, items_text}
use Rattle.fleet_trace.specs.Text.{entry_data}
use Rattle.fleet_trace.proofs.NoFloat.{entry, opening}
use Rattle.fleet_trace.proofs.write.write_trace.Goals as goal

joined : {t0 t1 t2 t3 t4 t5 t6 t7 : List ℕ} (a n b e c o d : List ℕ) → t0 ≡ [] → t1 ≡ t0 ++ a → t2 ≡ t1 ++ n → t3 ≡ t2 ++ b → t4 ≡ t3 ++ e → t5 ≡ t4 ++ c
    → t6 ≡ t5 ++ o → t7 ≡ t6 ++ d → t7 ≡ a ++ (n ++ (b ++ (e ++ (c ++ (o ++ d)))))
joined a n b e c o d h0 h1 h2 h3 h4 h5 h6 h7 =
    rw (h7, h6, h5, h4, h3, h2, h1, h0)
    (append_assoc (((((a ++ n) ++ b) ++ e) ++ c)) o d ∙ append_assoc ((((a ++ n) ++ b) ++ e)) c (o ++ d) ∙ append_assoc (((a ++ n) ++ b)) e (c ++ (o ++ d))
    ∙ append_assoc (a ++ n) b (e ++ (c ++ (o ++ d))) ∙ append_assoc a n (b ++ (e ++ (c ++ (o ++ d)))))

pub returns-clause-text : goal.returns-clause-text
unfolding escape_byte digits
returns-clause-text g c =
    let number = c.from.ensures in
    let opened = c.in_ok-opening.ensures.value in
    joined _ _ _ _ _ _ _ c.new-text.ensures.bytes c.in_ok-push_str.ensures.bytes
    (c.in_ok-push_value.ensures (ap has_float number) ∙ ap (λ x. string_bytes c.push_str.new.self ++ compact_text x) number)
    c.in_ok-push_str-2.ensures.bytes
    (c.in_ok-push_items.ensures.text entry ∙ ap (λ xs. string_bytes c.push_str-2.new.self ++ items_text false (items_of (map entry_data xs))) c.as_slice.ensures.value)
    c.in_ok-push_str-3.ensures.bytes
    (c.in_ok-push_value-2.ensures (ap has_float opened ∙ opening c.args.chapter.now.opening) ∙ ap (λ x. string_bytes c.push_str-3.new.self ++ compact_text x) opened)
    c.in_ok-push_str-4.ensures.bytes
