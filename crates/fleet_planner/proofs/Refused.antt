-- Answers that may be refused.
use Rattle.std.specs.Prelude.{Result, Ok, Err, IfOk, OnOk, OnErr}

pub all_err : {X E : Type 0} {P : Type 0} (r : Result X E) → P → OnErr r P
all_err (Ok x) p = tt
all_err (Err e) p = p

-- one follows from the other
pub on_ok_map : {X E : Type 0} {P Q : Type 0} (r : Result X E) → (P → Q) → OnOk r P → OnOk r Q
on_ok_map (Ok x) f p = f p
on_ok_map (Err e) f p = tt

pub on_err_map : {X E : Type 0} {P Q : Type 0} (r : Result X E) → (P → Q) → OnErr r P → OnErr r Q
on_err_map (Ok x) f p = tt
on_err_map (Err e) f p = f p

pub if_ok_map : {X E : Type 0} {P Q : X → Type 0} (r : Result X E) → ((x : X) → P x → Q x) → IfOk r P → IfOk r Q
if_ok_map (Ok x) f p = f x p
if_ok_map (Err e) f p = tt
