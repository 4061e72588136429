use Rattle.std.proofs.Common.{◌≡◌, refl, ◌+◌, ◌-◌, sym, ap, ◌∙◌, length, take, drop, arith, List}
use Rattle.std.proofs.lemmas.Grind.{common_steps}
use Rattle.std.proofs.lemmas.Slice.{put_mid-rotated}
use Rattle.fleet_queue.specs.declared.errand.Errand.{Errand}
use Rattle.fleet_queue.specs.Queue.{is_of}
use Rattle.fleet_queue.proofs.Removal.{none_behind, first_behind}
use Rattle.fleet_queue.proofs.queue.move_to_end.Goals as goal

rest_is : (es : List Errand) → take (length es - 1) (drop 1 es) ≡ drop 1 es
rest_is es = grind (arith, common_steps)

nobody : Errand
nobody = record { client = 0; number = 0; cell = 0 }

pub returns-in_default-clause-found : goal.returns-in_default-clause-found
returns-in_default-clause-found c =
    sym (none_behind (is_of c.args.client c.args.number) c.args.errands.now _ (rest_is c.args.errands.now) (sym c.place_of.ensures ∙ c.in_default.is)).0

pub returns-in_default-clause-same : goal.returns-in_default-clause-same
returns-in_default-clause-same c _ =
    (refl, (none_behind (is_of c.args.client c.args.number) c.args.errands.now _ (rest_is c.args.errands.now) (sym c.place_of.ensures ∙ c.in_default.is)).1)

pub returns-clause-found : goal.returns-clause-found
returns-clause-found c =
    sym (first_behind (is_of c.args.client c.args.number) c.args.errands.now _ _ nobody (rest_is c.args.errands.now) (sym c.place_of.ensures ∙ c.in-Some.is)).1

pub returns-clause-moved : goal.returns-clause-moved
returns-clause-moved c _ =
    let es = c.args.errands.now in
    let f = first_behind (is_of c.args.client c.args.number) es _ c.in-Some.place nobody (rest_is es) (sym c.place_of.ensures ∙ c.in-Some.is) in
    let turned = put_mid-rotated (1 + c.in-Some.place) (length es - (1 + c.in-Some.place)) es c.rotate_left.new.self nobody f.0 (omega arith) c.rotate_left.ensures.after in
    ap (λ xs. take (length es - 1) xs) turned ∙ f.2 _
