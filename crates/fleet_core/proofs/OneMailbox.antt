-- One mailbox among those of all clients.
use Rattle.std.proofs.Common.{◌≡◌, ℕ, ◌+◌, ◌<◌, List, [], ◌∷◌, ◌++◌, length, get_or, ap, ◌∙◌}
use Rattle.std.specs.Prelude.{slice_set, slice_index}
use Rattle.std.proofs.lemmas.List.{get_or_default, set-get_or}
use Rattle.fleet_book.specs.declared.notice.Notice.{Notice}
use Rattle.fleet_core.specs.inside.Mailboxes.{Mailboxes, box_at, with_notice, with_box}
use Rattle.fleet_core.specs.Pending.{Pending, no_pending}

-- what is read at a client's place is its mailbox
pub box-there : (boxes : List Pending) (client : ℕ) (box : Pending) → client < length boxes → box ≡ get_or boxes client box → box ≡ box_at boxes client
box-there boxes client box known is = is ∙ get_or_default boxes client box no_pending known

-- the mailboxes with one more notice, put together of what was read and written
pub notice-put : (boxes : List Pending) (noticed : List ℕ) (client : ℕ) (n : Notice) (box more : Pending) (count : ℕ) → box ≡ box_at boxes client → count ≡ slice_index noticed client →
    more ≡ record { notices = box.notices ++ n ∷ []; limit = box.limit } →
    record { boxes = slice_set boxes client more; noticed = slice_set noticed client (count + 1) } ≡ with_notice (record { boxes = boxes; noticed = noticed }) client n
notice-put boxes noticed client n box more count is counted written =
    ap (λ (b : Pending). record { boxes = slice_set boxes client b; noticed = slice_set noticed client (count + 1) })
    (written ∙ ap (λ (b : Pending). record { notices = b.notices ++ n ∷ []; limit = b.limit }) is)
    ∙ ap (λ (k : ℕ). record { boxes = slice_set boxes client (record { notices = (box_at boxes client).notices ++ n ∷ []; limit = (box_at boxes client).limit }); noticed = slice_set noticed client (k + 1) }) counted

-- the mailboxes with one that was changed, put together of what was read and written
pub box-put : (boxes : List Pending) (noticed : List ℕ) (client : ℕ) (f : Pending → Pending) (box more : Pending) → box ≡ box_at boxes client → more ≡ f box →
    record { boxes = slice_set boxes client more; noticed = noticed } ≡ with_box (record { boxes = boxes; noticed = noticed }) client (f (box_at boxes client))
box-put boxes noticed client f box more is written = ap (λ (b : Pending). record { boxes = slice_set boxes client b; noticed = noticed }) (written ∙ ap f is)

pub box-kept : (boxes : List Pending) (noticed : List ℕ) (client : ℕ) (box more : Pending) → box ≡ box_at boxes client → more ≡ box →
    ◌≡◌ {A = Mailboxes} (record { boxes = slice_set boxes client more; noticed = noticed }) (record { boxes = boxes; noticed = noticed })
box-kept boxes noticed client box more is kept =
    ap (λ (b : Pending). record { boxes = slice_set boxes client b; noticed = noticed }) (kept ∙ is) ∙ ap (λ (bs : List Pending). record { boxes = bs; noticed = noticed }) (set-get_or boxes client no_pending)
