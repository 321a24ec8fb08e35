-- The sweeps that the first of some entries changed, or that notes are about, and one more.
use Rattle.std.proofs.Common.{◌≡◌, ℕ, ◌+◌, ◌<◌, List, [], ◌∷◌, ◌++◌, length, take, get_or, Option, Some, None, refl, sym, ap, ◌∙◌}
use Rattle.std.specs.Prelude.{filter_map, option_to_list}
use Rattle.std.proofs.lemmas.List.{append-nil, append_assoc, take_more}
use Rattle.std.proofs.lemmas.List.Elements.{filter_map-append}
use Rattle.share_ledger.specs.declared.book_entry.BookEntry.{BookEntry}
use Rattle.desk_floor.specs.Changes.{changed_by, changed_in, opened_in, opened_with}

changed_last : (before : ℕ) (entries : List BookEntry) (entry : BookEntry)
    → changed_in before (entries ++ entry ∷ [])
    ≡ changed_in before entries ++ option_to_list (changed_by (opened_in before entries) entry)
changed_last before [] entry = append-nil (option_to_list (changed_by before entry))
changed_last before (first ∷ entries) entry =
    ap (λ (l : List ℕ). option_to_list (changed_by before first) ++ l)
    (changed_last (opened_with before first) entries entry)
    ∙ sym (append_assoc (option_to_list (changed_by before first)) (changed_in (opened_with before first) entries)
    (option_to_list (changed_by (opened_in (opened_with before first) entries) entry)))

opened_last : (before : ℕ) (entries : List BookEntry) (entry : BookEntry)
    → opened_in before (entries ++ entry ∷ []) ≡ opened_with (opened_in before entries) entry
opened_last before [] entry = refl
opened_last before (first ∷ entries) entry = opened_last (opened_with before first) entries entry

one_more : {X : Type 0} (xs : List X) (at : ℕ) (x : X) → at < length xs → x ≡ get_or xs at x
    → take (at + 1) xs ≡ take at xs ++ x ∷ []
one_more xs at x below is = take_more xs at x below ∙ ap (λ y. take at xs ++ y ∷ []) (sym is)

pub changed_more : (before at after : ℕ) (entries : List BookEntry) (entry : BookEntry) (begun now next : List ℕ)
    → at < length entries → entry ≡ get_or entries at entry → now ≡ begun ++ changed_in before (take at entries)
    → after ≡ opened_in before (take at entries) → next ≡ now ++ option_to_list (changed_by after entry)
    → next ≡ begun ++ changed_in before (take (at + 1) entries)
changed_more before at after entries entry begun now next below is so_far opened pushed =
    let first = take at entries in
    pushed
    ∙ (ap (λ (l : List ℕ). l ++ option_to_list (changed_by after entry)) so_far
    ∙ (ap (λ (n : ℕ). (begun ++ changed_in before first) ++ option_to_list (changed_by n entry)) opened
    ∙ (append_assoc begun (changed_in before first) (option_to_list (changed_by (opened_in before first) entry))
    ∙ (ap (λ (l : List ℕ). begun ++ l) (sym (changed_last before first entry))
    ∙ ap (λ (l : List BookEntry). begun ++ changed_in before l) (sym (one_more entries at entry below is))))))

pub opened_more : (before at after next : ℕ) (entries : List BookEntry) (entry : BookEntry)
    → at < length entries → entry ≡ get_or entries at entry → after ≡ opened_in before (take at entries)
    → next ≡ opened_with after entry → next ≡ opened_in before (take (at + 1) entries)
opened_more before at after next entries entry below is opened next_is =
    next_is
    ∙ (ap (λ (n : ℕ). opened_with n entry) opened
    ∙ (sym (opened_last before (take at entries) entry)
    ∙ ap (opened_in before) (sym (one_more entries at entry below is))))

one_found : {Y : Type 0} (found : Option Y) → filter_map (λ (n : ℕ). found) (0 ∷ []) ≡ option_to_list found
one_found None = refl
one_found (Some y) = refl

pub found_more : {X Y : Type 0} (find : X → Option Y) (at : ℕ) (xs : List X) (x : X) (begun now next : List Y)
    → at < length xs → x ≡ get_or xs at x → now ≡ begun ++ filter_map find (take at xs)
    → next ≡ now ++ option_to_list (find x) → next ≡ begun ++ filter_map find (take (at + 1) xs)
found_more find at xs x begun now next below is so_far pushed =
    let first = take at xs in
    pushed
    ∙ (ap (λ l. l ++ option_to_list (find x)) so_far
    ∙ (append_assoc begun (filter_map find first) (option_to_list (find x))
    ∙ (ap (λ l. begun ++ (filter_map find first ++ l)) (sym (one_found (find x)))
    ∙ (ap (λ l. begun ++ l) (sym (filter_map-append find first (x ∷ [])))
    ∙ ap (λ l. begun ++ filter_map find l) (sym (one_more xs at x below is))))))
