-- Where nothing is told of what the book didn't take, nothing of a venue that has a name is listed.
use Rattle.std.proofs.Common.{◌≡◌, inl, inr, ℕ, suc, ◌+◌, ◌-◌, ◌<◌, Bool, true, false, List, [], ◌∷◌, ◌++◌, length, map, take, drop, Some, None, refl, sym, ap, ◌∙◌, arith, if◌then◌else◌}
use Rattle.std.specs.Prelude.{Option, filter, filter_map, option_map, slice_get, ◌==◌}
use Rattle.std.proofs.lemmas.Bool.Decides.{nat_tests}
use Rattle.std.proofs.lemmas.List.{map-append}
use Rattle.std.proofs.lemmas.List.Elements.{filter-append, filter_map-append}
use Rattle.std.proofs.lemmas.Option.{slice_get_cases}
use Rattle.share_ledger.specs.Book.{BookParts}
use Rattle.share_ledger.specs.declared.book_entry.BookEntry.{BookEntry}
use Rattle.share_ledger.specs.declared.applied.Applied.{Applied}
use Rattle.share_ledger.specs.declared.applied.Applied.TheVariants as applied
use Rattle.exec_collector.specs.Booked.{has_moved}
use Rattle.exec_collector.specs.Unbooked.{CountedParts, IsListOf, WereUnbookedFrom, unbooked_of}
use Rattle.exec_collector.specs.declared.unbooked.Unbooked.{Unbooked}
use Rattle.desk_executions.specs.declared.execution.Execution.{Execution}
use Rattle.day_executions.specs.declared.heard.Heard.{Heard}
use Rattle.day_executions.specs.declared.heard.HeardNote.{HeardNote}
use Rattle.day_executions.specs.Executions.{booked, heard_behind, left, not_taken, numbered_from, said_by, untaken_behind}
use Rattle.day_executions.specs.Named.{execution_of}
use Rattle.report_words.specs.declared.report_words.ReportWords.{ReportWords}

pub none_before : {A : Type 0} (xs ys : List A) → xs ++ ys ≡ [] → xs ≡ []
none_before [] ys none = refl
none_before (x ∷ xs) ys none = absurd cc

pub none_behind : {A : Type 0} (xs ys : List A) → xs ++ ys ≡ [] → ys ≡ []
none_behind [] ys none = none
none_behind (x ∷ xs) ys none = absurd cc

-- what is told of these
abbrev told : List (List ℕ) → List ReportWords → List HeardNote → List Execution
told names words notes =
    filter_map (execution_of names) (map (said_by words) (filter (λ note. not_taken note.heard.answer) notes))

told_behind : (names : List (List ℕ)) (words : List ReportWords) (xs ys : List HeardNote)
    → told names words (xs ++ ys) ≡ [] → told names words ys ≡ []
told_behind names words xs ys none =
    let untaken : HeardNote → Bool = λ note. not_taken note.heard.answer in
    none_behind (told names words xs) (told names words ys)
    (sym (filter_map-append (execution_of names) (map (said_by words) (filter untaken xs))
    (map (said_by words) (filter untaken ys)))
    ∙ ap (filter_map (execution_of names)) (sym (map-append (said_by words) (filter untaken xs) (filter untaken ys)))
    ∙ ap (λ (l : List HeardNote). filter_map (execution_of names) (map (said_by words) l))
    (sym (filter-append untaken xs ys)) ∙ none)

numbered_behind : (number : ℕ) (xs ys : List Heard)
    → numbered_from number (xs ++ ys) ≡ numbered_from number xs ++ numbered_from (number + length xs) ys
numbered_behind number [] ys =
    let same : number ≡ number + 0 = omega arith in
    ap (λ (n : ℕ). numbered_from n ys) same
numbered_behind number (x ∷ xs) ys =
    let same : suc number + length xs ≡ number + suc (length xs) = omega arith in
    ap (λ (l : List HeardNote). record { number = number; heard = x } ∷ l)
    (numbered_behind (suc number) xs ys
    ∙ ap (λ (n : ℕ). numbered_from (suc number) xs ++ numbered_from n ys) same)

kept_first : (untaken : Bool) (note : HeardNote) (rest : List HeardNote) → untaken ≡ true
    → if untaken then note ∷ rest else rest ≡ note ∷ rest
kept_first true note rest is = refl
kept_first false note rest is = absurd cc

not_told : {X : Type 0} (there : Option X) → filter_map (λ (n : ℕ). there) (0 ∷ []) ≡ [] → there ≡ None
not_told None none = refl
not_told (Some x) none = absurd cc

none_there : {X Y : Type 0} (f : X → Y) (there : Option X) → option_map f there ≡ None → there ≡ None
none_there f None none = refl
none_there f (Some x) none = absurd cc

some_is_not_none : {X : Type 0} (there : Option X) (x : X) → there ≡ Some x → there ≡ None → ⊥
some_is_not_none None x is none = absurd cc
some_is_not_none (Some y) x is none = absurd cc

-- a venue that has no name is none of those that have
unnamed : (names : List (List ℕ)) (other venue : ℕ) → venue < length names → slice_get names other ≡ None
    → (other == venue) ≡ false
unnamed names other venue within none =
    elim (slice_get_cases names other).1 [
      | inl found ↦ absurd (some_is_not_none (slice_get names other) found.0 found.2 none)
      | inr past ↦ (let far = past.0 in grind (arith, nat_tests, within, far))
    ]

not_kept : (is : Bool) (item : Unbooked) (items : List Unbooked) → is ≡ false
    → if is then item ∷ items else items ≡ items
not_kept true item items is = absurd cc
not_kept false item items is = refl

untaken_answer : (answer : Applied) → has_moved answer ≡ false → not_taken answer ≡ true
untaken_answer applied.Moved is = absurd cc
untaken_answer applied.Duplicate is = refl
untaken_answer applied.Overfill is = refl
untaken_answer applied.Stray is = refl

-- where nothing is told, none of a venue that has a name is listed
none_listed : (names : List (List ℕ)) (words : List ReportWords) (venue number least entries : ℕ) (book : BookParts)
    (history : List BookEntry) (items : List Unbooked) → WereUnbookedFrom least book items → venue < length names
    → told names words (numbered_from number (heard_behind entries history items)) ≡ [] → unbooked_of venue items ≡ []
none_listed names words venue number least entries book history [] were within none = refl
none_listed names words venue number least entries book history (item ∷ items) were within none =
    let gap : List Heard = filter_map booked (take (item.entries - entries) history) in
    let after = drop (item.entries - entries) history in
    let rest : List Heard = heard_behind item.entries after items in
    let at = number + length gap in
    let note : HeardNote = record { number = at; heard = left item } in
    let said = said_by words note in
    let others = numbered_from (suc at) rest in
    let untaken : HeardNote → Bool = λ note. not_taken note.heard.answer in
    let here : told names words (note ∷ others) ≡ [] =
    told_behind names words (numbered_from number gap) (note ∷ others)
    (ap (told names words) (sym (numbered_behind number gap (left item ∷ rest))) ∙ none) in
    let kept = kept_first (not_taken item.answer) note (filter untaken others)
    (untaken_answer item.answer were.1.left) in
    let parts : filter_map (execution_of names) (said ∷ []) ++ told names words others ≡ [] =
    sym (filter_map-append (execution_of names) (said ∷ []) (map (said_by words) (filter untaken others)))
    ∙ ap (λ (l : List HeardNote). filter_map (execution_of names) (map (said_by words) l)) (sym kept) ∙ here in
    let no_execution : execution_of names said ≡ None =
    not_told (execution_of names said) (none_before (filter_map (execution_of names) (said ∷ [])) _ parts) in
    let no_name = none_there _ (slice_get names item.venue) no_execution in
    let other = unnamed names item.venue venue within no_name in
    let more = none_behind (filter_map (execution_of names) (said ∷ [])) (told names words others) parts in
    not_kept (item.venue == venue) item (unbooked_of venue items) other
    ∙ none_listed names words venue (suc at) item.entries item.entries book after items were.2 within more

pub nothing_listed : (names : List (List ℕ)) (day : CountedParts) (words : List ReportWords) (venue : ℕ)
    → IsListOf day.book day.unbooked → venue < length names
    → filter_map (execution_of names) (map (said_by words) (untaken_behind 0 day.book.entries day.unbooked)) ≡ []
    → unbooked_of venue day.unbooked ≡ []
nothing_listed names day words venue list within none =
    none_listed names words venue 1 0 0 day.book day.book.entries day.unbooked list within none
