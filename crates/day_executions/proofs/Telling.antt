-- Each note that is lent was heard.
use Rattle.std.proofs.Common.{◌≡◌, ℕ, Bool, true, false, List, ◌++◌, Option, Some, None, if◌then◌else◌, refl, sym, subst, ◌∙◌}
use Rattle.std.specs.Prelude.{option_to_list}
use Rattle.std.specs.List.{All}
use Rattle.std.proofs.lemmas.List.{append-nil}
use Rattle.std.proofs.lemmas.List.Elements.{All-push}
use Rattle.share_ledger.specs.declared.book_entry.BookEntry.{BookEntry}
use Rattle.exec_collector.specs.declared.unbooked.Unbooked.{Unbooked}
use Rattle.day_executions.specs.declared.heard.Heard.{Heard}
use Rattle.day_executions.specs.declared.heard.HeardNote.{HeardNote}
use Rattle.day_executions.specs.declared.place.Place.{Place}
use Rattle.day_executions.specs.Executions.{IsHeard, IsLeft, found, not_taken, numbered}
use Rattle.day_executions.specs.Walk.{if_untaken}

-- one note more is told, if there is one
one_more : (P : HeardNote → Type 0) (now next : List HeardNote) (number : ℕ) (said : Option Heard) → All P now
    → next ≡ now ++ option_to_list (numbered number said)
    → ((there : Heard) → said ≡ Some there → P (record { number = number; heard = there })) → All P next
one_more P now next number None so_far pushed told =
    subst (λ (l : List HeardNote). All P l) (sym (pushed ∙ append-nil now)) so_far
one_more P now next number (Some there) so_far pushed told =
    subst (λ (l : List HeardNote). All P l) (sym pushed)
    (All-push P now (record { number = number; heard = there }) so_far (told there refl))

-- what stands at one place more is told, if anything does
pub heard_more : (history : List BookEntry) (unbooked : List Unbooked) (now next : List HeardNote) (number : ℕ)
    (place : Place) (said : Option Heard) → All (IsHeard history unbooked) now
    → next ≡ now ++ option_to_list (numbered number said) → said ≡ found history unbooked place
    → All (IsHeard history unbooked) next
heard_more history unbooked now next number place said so_far pushed is =
    one_more (IsHeard history unbooked) now next number said so_far pushed
    (λ there said_is. record { at = place; stands = sym is ∙ said_is })

-- what is told, where the book didn't take it
record Untaken (there : Option Heard) (said : Heard) : Type 0 where
  is : there ≡ Some said
  left : not_taken said.answer ≡ true

untaken_if : (b : Bool) (first said : Heard) → not_taken first.answer ≡ b
    → if b then Some first else None ≡ Some said → Untaken (Some first) said
untaken_if true first said left is =
    let same : first ≡ said = cc in
    record { is = is; left = subst (λ (h : Heard). not_taken h.answer ≡ true) same left }
untaken_if false first said left is = absurd cc

untaken_of : (there : Option Heard) (said : Heard) → if_untaken there ≡ Some said → Untaken there said
untaken_of None said is = absurd cc
untaken_of (Some first) said is = untaken_if (not_taken first.answer) first said refl is

-- what stands at one place more is told, if the book didn't take it
pub left_more : (history : List BookEntry) (unbooked : List Unbooked) (now next : List HeardNote) (number : ℕ)
    (place : Place) (said : Option Heard) → All (IsLeft history unbooked) now
    → next ≡ now ++ option_to_list (numbered number said) → said ≡ if_untaken (found history unbooked place)
    → All (IsLeft history unbooked) next
left_more history unbooked now next number place said so_far pushed is =
    one_more (IsLeft history unbooked) now next number said so_far pushed
    (λ there said_is. let untaken = untaken_of (found history unbooked place) there (sym is ∙ said_is) in
    record { heard = record { at = place; stands = untaken.is }; left = untaken.left })
