-- Executions are lent, one after the other.
use Rattle.std.proofs.Common.{◌≡◌, Bool, true, false, ℕ, zero, suc, ◌+◌, ◌-◌, ◌<◌, ◌≤◌, List, [], ◌∷◌, ◌++◌, length, map, take, drop, get_or, Option, Some, None, refl, sym, ap, ◌∙◌, arith}
use Rattle.std.specs.Prelude.{filter, min, option_to_list, slice_get, if◌then◌else◌}
use Rattle.std.proofs.lemmas.List.{append-nil, append_assoc, drop_all, drop_min, drop_more, take_more, take_min, length-drop, length-map, get_or-drop}
use Rattle.std.proofs.lemmas.Option.{slice_get_within, get_or_from_slice_get}
use Rattle.share_ledger.specs.declared.book_entry.BookEntry.{BookEntry}
use Rattle.exec_collector.specs.declared.unbooked.Unbooked.{Unbooked}
use Rattle.day_executions.specs.declared.heard.Heard.{Heard}
use Rattle.day_executions.specs.declared.heard.HeardNote.{HeardNote}
use Rattle.day_executions.specs.declared.place.Place.{Place}
use Rattle.day_executions.specs.Executions.{found, heard, not_taken, notes_behind, numbered, numbered_from, untaken_behind}
use Rattle.day_executions.specs.Walk.{AllFound, if_untaken}

abbrev some : Heard → Option Heard
some said = Some said

-- those that the book didn't take
abbrev untaken : List HeardNote → List HeardNote
untaken notes = filter (λ note. not_taken note.heard.answer) notes

first_if : (b : Bool) (number : ℕ) (said : Heard) (rest : List HeardNote)
    → if b then record { number = number; heard = said } ∷ rest else rest
    ≡ option_to_list (numbered number (if b then Some said else None)) ++ rest
first_if true number said rest = refl
first_if false number said rest = refl

-- of one more it is the first, if the book didn't take it
untaken_first : (number : ℕ) (said : Heard) (rest : List HeardNote)
    → untaken (record { number = number; heard = said } ∷ rest)
    ≡ option_to_list (numbered number (if_untaken (Some said))) ++ untaken rest
untaken_first number said rest = first_if (not_taken said.answer) number said (untaken rest)

-- what stands at the i-th place is the i-th of all
record Stands (there : Option Heard) (all : List Heard) (i : ℕ) : Type 0 where
  said : Heard
  is : there ≡ Some said
  listed : slice_get all i ≡ Some said

stands : (f : Place → Option Heard) (places : List Place) (all : List Heard) (i : ℕ) (d : Place)
    → map f places ≡ map some all → i < length places → Stands (f (get_or places i d)) all i
stands f [] all i d are below = absurd (omega (arith, below))
stands f (p ∷ places) [] i d are below =
    let none = ap (λ l. length l) are in
    absurd (omega (arith, none))
stands f (p ∷ places) (said ∷ all) zero d are below =
    record { said = said; is = ap (λ l. get_or l 0 None) are; listed = refl }
stands f (p ∷ places) (said ∷ all) (suc i) d are below =
    let rest = stands f places all i d (ap (λ l. drop 1 l) are) (omega (arith, below)) in
    record { said = rest.said; is = rest.is; listed = rest.listed }

-- the i-th of all under its number
at_number : (number : ℕ) (all : List Heard) (i : ℕ) (said : Heard) → slice_get all i ≡ Some said
    → slice_get (numbered_from number all) i ≡ numbered (number + i) (Some said)
at_number number [] i said there = absurd (grind (arith, there))
at_number number (first ∷ all) zero said there =
    let same : number + 0 ≡ number = omega arith in
    ap (λ (o : Option Heard). numbered number o) there ∙ ap (λ (n : ℕ). numbered n (Some said)) (sym same)
at_number number (first ∷ all) (suc i) said there =
    let same : suc number + i ≡ number + suc i = omega arith in
    at_number (suc number) all i said there ∙ ap (λ (n : ℕ). numbered n (Some said)) same

pub as_many : (number : ℕ) (all : List Heard) → length (numbered_from number all) ≡ length all
as_many number [] = refl
as_many number (first ∷ all) = ap suc (as_many (suc number) all)

pub as_many_places : (places : List Place) (history : List BookEntry) (unbooked : List Unbooked)
    → AllFound places history unbooked → length places ≡ length (heard history unbooked)
as_many_places places history unbooked are =
    sym (length-map places (found history unbooked))
    ∙ ap (λ l. length l) are
    ∙ length-map (heard history unbooked) some

-- one note more is lent
pub note_more : (history : List BookEntry) (unbooked : List Unbooked) (places : List Place) (now next : List HeardNote)
    (after at number : ℕ) (place d : Place) (said : Option Heard)
    → AllFound places history unbooked → after + at < length places → place ≡ get_or places (after + at) d
    → number ≡ after + at + 1 → said ≡ found history unbooked place
    → now ≡ take at (drop after (numbered_from 1 (heard history unbooked)))
    → next ≡ now ++ option_to_list (numbered number said)
    → next ≡ take (at + 1) (drop after (numbered_from 1 (heard history unbooked)))
note_more history unbooked places now next after at number place d said are below place_is number_is said_is so_far
    pushed =
    let all = heard history unbooked in
    let notes = numbered_from 1 all in
    let stood = stands (found history unbooked) places all (after + at) d are below in
    let note : HeardNote = record { number = 1 + (after + at); heard = stood.said } in
    let listed : slice_get notes (after + at) ≡ Some note = at_number 1 all (after + at) stood.said stood.listed in
    let counted : number ≡ 1 + (after + at) = omega (arith, number_is) in
    let is : said ≡ Some stood.said =
    said_is ∙ ap (λ (p : Place). found history unbooked p) place_is ∙ stood.is in
    let within = slice_get_within notes (after + at) note listed in
    let left = length-drop after notes in
    let here : get_or (drop after notes) at note ≡ note =
    get_or-drop after notes at note ∙ get_or_from_slice_get notes (after + at) note note listed in
    pushed
    ∙ ap (λ (l : List HeardNote). l ++ option_to_list (numbered number said)) so_far
    ∙ ap (λ (o : Option Heard). take at (drop after notes) ++ option_to_list (numbered number o)) is
    ∙ ap (λ (n : ℕ). take at (drop after notes) ++ option_to_list (numbered n (Some stood.said))) counted
    ∙ ap (λ (n : HeardNote). take at (drop after notes) ++ n ∷ []) (sym here)
    ∙ sym (take_more (drop after notes) at note (omega (arith, within, left)))

-- all are lent
pub notes_end : (history : List BookEntry) (unbooked : List Unbooked) (places : List Place) (now : List HeardNote)
    (after most count at : ℕ)
    → AllFound places history unbooked → count ≡ min most (length places - after) → at ≡ count
    → now ≡ take at (drop after (numbered_from 1 (heard history unbooked)))
    → now ≡ notes_behind after most history unbooked
notes_end history unbooked places now after most count at are count_is at_is so_far =
    let all = heard history unbooked in
    let notes = numbered_from 1 all in
    let counted : length places ≡ length notes =
    as_many_places places history unbooked are ∙ sym (as_many 1 all) in
    let left = length-drop after notes in
    let last : at ≡ min most (length (drop after notes)) =
    at_is ∙ count_is ∙ ap (λ (n : ℕ). min most (n - after)) counted ∙ ap (λ (n : ℕ). min most n) (sym left) in
    so_far ∙ ap (λ (n : ℕ). take n (drop after notes)) last ∙ take_min most (drop after notes)

-- one more place is looked at for what the book didn't take
pub untaken_more : (history : List BookEntry) (unbooked : List Unbooked) (places : List Place)
    (now next : List HeardNote) (after before number : ℕ) (place d : Place) (said : Option Heard)
    → AllFound places history unbooked → before < length places → place ≡ get_or places before d
    → number ≡ before + 1 → said ≡ if_untaken (found history unbooked place)
    → now ++ untaken (drop before (numbered_from 1 (heard history unbooked))) ≡ untaken_behind after history unbooked
    → next ≡ now ++ option_to_list (numbered number said)
    → next ++ untaken (drop (before + 1) (numbered_from 1 (heard history unbooked)))
    ≡ untaken_behind after history unbooked
untaken_more history unbooked places now next after before number place d said are below place_is number_is said_is
    so_far pushed =
    let all = heard history unbooked in
    let notes = numbered_from 1 all in
    let stood = stands (found history unbooked) places all before d are below in
    let note : HeardNote = record { number = 1 + before; heard = stood.said } in
    let listed : slice_get notes before ≡ Some note = at_number 1 all before stood.said stood.listed in
    let counted : number ≡ 1 + before = omega (arith, number_is) in
    let is : said ≡ if_untaken (Some stood.said) =
    said_is
    ∙ ap (λ (p : Place). if_untaken (found history unbooked p)) place_is
    ∙ ap (λ (o : Option Heard). if_untaken o) stood.is in
    let within = slice_get_within notes before note listed in
    let rest = untaken (drop (before + 1) notes) in
    let next_is : drop before notes ≡ note ∷ drop (before + 1) notes =
    drop_more notes before note within
    ∙ ap (λ (n : HeardNote). n ∷ drop (before + 1) notes) (get_or_from_slice_get notes before note note listed) in
    ap (λ (l : List HeardNote). l ++ rest) pushed
    ∙ ap (λ (o : Option Heard). (now ++ option_to_list (numbered number o)) ++ rest) is
    ∙ ap (λ (n : ℕ). (now ++ option_to_list (numbered n (if_untaken (Some stood.said)))) ++ rest) counted
    ∙ append_assoc now (option_to_list (numbered (1 + before) (if_untaken (Some stood.said)))) rest
    ∙ ap (λ (l : List HeardNote). now ++ l) (sym (untaken_first (1 + before) stood.said (drop (before + 1) notes)))
    ∙ ap (λ (l : List HeardNote). now ++ untaken l) (sym next_is)
    ∙ so_far

-- nothing is looked at for it
pub untaken_begins : (history : List BookEntry) (unbooked : List Unbooked) (places : List Place) (now : List HeardNote)
    (after begin : ℕ)
    → AllFound places history unbooked → now ≡ [] → begin ≡ min after (length places)
    → now ++ untaken (drop begin (numbered_from 1 (heard history unbooked))) ≡ untaken_behind after history unbooked
untaken_begins history unbooked places now after begin are none begin_is =
    let all = heard history unbooked in
    let notes = numbered_from 1 all in
    let counted : length notes ≡ length places = as_many 1 all ∙ sym (as_many_places places history unbooked are) in
    ap (λ (l : List HeardNote). l ++ untaken (drop begin notes)) none
    ∙ ap (λ (n : ℕ). untaken (drop n notes)) (begin_is ∙ ap (λ (n : ℕ). min after n) (sym counted))
    ∙ ap (λ (l : List HeardNote). untaken l) (drop_min after notes)

-- all places were looked at for it
pub untaken_end : (history : List BookEntry) (unbooked : List Unbooked) (places : List Place) (now : List HeardNote)
    (after at : ℕ) → AllFound places history unbooked → length places ≤ at
    → now ++ untaken (drop at (numbered_from 1 (heard history unbooked))) ≡ untaken_behind after history unbooked
    → now ≡ untaken_behind after history unbooked
untaken_end history unbooked places now after at are far so_far =
    let all = heard history unbooked in
    let notes = numbered_from 1 all in
    let counted : length notes ≡ length places = as_many 1 all ∙ sym (as_many_places places history unbooked are) in
    sym (append-nil now)
    ∙ ap (λ (l : List HeardNote). now ++ untaken l) (sym (drop_all at notes (omega (arith, counted, far))))
    ∙ so_far
