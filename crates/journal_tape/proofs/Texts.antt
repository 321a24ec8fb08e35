-- Texts on a tape of zeros.
use Rattle.std.proofs.Common.{◌≡◌, ◌≢◌, ◌⊎◌, inl, inr, ℕ, zero, suc, ◌+◌, ◌-◌, Bool, true, List, [], ◌∷◌, ◌++◌, length, take, drop, refl, sym, ◌∙◌, ap, subst, arith, ◌≤◌, ◌<◌, eqb, Some, None, get_or, append_assoc, length-append, length-drop, length-take-le, take-append-drop}
use Rattle.std.proofs.lemmas.Bool.{cases_Bool}
use Rattle.std.proofs.lemmas.Bool.Decides.{nat_tests}
use Rattle.std.proofs.lemmas.List.{take_at, drop_at}
use Rattle.std.proofs.Math.Seq.{drop-append-add, take-append_seam, drop-append_seam, take-append-add}
use Rattle.std.proofs.lemmas.List.{append-nil}
use Rattle.memchr.specs.Find.{IsFirstByte, is_byte}
use Rattle.journal_tape.specs.Tape.{text, zeros, has_no_nul, Mixes, MixesAt, IsBetween, IsSettled, Follows, Only}

pub text_zeros : (n : ℕ) → text (zeros n) ≡ []
text_zeros zero = refl
text_zeros (suc n) = refl

not_zero : (x : ℕ) (xs : List ℕ) → has_no_nul (x ∷ xs) ≡ true → x ≢ 0
not_zero x xs clean = grind (arith, nat_tests)

rest_clean : (x : ℕ) (xs : List ℕ) → has_no_nul (x ∷ xs) ≡ true → has_no_nul xs ≡ true
rest_clean x xs clean = grind (arith, nat_tests)

text_more : (x : ℕ) (xs : List ℕ) → x ≢ 0 → text (x ∷ xs) ≡ x ∷ text xs
text_more x xs some = grind (arith, nat_tests)

text_ends : (x : ℕ) (xs : List ℕ) → x ≡ 0 → text (x ∷ xs) ≡ []
text_ends x xs none = grind (arith, nat_tests)

pub text_clean : (xs rest : List ℕ) → has_no_nul xs ≡ true → text (xs ++ rest) ≡ xs ++ text rest
text_clean [] rest clean = refl
text_clean (x ∷ xs) rest clean =
    text_more x (xs ++ rest) (not_zero x xs clean) ∙ ap (λ (l : List ℕ). x ∷ l) (text_clean xs rest (rest_clean x xs clean))

pub clean_more : (xs ys : List ℕ) → has_no_nul xs ≡ true → has_no_nul ys ≡ true → has_no_nul (xs ++ ys) ≡ true
clean_more [] ys clean other = other
clean_more (x ∷ xs) ys clean other =
    let some = not_zero x xs clean in
    let ih = clean_more xs ys (rest_clean x xs clean) other in
    grind (arith, nat_tests)

-- the same with its parts
abbrev pub IsParted : List ℕ → List ℕ → List ℕ → Type 0
IsParted old more found = (some : List ℕ) × (rest : List ℕ) × (found ≡ old ++ some) × (more ≡ some ++ rest)

pub between_is : (old more found : List ℕ) → IsParted old more found → IsBetween old more found
between_is old more found parts =
    let long : length found ≡ length old + length parts.0 = ap length parts.2 ∙ length-append old parts.0 in
    let count : length found - length old ≡ length parts.0 = omega (arith, long) in
    let first : take (length found - length old) more ≡ parts.0 =
    ap (λ (n : ℕ). take n more) count ∙ ap (λ (l : List ℕ). take (length parts.0) l) parts.3 ∙ take-append_seam parts.0 parts.1 in
    parts.2 ∙ ap (λ (l : List ℕ). old ++ l) (sym first)

pub parts_are : (old more found : List ℕ) → IsBetween old more found → IsParted old more found
parts_are old more found is =
    (take (length found - length old) more, drop (length found - length old) more, is, sym (take-append-drop (length found - length old) more))

pub nothing_between : (old more found : List ℕ) → found ≡ old → IsBetween old more found
nothing_between old more found is = between_is old more found ([], more, is ∙ sym (append-nil old), refl)

-- of a text that was being written over zeros there is a beginning
pub between : (bs : List ℕ) (n : ℕ) (new : List ℕ) → has_no_nul bs ≡ true → Mixes bs (zeros n) new → IsParted [] bs (text new)
between [] n new clean same = ([], [], ap text same ∙ text_zeros n, refl)
between (b ∷ bs) (suc n) (x ∷ xs) clean mixed = elim (mixed.0) [
  | inl old ↦ ([], b ∷ bs, text_ends x xs old, refl)
  | inr new ↦ found new (between bs n xs (rest_clean b bs clean) mixed.1)
]
  where
    found : x ≡ b → IsParted [] bs (text xs) → IsParted [] (b ∷ bs) (text (x ∷ xs))
    found is ih = (
      b ∷ ih.0,
      ih.1,
      text_more x xs (λ none. not_zero b bs clean (sym is ∙ none)) ∙ ap (λ (l : List ℕ). x ∷ l) ih.2 ∙ ap (λ (y : ℕ). y ∷ ih.0) is,
      ap (λ (l : List ℕ). b ∷ l) ih.3,
    )
between (b ∷ bs) (suc n) [] clean mixed = absurd mixed
between (b ∷ bs) zero new clean mixed = absurd mixed

pub crash_between : (told more : List ℕ) (at n : ℕ) (c : List ℕ) → at ≡ length told → has_no_nul told ≡ true → has_no_nul more ≡ true → MixesAt at more (told ++ zeros n) c → IsParted told more (text c)
crash_between told more at n c is clean also mixed =
    let front : take at c ≡ told = mixed.0 ∙ take_at told (zeros n) at (sym is) in
    let behind : Mixes more (zeros n) (drop at c) = subst (λ f. Mixes more f (drop at c)) (drop_at told (zeros n) at (sym is)) mixed.1 in
    let whole : c ≡ told ++ drop at c = sym (take-append-drop at c) ∙ ap (λ (l : List ℕ). l ++ drop at c) front in
    let some = between more n (drop at c) also behind in (
      some.0,
      some.1,
      ap text whole ∙ text_clean told (drop at c) clean ∙ ap (λ (l : List ℕ). told ++ l) some.2,
      some.3,
    )

drop_zeros : (m n : ℕ) → drop m (zeros n) ≡ zeros (n - m)
drop_zeros zero n = let e : n ≡ n - zero = omega arith in ap zeros e
drop_zeros (suc m) zero = let e : zero ≡ zero - suc m = omega arith in ap zeros e
drop_zeros (suc m) (suc n) = let e : n - m ≡ suc n - suc m = omega arith in drop_zeros m n ∙ ap zeros e

pub written : (told more : List ℕ) (at n : ℕ) → at ≡ length told → take at (told ++ zeros n) ++ more ++ drop (at + length more) (told ++ zeros n) ≡ (told ++ more) ++ zeros (n - length more)
written told more at n is =
    let behind : drop (at + length more) (told ++ zeros n) ≡ zeros (n - length more) =
    ap (λ (k : ℕ). drop (k + length more) (told ++ zeros n)) is ∙ drop-append-add told (zeros n) (length more) ∙ drop_zeros (length more) n in
    ap (λ (l : List ℕ). l ++ more ++ drop (at + length more) (told ++ zeros n)) (take_at told (zeros n) at (sym is))
    ∙ ap (λ (l : List ℕ). told ++ more ++ l) behind

pub length_zeros : (n : ℕ) → length (zeros n) ≡ n
length_zeros zero = refl
length_zeros (suc n) = omega (arith, length_zeros n)

-- what a write over a text and zeros may leave
pub left_between : (may_leave old_leave : List ℕ → Type 0) (seen more : List ℕ) (at n : ℕ) → seen ≡ text seen ++ zeros n → at ≡ length (text seen) → has_no_nul (text seen) ≡ true → has_no_nul more ≡ true → Only seen old_leave → Follows (MixesAt at more) old_leave may_leave → (c : List ℕ) → may_leave c → IsBetween (text seen) more (text c)
left_between may_leave old_leave seen more at n file is clean also only follows c left =
    crashed (follows c left)
  where
    crashed : old_leave c ⊎ ((d : List ℕ) × old_leave d × MixesAt at more d c) → IsBetween (text seen) more (text c)
    crashed (inl old) = nothing_between (text seen) more (text c) (ap text (only c old))
    crashed (inr from) =
        between_is (text seen) more (text c) (crash_between (text seen) more at n c is clean also
        (subst (λ d. MixesAt at more d c) (only from.0 from.1 ∙ file) from.2))

pub text_and_zeros : (told : List ℕ) (n : ℕ) → has_no_nul told ≡ true → text (told ++ zeros n) ≡ told
text_and_zeros told n clean =
    text_clean told (zeros n) clean ∙ ap (λ (l : List ℕ). told ++ l) (text_zeros n) ∙ append-nil told

-- a text and zeros go on as a text and zeros
pub settled_more : (before after more : List ℕ) (end room : ℕ) (old_leave new_leave : List ℕ → Type 0)
    → IsSettled before old_leave end room → has_no_nul more ≡ true → length more ≤ room - end
    → after ≡ take end before ++ more ++ drop (end + length more) before → Only after new_leave
    → IsSettled after new_leave (end + length more) room × (text after ≡ text before ++ more)
settled_more before after more end room old_leave new_leave s also fits is durable =
    let told = text before in
    let left : (room - end) - length more ≡ room - (end + length more) = omega arith in
    let file : after ≡ (told ++ more) ++ zeros (room - (end + length more)) =
    is
    ∙ ap (λ (l : List ℕ). take end l ++ more ++ drop (end + length more) l) s.file
    ∙ written told more end (room - end) s.ends
    ∙ ap (λ (n : ℕ). (told ++ more) ++ zeros n) left in
    let has : text after ≡ told ++ more =
    ap text file ∙ text_and_zeros (told ++ more) (room - (end + length more)) (clean_more told more s.clean also) in (
      record {
        file = file ∙ ap (λ (l : List ℕ). l ++ zeros (room - (end + length more))) (sym has);
        clean = subst (λ l. has_no_nul l ≡ true) (sym has) (clean_more told more s.clean also);
        ends = omega (arith, s.ends, ap length has, length-append told more);
        within = omega (arith, s.within, fits);
        durable = durable;
      },
      has,
    )

-- a tape that is a text and zeros
pub settled_text : (told seen : List ℕ) (end room : ℕ) (may_leave : List ℕ → Type 0) → has_no_nul told ≡ true
    → seen ≡ told ++ zeros (room - end) → end ≡ length told → end ≤ room → Only seen may_leave
    → IsSettled seen may_leave end room
settled_text told seen end room may_leave clean file ends within durable =
    let has : text seen ≡ told = ap text file ∙ text_and_zeros told (room - end) clean in
    record {
      file = file ∙ ap (λ (l : List ℕ). l ++ zeros (room - end)) (sym has);
      clean = subst (λ l. has_no_nul l ≡ true) (sym has) clean;
      ends = ends ∙ ap length (sym has);
      within = within;
      durable = durable;
    }

-- a write mixes the old bytes and the new ones
mixes_new : (bs old : List ℕ) → length bs ≤ length old → Mixes bs old (bs ++ drop (length bs) old)
mixes_new [] old le = refl
mixes_new (b ∷ bs) (o ∷ os) le = (inr refl, mixes_new bs os (omega (arith, le)))
mixes_new (b ∷ bs) [] le = absurd (omega (arith, le))

pub written_mixes : (at : ℕ) (bytes old new : List ℕ) → at + length bytes ≤ length old
    → new ≡ take at old ++ bytes ++ drop (at + length bytes) old → MixesAt at bytes old new
written_mixes at bytes old new fits is =
    let front : length (take at old) ≡ at = length-take-le at old (omega (arith, fits)) in
    let long = length-drop at old in
    let later = bytes ++ drop (at + length bytes) old in
    let parted : new ≡ take at old ++ later = is ∙ append_assoc (take at old) bytes (drop (at + length bytes) old) in
    let behind : drop (at + length bytes) old ≡ drop (length bytes) (drop at old) =
    ap (λ (n : ℕ). drop (n + length bytes) old) (sym front)
    ∙ ap (λ (l : List ℕ). drop (length (take at old) + length bytes) l) (sym (take-append-drop at old))
    ∙ drop-append-add (take at old) (drop at old) (length bytes) in
    let first : take at new ≡ take at old =
    ap (λ (l : List ℕ). take at l) parted
    ∙ ap (λ (n : ℕ). take n (take at old ++ later)) (sym front)
    ∙ take-append_seam (take at old) later in
    let then : drop at new ≡ bytes ++ drop (length bytes) (drop at old) =
    ap (λ (l : List ℕ). drop at l) parted
    ∙ ap (λ (n : ℕ). drop n (take at old ++ later)) (sym front)
    ∙ drop-append_seam (take at old) later
    ∙ ap (λ (l : List ℕ). bytes ++ l) behind in
    (first, subst (Mixes bytes (drop at old)) (sym then) (mixes_new bytes (drop at old) (omega (arith, fits, long))))

-- the text ends at the first zero
found : (bytes : List ℕ) (end : ℕ) → end < length bytes → eqb (get_or bytes end 0) 0 ≡ true
    → ((k : ℕ) → k < end → eqb (get_or bytes k 0) 0 ≡ true → ⊥) → take end bytes ≡ text bytes
found [] end within here before = absurd (omega (arith, within))
found (b ∷ bs) zero within here before = rw here refl
found (b ∷ bs) (suc n) within here before =
    elim (cases_Bool (eqb b 0)) [
      | inl is ↦ absurd (before 0 (omega arith) is)
      | inr other ↦ rw other (ap (λ (l : List ℕ). b ∷ l) (found bs n (omega (arith, within)) here
          (λ k low is. before (suc k) (omega (arith, low)) is)))
    ]

whole : (bytes : List ℕ) → ((k : ℕ) → k < length bytes → eqb (get_or bytes k 0) 0 ≡ true → ⊥) → bytes ≡ text bytes
whole [] before = refl
whole (b ∷ bs) before =
    elim (cases_Bool (eqb b 0)) [
      | inl is ↦ absurd (before 0 (omega arith) is)
      | inr other ↦ rw other (ap (λ (l : List ℕ). b ∷ l) (whole bs
          (λ k low is. before (suc k) (omega (arith, low)) is)))
    ]

pub text_found : (bytes : List ℕ) (end : ℕ) → IsFirstByte (is_byte 0) bytes (Some end) → take end bytes ≡ text bytes
text_found bytes end first =
    found bytes end (omega (arith, first.0.high)) first.1 (λ k low is. first.0.before k (omega arith) low is)

pub text_whole : (bytes : List ℕ) → IsFirstByte (is_byte 0) bytes None → bytes ≡ text bytes
text_whole bytes none = whole bytes (λ k low is. none k (omega arith) low is)

pub zeros_more : (n : ℕ) → zeros n ++ 0 ∷ [] ≡ zeros (n + 1)
zeros_more zero = refl
zeros_more (suc n) = let next : suc (n + 1) ≡ suc n + 1 = omega arith in ap (λ (l : List ℕ). 0 ∷ l) (zeros_more n) ∙ ap zeros next
