-- The reference of a written line is read.
use Rattle.std.proofs.Common.{◌≡◌, ℕ, ◌<◌, Bool, true, false, true≢false, ◌&&◌, eqb, leb, List, [], ◌∷◌, ◌++◌, length, take, get_or, refl, sym, subst, ap, ◌∙◌, arith, codes}
use Rattle.std.specs.Prelude.{Some, IsTrue, nat_eq}
use lib.Pointwise.{pointwise}
use Rattle.std.specs.List.{AllByRecursion, list_all, starts_with}
use Rattle.std.proofs.lemmas.Bool.Decides.{Decides-eqb, nat_tests}
use Rattle.std.proofs.lemmas.List.Elements.{All-from_recursion, All-weaker, recursion_from_All}
use Rattle.std.proofs.lemmas.List.Sums.{list_all-from_AllPass}
use Rattle.desk_words.specs.VenueName.{IsNameByte, IsVenueName, is_name_byte}
use Rattle.sweep_refs.specs.Ref.{IsRef, IsRefByte, is_ref_byte, ref_of}
use Rattle.sweep_text.specs.Written.{AreNames, name_of}
use Rattle.sweep_text.proofs.WordsBack.{IsWordByte, IsWord}
use Rattle.sweep_text.proofs.WordsWritten.{name_at, word_bytes}

-- a reference reads as itself
pub ref_back : (reference : List ℕ) → IsRef reference → ref_of reference ≡ Some reference
ref_back reference is =
    let bytes : list_all is_ref_byte reference ≡ true =
    list_all-from_AllPass is_ref_byte reference
    (λ k d within. let byte = is.bytes k d within in grind (arith, nat_tests)) in
    let some : leb 1 (length reference) ≡ true = grind (arith, nat_tests) in
    let short : leb (length reference) 64 ≡ true = grind (arith, nat_tests) in
    rw (some, short, bytes) refl

ref_byte : (byte : ℕ) → IsRefByte byte → IsWordByte byte
ref_byte byte is = record { from = is.from; to = is.to }

-- `ref=` and a reference are a word
pub ref_word : (reference : List ℕ) → IsRef reference → IsWord (codes "ref=" ++ reference)
ref_word reference is =
    let front : AllByRecursion IsWordByte (codes "ref=") =
    recursion_from_All IsWordByte (codes "ref=") (word_bytes (codes "ref=") refl) in
    let back : AllByRecursion IsWordByte reference =
    recursion_from_All IsWordByte reference (All-weaker IsRefByte IsWordByte ref_byte reference is.bytes) in
    record {
      some = omega arith;
      bytes = All-from_recursion IsWordByte (codes "ref=" ++ reference)
          (front.0, (front.1.0, (front.1.1.0, (front.1.1.1.0, back))));
    }

-- no byte of a name is `=`
no_equals : (byte : ℕ) → IsNameByte byte → eqb 61 byte ≡ false
no_equals byte is = by (eqb 61 byte) refl
  where
    by : (b : Bool) → eqb 61 byte ≡ b → b ≡ false
    by false is_it = refl
    by true is_it =
        let same : 61 ≡ byte = (Decides-eqb 61 byte).0 is_it in
        absurd (true≢false (sym (subst (λ c. IsTrue (is_name_byte c)) (sym same) is.allowed)))

-- a test that fails at its end
ends_false : (b c : Bool) → c ≡ false → (b && c) ≡ false
ends_false true c is = is
ends_false false c is = refl

-- no name begins with `ref=`
name_begins : (name : List ℕ) → AllByRecursion IsNameByte name → starts_with nat_eq name (codes "ref=") ≡ false
name_begins [] bytes = refl
name_begins (a ∷ []) bytes = ends_false (eqb 114 a) false refl
name_begins (a ∷ b ∷ []) bytes = ends_false (eqb 114 a) _ (ends_false (eqb 101 b) false refl)
name_begins (a ∷ b ∷ c ∷ []) bytes =
    ends_false (eqb 114 a) _ (ends_false (eqb 101 b) _ (ends_false (eqb 102 c) false refl))
name_begins (a ∷ b ∷ c ∷ d ∷ name) bytes =
    ends_false (eqb 114 a) _ (ends_false (eqb 101 b) _ (ends_false (eqb 102 c) _
    (ap (λ equals. equals && pointwise nat_eq [] (take 0 name)) (no_equals d bytes.1.1.1.0))))

pub no_name_begins_so : (names : List (List ℕ)) (venue : ℕ) → AreNames names → venue < length names
    → starts_with nat_eq (name_of names venue) (codes "ref=") ≡ false
no_name_begins_so names venue are within =
    let name : IsVenueName (get_or names venue []) = are.each venue [] within in
    ap (λ text. starts_with nat_eq text (codes "ref=")) (name_at names venue within)
    ∙ name_begins (get_or names venue []) (recursion_from_All IsNameByte (get_or names venue []) name.bytes)
