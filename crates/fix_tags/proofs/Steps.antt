-- What each step of a reading found.
use Rattle.std.proofs.Common.{◌≡◌, ◌==◌, ◌⊎◌, inl, inr, ℕ, ◌≤◌, Bool, true, false, cond, ◌&&◌, nat_lt, nat_le, List, [], ◌∷◌, length, codes, Option, Some, None, Result, Ok, Err, refl, ap, subst, ◌∙◌, arith}
use Rattle.std.specs.Prelude.{IfSome}
use Rattle.std.proofs.lemmas.Bool.{eqb-true, and_parts}
use Rattle.std.proofs.lemmas.Bool.Decides.{nat_tests}
use Rattle.std.proofs.lemmas.Option.{same_Some, cond_some, option_and_then_some}
use Rattle.fix_text.specs.Then.{◌>>=◌}
use Rattle.fix_text.specs.Tagged.{Tagged, value_of}
use Rattle.fix_tags.specs.CompId.{IsCompId, is_comp_id, comp_id_of}
use Rattle.fix_tags.specs.Flag.{flag_of}
use Rattle.fix_tags.specs.Number.{number_of}
use Rattle.fix_tags.specs.Readable.{IsShortText}
use Rattle.fix_tags.specs.Reading.{good, wanted, required, or_default, optional, passing, number_if, some_number, short_text, some_text, no_encryption}
use Rattle.fix_tags.specs.Reading as reading
use Rattle.fix_tags.specs.Says.{SaysNumber, SaysNumberIfAny, SaysFlag}
use Rattle.fix_tags.specs.declared.tag_fault.TagFault.{TagFault}

-- the value of a step that met no fault
pub step : {A B P : Type 0} (f : A → Result B TagFault) (r : Result A TagFault) (y : B) → (r >>= f) ≡ Ok y
    → ((x : A) → r ≡ Ok x → f x ≡ Ok y → P) → P
step f (Ok x) y e then = then x refl e
step f (Err fault) y e then = absurd cc

abbrev pub done : {A : Type 0} → A → Result A TagFault
done x = Ok x

pub same_ok : {A : Type 0} (x y : A) → done x ≡ done y → x ≡ y
same_ok x y e = cc

good-Ok : {A : Type 0} (tag : ℕ) (o : Option A) (x : A) → good tag o ≡ Ok x → o ≡ Some x
good-Ok tag (Some y) x e = ap Some (same_ok y x e)
good-Ok tag None x e = absurd cc

wanted-Ok : {A : Type 0} (tag : ℕ) (read : List ℕ → Option A) (o : Option (List ℕ)) (x : A) → wanted tag read o ≡ Ok x
    → (text : List ℕ) × (o ≡ Some text) × (read text ≡ Some x)
wanted-Ok tag read (Some text) x e = (text, refl, good-Ok tag (read text) x e)
wanted-Ok tag read None x e = absurd cc

-- a field that had to be there
pub required-Ok : {A : Type 0} (fields : List Tagged) (tag : ℕ) (read : List ℕ → Option A) (x : A)
    → required fields tag read ≡ Ok x → (text : List ℕ) × (value_of fields tag ≡ Some text) × (read text ≡ Some x)
required-Ok fields tag read x e = wanted-Ok tag read (value_of fields tag) x e

or_default-Ok : {A : Type 0} (tag : ℕ) (read : List ℕ → Option A) (default : A) (o : Option (List ℕ)) (x : A)
    → or_default tag read default o ≡ Ok x
    → ((text : List ℕ) × (o ≡ Some text) × (read text ≡ Some x)) ⊎ ((o ≡ None) × (default ≡ x))
or_default-Ok tag read default (Some text) x e = inl (text, refl, good-Ok tag (read text) x e)
or_default-Ok tag read default None x e = inr (refl, same_ok default x e)

-- a field that could be missing
optional-Ok : {A : Type 0} (fields : List Tagged) (tag : ℕ) (read : List ℕ → Option A) (default x : A)
    → optional fields tag read default ≡ Ok x
    → ((text : List ℕ) × (value_of fields tag ≡ Some text) × (read text ≡ Some x))
    ⊎ ((value_of fields tag ≡ None) × (default ≡ x))
optional-Ok fields tag read default x e = or_default-Ok tag read default (value_of fields tag) x e

-- a name
pub comp_id_of-Some : (text id : List ℕ) → comp_id_of text ≡ Some id → (text ≡ id) × IsCompId id
comp_id_of-Some text id e =
    let found = cond_some (is_comp_id text) text id e in (found.1, subst IsCompId found.1 found.0)

-- a number that passed a test
pub number_if-Some : (test : ℕ → Bool) (text : List ℕ) (n : ℕ) → number_if test text ≡ Some n
    → (number_of text ≡ Some n) × (test n ≡ true)
number_if-Some test text n e =
    option_and_then_some (passing test) (number_of text) n e (λ m read passed.
    let found = cond_some (test m) m n passed in
    (read ∙ ap Some found.1, subst (λ (k : ℕ). test k ≡ true) found.1 found.0))

pub says_number : (fields : List Tagged) (tag : ℕ) (test : ℕ → Bool) (n : ℕ)
    → required fields tag (number_if test) ≡ Ok n → SaysNumber fields tag n × (test n ≡ true)
says_number fields tag test n e =
    let found = required-Ok fields tag (number_if test) n e in
    let read = number_if-Some test found.0 n found.2 in
    (record { text = found.0; there = found.1; reads_as = read.0 }, read.1)

-- what is known of a number that may be missing
abbrev pub IfAny : (ℕ → Bool) → Option ℕ → Type 0
IfAny test number = IfSome number (λ n. test n ≡ true)

pub says_number_if_any : (fields : List Tagged) (tag : ℕ) (test : ℕ → Bool) (number : Option ℕ)
    → optional fields tag (some_number test) None ≡ Ok number → SaysNumberIfAny fields tag number × IfAny test number
says_number_if_any fields tag test number e =
    elim (optional-Ok fields tag (some_number test) None number e) [
      | inl found ↦
          option_and_then_some (λ n. Some (Some n)) (number_if test found.0) number found.2 (λ n read same.
          let passed = number_if-Some test found.0 n read in
          subst (λ (o : Option ℕ). SaysNumberIfAny fields tag o × IfAny test o) (same_Some (Some n) number same)
          (record { text = found.0; there = found.1; reads_as = passed.0 }, passed.1))
      | inr missing ↦ subst (λ (o : Option ℕ). SaysNumberIfAny fields tag o × IfAny test o) missing.1 (missing.0, tt)
    ]

short_from : (most n : ℕ) → (nat_lt 0 n && nat_le n most) ≡ true → (1 ≤ n) × (n ≤ most)
short_from most n is =
    let parts = and_parts (nat_lt 0 n) (nat_le n most) is in (grind (arith, nat_tests), grind (arith, nat_tests))

-- a text of 1 to so many bytes
pub short_text-Some : (most : ℕ) (value text : List ℕ) → short_text most value ≡ Some text
    → (value ≡ text) × IsShortText most text
short_text-Some most value text e =
    let found = cond_some (nat_lt 0 (length value) && nat_le (length value) most) value text e in
    (found.1, subst (IsShortText most) found.1 (short_from most (length value) found.0))

pub says_text : (fields : List Tagged) (tag most : ℕ) (text : List ℕ) → required fields tag (short_text most) ≡ Ok text
    → (value_of fields tag ≡ Some text) × IsShortText most text
says_text fields tag most text e =
    let found = required-Ok fields tag (short_text most) text e in
    let read = short_text-Some most found.0 text found.2 in
    (found.1 ∙ ap Some read.0, read.1)

pub says_text_if_any : (fields : List Tagged) (tag : ℕ) (text : Option (List ℕ))
    → optional fields tag some_text None ≡ Ok text → (value_of fields tag ≡ text) × IfSome text (IsShortText 64)
says_text_if_any fields tag text e =
    elim (optional-Ok fields tag some_text None text e) [
      | inl found ↦
          option_and_then_some (λ (v : List ℕ). Some (Some v)) (short_text 64 found.0) text found.2 (λ v read same.
          let passed = short_text-Some 64 found.0 v read in
          subst (λ (o : Option (List ℕ)). (value_of fields tag ≡ o) × IfSome o (IsShortText 64)) (same_Some (Some v) text same)
          (found.1 ∙ ap Some passed.0, passed.1))
      | inr missing ↦
          subst (λ (o : Option (List ℕ)). (value_of fields tag ≡ o) × IfSome o (IsShortText 64)) missing.1 (missing.0, tt)
    ]

-- a flag
abbrev flag_code : Bool → List ℕ
flag_code true = codes "Y"
flag_code false = codes "N"

flag_at-Some : (a b : Bool) (c : ℕ) (flag : Bool) → (c == 89) ≡ a → (c == 78) ≡ b
    → cond a (Some true) (cond b (Some false) None) ≡ Some flag → c ∷ [] ≡ flag_code flag
flag_at-Some true b c true is_yes is_no e = ap (λ x. x ∷ []) (eqb-true c 89 is_yes)
flag_at-Some true b c false is_yes is_no e = absurd cc
flag_at-Some false true c false is_yes is_no e = ap (λ x. x ∷ []) (eqb-true c 78 is_no)
flag_at-Some false true c true is_yes is_no e = absurd cc
flag_at-Some false false c flag is_yes is_no e = absurd cc

flag_of-Some : (text : List ℕ) (flag : Bool) → flag_of text ≡ Some flag → text ≡ flag_code flag
unfolding flag_of
flag_of-Some [] flag e = absurd cc
flag_of-Some (c ∷ []) flag e = flag_at-Some (c == 89) (c == 78) c flag refl refl e
flag_of-Some (c ∷ d ∷ ds) flag e = absurd cc

flag_there : (fields : List Tagged) (tag : ℕ) (flag : Bool) → value_of fields tag ≡ Some (flag_code flag)
    → SaysFlag fields tag flag
flag_there fields tag true there = there
flag_there fields tag false there = inl there

flag_missing : (fields : List Tagged) (tag : ℕ) (flag : Bool) → value_of fields tag ≡ None → false ≡ flag
    → SaysFlag fields tag flag
flag_missing fields tag true missing e = absurd cc
flag_missing fields tag false missing e = inr missing

pub says_flag : (fields : List Tagged) (tag : ℕ) (flag : Bool) → reading.flag_at fields tag ≡ Ok flag
    → SaysFlag fields tag flag
says_flag fields tag flag e =
    elim (optional-Ok fields tag flag_of false flag e) [
      | inl found ↦ flag_there fields tag flag (found.1 ∙ ap Some (flag_of-Some found.0 flag found.2))
      | inr missing ↦ flag_missing fields tag flag missing.0 missing.1
    ]

-- no encryption
no_encryption-Some : (text value : List ℕ) → no_encryption text ≡ Some value → text ≡ codes "0"
no_encryption-Some [] value e = absurd cc
no_encryption-Some (c ∷ []) value e = ap (λ x. x ∷ []) (eqb-true c 48 (cond_some (c == 48) (c ∷ []) value e).0)
no_encryption-Some (c ∷ d ∷ ds) value e = absurd cc

pub says_no_encryption : (fields : List Tagged) (value : List ℕ) → required fields 98 no_encryption ≡ Ok value
    → value_of fields 98 ≡ Some (codes "0")
says_no_encryption fields value e =
    let found = required-Ok fields 98 no_encryption value e in
    found.1 ∙ ap Some (no_encryption-Some found.0 value found.2)
