-- Where a field is found among the fields of a written message.
use Rattle.std.proofs.Common.{◌≡◌, ℕ, Bool, true, false, List, ◌∷◌, ◌++◌, Option, Some, ◌==◌, codes, refl}
use Rattle.fix_text.specs.Tagged.{Tagged, value_of}
use Rattle.fix_tags.specs.Message.{field, flag_field, original_time, header_fields}
use Rattle.fix_tags.specs.declared.envelope.Envelope.{Envelope}

-- a tag that the header doesn't use
pub record IsOutside (tag : ℕ) : Type 0 where
  pub kind : (35 == tag) ≡ false
  pub sender : (49 == tag) ≡ false
  pub target : (56 == tag) ≡ false
  pub number : (34 == tag) ≡ false
  pub dup : (43 == tag) ≡ false
  pub resend : (97 == tag) ≡ false
  pub time : (52 == tag) ≡ false
  pub original : (122 == tag) ≡ false

-- the header's fields from PossDupFlag (43) on, with other fields behind them
abbrev pub marks : Bool → Bool → List ℕ → List Tagged → List Tagged
marks dup resend time fields = (flag_field 43 dup ++ flag_field 97 resend ++ field 52 time ∷ original_time dup time) ++ fields

value_of-marks : (dup resend : Bool) (time : List ℕ) (fields : List Tagged) (tag : ℕ) → IsOutside tag → value_of (marks dup resend time fields) tag ≡ value_of fields tag
value_of-marks true true time fields tag o = rw (o.dup, o.resend, o.time, o.original) refl
value_of-marks true false time fields tag o = rw (o.dup, o.time, o.original) refl
value_of-marks false true time fields tag o = rw (o.resend, o.time) refl
value_of-marks false false time fields tag o = rw o.time refl

-- a field that isn't the header's is looked for behind the header
pub value_of-header : (e : Envelope) (time : List ℕ) (fields : List Tagged) (tag : ℕ) → IsOutside tag → value_of (header_fields e time ++ fields) tag ≡ value_of fields tag
value_of-header e time fields tag o = rw (o.kind, o.sender, o.target, o.number) (value_of-marks e.poss_dup e.poss_resend time fields tag o)

-- the sending time is found
pub value_of-time : (dup resend : Bool) (time : List ℕ) (fields : List Tagged) → value_of (marks dup resend time fields) 52 ≡ Some time
value_of-time true true time fields = refl
value_of-time true false time fields = refl
value_of-time false true time fields = refl
value_of-time false false time fields = refl

-- what is looked for behind the header where a flag is missing
abbrev pub flag_or : Bool → Option (List ℕ) → Option (List ℕ)
flag_or true behind = Some (codes "Y")
flag_or false behind = behind

pub value_of-dup : (dup resend : Bool) (time : List ℕ) (fields : List Tagged) → value_of (marks dup resend time fields) 43 ≡ flag_or dup (value_of fields 43)
value_of-dup true true time fields = refl
value_of-dup true false time fields = refl
value_of-dup false true time fields = refl
value_of-dup false false time fields = refl

pub value_of-resend : (dup resend : Bool) (time : List ℕ) (fields : List Tagged) → value_of (marks dup resend time fields) 97 ≡ flag_or resend (value_of fields 97)
value_of-resend true true time fields = refl
value_of-resend true false time fields = refl
value_of-resend false true time fields = refl
value_of-resend false false time fields = refl
