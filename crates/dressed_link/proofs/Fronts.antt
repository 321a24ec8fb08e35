-- The frame at the front of bytes: what a reader finds there, and what it is in the words of the grammar.
use Rattle.std.proofs.Common.{◌≡◌, ◌==◌, ℕ, zero, suc, ◌+◌, ◌<◌, ◌≤◌, Bool, true, false, cond, ◌&&◌, List, [], ◌∷◌, ◌++◌, length, length-append, take, drop, Option, Some, None, Result, Ok, Err, refl, sym, ap, ap₂, subst, ◌∙◌, arith}
use Rattle.std.specs.Prelude.{◌%◌, sum, option_map, option_and_then, IsErrAnd, IsOkUnless, IsSomeAnd, MatchOption}
use Rattle.std.proofs.Math.Seq.{take-append_seam}
use Rattle.std.proofs.lemmas.Bool.{and_parts, eqb-true}
use Rattle.fix_text.specs.Tagged.{Tagged}
use Rattle.fix_text.specs.Frame.{frame_text, frame_refusal, three_digits}
use Rattle.fix_text.specs.Text.{fields_text}
use Rattle.fix_text.specs.Grammar.{header_of, trailer_of, IsValidFrame, Pass, Given, Garbled, Skipped, Passes, given_of, garbled_of, skipped_of}
use Rattle.fix_text.specs.Reading.{Stream, NextFrame, next_read, one_more}
use Rattle.fix_text.specs.Deciding.{IsNext, counted, Ends}
use Rattle.fix_text.specs.declared.fault.TextFault.{TextFault}
use Rattle.fix_text.specs.declared.fault.TextFault.TheVariants as text
use Rattle.fix_text.proofs.FieldTexts.{some_is}
use Rattle.fix_text.proofs.NextFrames.{next_is, next_unique}
use Rattle.fix_tags.specs.Dress.{Dress}
use Rattle.dressed_link.specs.Dressing.{dressed_fields, dressed_frame}
use Rattle.dressed_link.specs.declared.dress_fault.DressFault.{DressFault}
use Rattle.dressed_link.specs.declared.dress_fault.DressFault.TheVariants.{NoFrame}
use Rattle.dressed_link.specs.Refusing.{dress_fault_of}
use Rattle.dressed_link.specs.Fronts.{Front, Dressed, front_in, front_of, front_dressed, unless_refused, dressed_front}

-- a stream of these bytes, of which nothing was read
abbrev pub new_of : List ℕ → Stream
new_of bytes = record { rest = bytes; skipped = 0; garbled = 0 }

-- ---- what a reader finds

found : (d : Dress) (fields : List Tagged) (frame : Option (List Tagged)) (stream : Stream)
    → Some fields ≡ option_map (dressed_fields d) frame → stream.skipped ≡ 0 → stream.garbled ≡ 0
    → frame_refusal fields ≡ None → option_and_then (front_dressed d) (front_in (record { frame = frame; stream = stream }))
    ≡ Some (record { text = frame_text fields; rest = stream.rest })
found d fields None stream is skipped garbled writable = cc
found d fields (Some own) stream is skipped garbled writable =
    let same : fields ≡ dressed_fields d own = some_is fields (dressed_fields d own) is in
    let first : front_in (record { frame = Some own; stream = stream }) ≡ Some (record { fields = own; rest = stream.rest }) =
    ap₂ (λ (s g : ℕ). cond (s == 0 && g == 0) (Some (record { fields = own; rest = stream.rest })) None) skipped garbled in
    ap (option_and_then (front_dressed d)) first
    ∙ (ap (λ (x : List Tagged). unless_refused (frame_refusal x) (record { text = frame_text x; rest = stream.rest })) (sym same)
    ∙ ap (λ refusal. unless_refused refusal (record { text = frame_text fields; rest = stream.rest })) writable)

some_and : {A : Type 0} (o : Option A) (x : A) (P : A → Type 0) → o ≡ Some x → P x → IsSomeAnd o P
some_and {A} o x P is p = subst (λ (o : Option A). IsSomeAnd o P) (sym is) p

pub put_front : (d : Dress) (bytes old new : List ℕ) (reader after : Stream) (fields : List Tagged) (count : ℕ)
    → reader ≡ new_of bytes → Some fields ≡ option_map (dressed_fields d) (next_read reader).frame
    → after ≡ (next_read reader).stream → after.skipped ≡ 0 → after.garbled ≡ 0 → frame_refusal fields ≡ None
    → new ≡ old ++ frame_text fields → count + length after.rest ≡ length bytes
    → IsSomeAnd (dressed_front d bytes) (λ dressed. (count + length dressed.rest ≡ length bytes) × (new ≡ old ++ dressed.text))
put_front d bytes old new reader after fields count begun is left skipped garbled writable pushed counts =
    let next = next_read reader in
    let frame : Some fields ≡ option_map (dressed_fields d) (next_read (new_of bytes)).frame =
    is ∙ ap (λ s. option_map (dressed_fields d) (next_read s).frame) begun in
    let stream : after ≡ (next_read (new_of bytes)).stream = left ∙ ap (λ s. (next_read s).stream) begun in
    let read = found d fields (next_read (new_of bytes)).frame (next_read (new_of bytes)).stream frame
    (sym (ap (λ (s : Stream). s.skipped) stream) ∙ skipped) (sym (ap (λ (s : Stream). s.garbled) stream) ∙ garbled) writable in
    some_and (dressed_front d bytes) (record { text = frame_text fields; rest = (next_read (new_of bytes)).stream.rest })
    (λ dressed. (count + length dressed.rest ≡ length bytes) × (new ≡ old ++ dressed.text)) read
    (sym (ap (λ (s : Stream). count + length s.rest) stream) ∙ counts, pushed)

none_made : (d : Dress) (fields : List Tagged) (fault : TextFault) (frame : Option (List Tagged)) (rest : List ℕ) (first : Bool)
    → Some fields ≡ option_map (dressed_fields d) frame → frame_refusal fields ≡ Some fault
    → option_and_then (front_dressed d) (cond first (option_map (λ own. record { fields = own; rest = rest }) frame) None) ≡ None
none_made d fields fault None rest first is refused = cc
none_made d fields fault (Some own) rest false is refused = refl
none_made d fields fault (Some own) rest true is refused =
    let same : dressed_fields d own ≡ fields = sym (some_is fields (dressed_fields d own) is) in
    ap (λ refusal. unless_refused refusal (record { text = frame_text (dressed_fields d own); rest = rest }))
    (ap frame_refusal same ∙ refused)

never_both : (written : Result (Unit {0}) TextFault) (why : TextFault) → written ≡ Ok tt → written ≡ Err why → ⊥
never_both (Ok t) why ok failed = cc
never_both (Err fault) why ok failed = cc

-- fields can be written that were
pub written_ok : (refusal : Option TextFault) (written : Result (Unit {0}) TextFault) → written ≡ Ok tt
    → MatchOption refusal (IsOkUnless written text.OutOfMemory) (λ why. written ≡ Err why) → refusal ≡ None
written_ok None written ok refused = refl
written_ok (Some why) written ok refused = absurd (never_both written why ok refused)

-- why fields weren't written that can't be
refusal_of : (refusal : Option TextFault) (written : Result (Unit {0}) TextFault) (fault : TextFault)
    → written ≡ Err fault → dress_fault_of fault ≡ NoFrame
    → MatchOption refusal (IsOkUnless written text.OutOfMemory) (λ why. written ≡ Err why)
    → (why : TextFault) × (refusal ≡ Some why)
refusal_of (Some why) written fault is none refused = (why, refl)
refusal_of None written fault is none refused =
    let only = subst (λ (w : Result (Unit {0}) TextFault). IsOkUnless w text.OutOfMemory) is refused in
    absurd (never fault only none) where
      never : (fault : TextFault) → fault ≡ text.OutOfMemory → dress_fault_of fault ≡ NoFrame → ⊥
      never text.BadTag only none = cc
      never text.BadValue only none = cc
      never text.TooLong only none = cc
      never text.OutOfMemory only none = cc

pub put_refused : (d : Dress) (bytes : List ℕ) (reader : Stream) (fields : List Tagged)
    (written : Result (Unit {0}) TextFault) (fault : TextFault) (result : Result ℕ DressFault)
    → reader ≡ new_of bytes → Some fields ≡ option_map (dressed_fields d) (next_read reader).frame
    → written ≡ Err fault
    → MatchOption (frame_refusal fields) (IsOkUnless written text.OutOfMemory) (λ why. written ≡ Err why)
    → IsErrAnd result (λ given. given ≡ dress_fault_of fault) → result ≡ Err NoFrame → dressed_front d bytes ≡ None
put_refused d bytes reader fields written fault (Ok count) begun is failed refused given none = absurd given
put_refused d bytes reader fields written fault (Err why) begun is failed refused given none =
    let same : why ≡ NoFrame = cc in
    let reason = refusal_of (frame_refusal fields) written fault failed (sym given ∙ same) refused in
    none_made d fields reason.0 (next_read (new_of bytes)).frame (next_read (new_of bytes)).stream.rest _
    (is ∙ ap (λ s. option_map (dressed_fields d) (next_read s).frame) begun) reason.1

-- ---- in the words of the grammar

rises : (n more : ℕ) → 0 < n → 0 < counted n more
rises n zero some = some
rises n (suc more) some = rises (one_more n) more (above n) where
  above : (n : ℕ) → 0 < one_more n
  above n = omega arith

none_counted : (more : ℕ) → counted 0 more ≡ 0 → more ≡ 0
none_counted zero none = refl
none_counted (suc more) none =
    let some : 0 < counted 1 more = rises 1 more (omega arith) in
    absurd (omega (arith, some, none))

nothing_passed : (before : List Pass) → given_of before ≡ [] → skipped_of before ≡ 0 → garbled_of before ≡ 0 → before ≡ []
nothing_passed [] given skipped garbled = refl
nothing_passed (Given text fields ∷ before) given skipped garbled = cc
nothing_passed (Garbled text ∷ before) given skipped garbled = absurd (omega (arith, garbled))
nothing_passed (Skipped byte ∷ before) given skipped garbled = absurd (omega (arith, skipped))

-- a frame at the front of bytes, with its fields
pub record StandsAt (bytes rest : List ℕ) (fields : List Tagged) : Type 0 where
  pub text : List ℕ
  pub bytes_are : bytes ≡ text ++ rest
  pub valid : IsValidFrame text fields

stands : (bytes : List ℕ) (own : List Tagged) (frame : Option (List Tagged)) (stream : Stream) → frame ≡ Some own
    → stream.skipped ≡ 0 → stream.garbled ≡ 0 → IsNext (new_of bytes) (record { frame = frame; stream = stream })
    → StandsAt bytes stream.rest own
stands bytes own None stream is skipped garbled next = cc
stands bytes own (Some fields) stream is skipped garbled next =
    let before = nothing_passed next.before next.no_valid
    (none_counted (skipped_of next.before) (sym next.skipped ∙ skipped))
    (none_counted (garbled_of next.before) (sym next.garbled ∙ garbled)) in
    let at : bytes ≡ next.middle = subst (λ (passes : List Pass). Passes passes bytes next.middle) before next.passes in
    record {
      text = next.ends.0;
      bytes_are = at ∙ next.ends.1.0;
      valid = subst (IsValidFrame next.ends.0) (some_is fields own is) next.ends.1.1;
    }

in_front : (bytes : List ℕ) (front : Front) (frame : Option (List Tagged)) (stream : Stream) (first : Bool)
    → (stream.skipped == 0 && stream.garbled == 0) ≡ first
    → cond first (option_map (λ fields. record { fields = fields; rest = stream.rest }) frame) None ≡ Some front
    → IsNext (new_of bytes) (record { frame = frame; stream = stream }) → StandsAt bytes front.rest front.fields
in_front bytes front frame stream false is some next = cc
in_front bytes front None stream true is some next = cc
in_front bytes front (Some fields) stream true is some next =
    let parts = and_parts (stream.skipped == 0) (stream.garbled == 0) is in
    subst (λ (front : Front). StandsAt bytes front.rest front.fields) (some_is _ front some)
    (stands bytes fields (Some fields) stream refl (eqb-true stream.skipped 0 parts.0) (eqb-true stream.garbled 0 parts.1) next)

pub front_stands : (bytes : List ℕ) (front : Front) → front_of bytes ≡ Some front → StandsAt bytes front.rest front.fields
front_stands bytes front is =
    in_front bytes front (next_read (new_of bytes)).frame (next_read (new_of bytes)).stream _ refl is (next_is (new_of bytes))

pub front_found : (text rest : List ℕ) (fields : List Tagged) → IsValidFrame text fields
    → front_of (text ++ rest) ≡ Some (record { fields = fields; rest = rest })
front_found text rest fields valid =
    ap front_in (next_unique (new_of (text ++ rest)) (record { frame = Some fields; stream = new_of rest }) (record {
      before = [];
      middle = text ++ rest;
      passes = refl;
      no_valid = refl;
      ends = (text, (refl, valid));
      skipped = refl;
      garbled = refl;
    }))

-- what was dressed stood at the front
pub record IsDressedFrom (d : Dress) (bytes : List ℕ) (dressed : Dressed) : Type 0 where
  pub fields : List Tagged
  pub text : List ℕ
  pub bytes_are : bytes ≡ text ++ dressed.rest
  pub valid : IsValidFrame text fields
  pub text_is : dressed.text ≡ dressed_frame d fields
  pub written : frame_refusal (dressed_fields d fields) ≡ None

dressed_by : (d : Dress) (bytes : List ℕ) (dressed : Dressed) (front : Option Front)
    → front_of bytes ≡ front → option_and_then (front_dressed d) front ≡ Some dressed → IsDressedFrom d bytes dressed
dressed_by d bytes dressed None is some = cc
dressed_by d bytes dressed (Some front) is some =
    let at = front_stands bytes front is in
    let made = written (frame_refusal (dressed_fields d front.fields)) some in
    record {
      fields = front.fields;
      text = at.text;
      bytes_are = at.bytes_are ∙ ap (λ (x : Dressed). at.text ++ x.rest) made;
      valid = at.valid;
      text_is = sym (ap (λ (x : Dressed). x.text) made);
      written = can_be (frame_refusal (dressed_fields d front.fields)) some;
    } where
      whole : Dressed
      whole = record { text = frame_text (dressed_fields d front.fields); rest = front.rest }

      written : (r : Option TextFault) → unless_refused r whole ≡ Some dressed → whole ≡ dressed
      written None some = some_is whole dressed some
      written (Some fault) some = cc

      can_be : (r : Option TextFault) → unless_refused r whole ≡ Some dressed → r ≡ None
      can_be None some = refl
      can_be (Some fault) some = cc

pub dressed_from : (d : Dress) (bytes : List ℕ) (dressed : Dressed) → dressed_front d bytes ≡ Some dressed
    → IsDressedFrom d bytes dressed
dressed_from d bytes dressed is = dressed_by d bytes dressed (front_of bytes) refl is

-- ---- what was taken of bytes

-- the first bytes are a frame, and its dressed text was appended
pub record IsTakenFrom (d : Dress) (bytes : List ℕ) (count : ℕ) (old new : List ℕ) : Type 0 where
  pub fields : List Tagged
  pub valid : IsValidFrame (take count bytes) fields
  pub within : count ≤ length bytes
  pub some : 0 < count
  pub pushed : new ≡ old ++ dressed_frame d fields

positive : (c : ℕ) (cs : List ℕ) → 0 < length (c ∷ cs)
positive c cs = omega arith

not_empty : (text : List ℕ) (fields : List Tagged) → IsValidFrame text fields → 0 < length text
not_empty text fields valid =
    let before = header_of valid.digits ++ fields_text fields in
    subst (λ (l : List ℕ). 0 < length l) (sym valid.bytes_are)
    (positive 56 (drop 1 (before ++ trailer_of (three_digits (sum before % 256)))))

taken_by : (d : Dress) (bytes : List ℕ) (count : ℕ) (old new : List ℕ) (found : Option Dressed) → dressed_front d bytes ≡ found
    → IsSomeAnd found (λ dressed. (count + length dressed.rest ≡ length bytes) × (new ≡ old ++ dressed.text))
    → IsTakenFrom d bytes count old new
taken_by d bytes count old new None is found = absurd found
taken_by d bytes count old new (Some dressed) is found =
    let from = dressed_from d bytes dressed is in
    let all : length bytes ≡ length from.text + length dressed.rest =
    ap length from.bytes_are ∙ length-append from.text dressed.rest in
    let counts = found.0 in
    let whole : count ≡ length from.text = omega (arith, all, counts) in
    let first : from.text ≡ take count bytes =
    sym (take-append_seam from.text dressed.rest) ∙ ap (take (length from.text)) (sym from.bytes_are)
    ∙ ap (λ (n : ℕ). take n bytes) (sym whole) in
    let some = not_empty from.text from.fields from.valid in
    record {
      fields = from.fields;
      valid = subst (λ (l : List ℕ). IsValidFrame l from.fields) first from.valid;
      within = omega (arith, all, whole);
      some = omega (arith, some, whole);
      pushed = found.1 ∙ ap (λ (l : List ℕ). old ++ l) from.text_is;
    }

pub taken_from : (d : Dress) (bytes : List ℕ) (count : ℕ) (old new : List ℕ)
    → IsSomeAnd (dressed_front d bytes) (λ dressed. (count + length dressed.rest ≡ length bytes) × (new ≡ old ++ dressed.text))
    → IsTakenFrom d bytes count old new
taken_from d bytes count old new found = taken_by d bytes count old new (dressed_front d bytes) refl found
