-- Reading on, one turn at a time.
use Rattle.std.proofs.Common.{◌≡◌, ℕ, zero, suc, ◌+◌, ◌-◌, ◌^◌, ◌<◌, ◌≤◌, eqb, min, List, [], ◌∷◌, length, get_or, drop, Option, Some, None, Result, Ok, Err, refl, sym, ap, ◌∙◌, arith}
use Rattle.std.proofs.Common.{true, false}
use Rattle.std.specs.Prelude.{is_some, OnErr}
use Rattle.std.proofs.lemmas.Bool.{ne_eqb}
use Rattle.std.proofs.lemmas.Grind.{get_or_after_one}
use Rattle.std.proofs.lemmas.List.{drop-drop, length-drop, nil_from_length}
use Rattle.fix_text.specs.declared.parse.NoFrame.{NoFrame}
use Rattle.fix_text.specs.declared.parse.NoFrame.TheVariants.{Short, Differs}
use Rattle.fix_text.specs.Tagged.{Tagged}
use Rattle.fix_text.specs.Reading.{RawFrameParts, Stream, NextFrame, frame_at, literal_at, valid_fields, at_frame, at_place, after_given, after_garbled, after_byte, read_on, next_read}
use Rattle.fix_text.specs.Placing.{AreMore}
use Rattle.fix_text.proofs.Readers.{differs_some, frame_shorter}

-- a frame that is passed needs only what shorter streams give
same_frame : (later other : Stream → NextFrame) (stream : Stream) (whole : RawFrameParts) (fields : Option (List Tagged)) → length whole.rest < length stream.rest
    → ((s : Stream) → length s.rest < length stream.rest → later s ≡ other s) → at_frame later stream whole fields ≡ at_frame other stream whole fields
same_frame later other stream whole (Some fields) shorter same = refl
same_frame later other stream whole None shorter same = same (after_garbled stream whole) shorter

-- so does any place
same_place : (later other : Stream → NextFrame) (stream : Stream) (place : Result RawFrameParts NoFrame) → place ≡ frame_at stream.rest
    → ((s : Stream) → length s.rest < length stream.rest → later s ≡ other s) → at_place later stream place ≡ at_place other stream place
same_place later other stream (Ok whole) is same = same_frame later other stream whole (valid_fields whole) (frame_shorter stream.rest whole is) same
same_place later other stream (Err Short) is same = refl
same_place later other stream (Err Differs) is same = same (after_byte stream) (omega (arith, differs_some stream.rest is, length-drop 1 stream.rest))

-- nothing is read where nothing is
nothing_read : (turns : ℕ) (stream : Stream) → length stream.rest ≤ 0 → read_on turns stream ≡ record { frame = None; stream = stream }
unfolding read_on frame_at literal_at
nothing_read zero stream empty = refl
nothing_read (suc turns) stream empty = ap (λ (bytes : List ℕ). at_place (read_on turns) stream (frame_at bytes)) (nil_from_length stream.rest (omega arith))

-- enough turns are enough
pub enough : (turns more : ℕ) (stream : Stream) → length stream.rest ≤ turns → length stream.rest ≤ more → read_on turns stream ≡ read_on more stream
unfolding read_on
enough zero more stream h k = sym (nothing_read more stream h)
enough (suc turns) zero stream h k = nothing_read (suc turns) stream k
enough (suc turns) (suc more) stream h k = same_place (read_on turns) (read_on more) stream (frame_at stream.rest) refl (λ s shorter. enough turns more s (omega arith) (omega arith))

-- what a call of the reader gives is what is done at the place, and then what a call gives
pub next_turn : (stream : Stream) → next_read stream ≡ at_place next_read stream (frame_at stream.rest)
unfolding next_read read_on
next_turn stream =
    enough (length stream.rest) (suc (length stream.rest)) stream (omega arith) (omega arith)
    ∙ same_place (read_on (length stream.rest)) next_read stream (frame_at stream.rest) refl (λ s shorter. enough (length stream.rest) (length s.rest) s (omega arith) (omega arith))

-- ---- the turns of a loop

turn_at : (stream : Stream) (place : Result RawFrameParts NoFrame) (total : NextFrame) → place ≡ frame_at stream.rest → next_read stream ≡ total → at_place next_read stream place ≡ total
turn_at stream place total is so_far = ap (at_place next_read stream) is ∙ sym (next_turn stream) ∙ so_far

pub waits : (stream : Stream) (stop : NoFrame) (total : NextFrame) → stop ≡ Short → Err stop ≡ frame_at stream.rest → next_read stream ≡ total → record { frame = None; stream = stream } ≡ total
waits stream stop total short is so_far = turn_at stream (Err Short) total (ap (λ (s : NoFrame). Err s) (sym short) ∙ is) so_far

pub skips : (stream next : Stream) (stop : NoFrame) (total : NextFrame) → stop ≡ Differs → Err stop ≡ frame_at stream.rest → next ≡ after_byte stream → next_read stream ≡ total → next_read next ≡ total
skips stream next stop total differs is after so_far = ap next_read after ∙ turn_at stream (Err Differs) total (ap (λ (s : NoFrame). Err s) (sym differs) ∙ is) so_far

-- no frame begins with a byte that isn't `8`
no_start : (byte : ℕ) (bytes : List ℕ) → (byte ≡ 56 → ⊥) → Err Differs ≡ frame_at (byte ∷ bytes)
unfolding frame_at literal_at
no_start byte bytes other =
    let no : eqb byte 56 ≡ false = ne_eqb _ _ other in
    rw no refl

-- none of so many bytes is `8`
abbrev pub NoStart : List ℕ → ℕ → Type 0
NoStart bytes count = (k : ℕ) → k < count → get_or bytes k 0 ≡ 56 → ⊥

-- the stream once so many bytes are passed alone
abbrev pub after_bytes : Stream → ℕ → Stream
after_bytes stream count = record stream { rest = drop count stream.rest; skipped = min (stream.skipped + count) (2 ^ 64 - 1) }

skips_on : (count skipped garbled : ℕ) (bytes : List ℕ) → skipped ≤ 2 ^ 64 - 1 → count ≤ length bytes → NoStart bytes count
    → (let stream : Stream = record { rest = bytes; skipped = skipped; garbled = garbled } in next_read (after_bytes stream count) ≡ next_read stream)
skips_on zero skipped garbled bytes small within none =
    ap (λ (n : ℕ). next_read (record { rest = bytes; skipped = n; garbled = garbled })) (omega arith)
skips_on (suc count) skipped garbled [] small within none = absurd (omega arith)
skips_on (suc count) skipped garbled (byte ∷ bytes) small within none =
    let stream : Stream = record { rest = byte ∷ bytes; skipped = skipped; garbled = garbled } in
    let is = no_start byte bytes (none 0 (omega arith)) in
    let total : min (min (skipped + 1) (2 ^ 64 - 1) + count) (2 ^ 64 - 1) ≡ min (skipped + suc count) (2 ^ 64 - 1) = omega arith in
    ap (λ (n : ℕ). next_read (record { rest = drop count bytes; skipped = n; garbled = garbled })) (sym total)
    ∙ skips_on count (min (skipped + 1) (2 ^ 64 - 1)) garbled bytes (omega arith) (omega arith) (λ k below. none (suc k) (omega arith))
    ∙ turn_at stream (Err Differs) (next_read stream) is refl

-- a byte at which no frame begins, and those behind it that aren't `8`
pub skips_all : (stream : Stream) (stop : NoFrame) (total : NextFrame) (count : ℕ) → stop ≡ Differs → Err stop ≡ frame_at stream.rest
    → 0 < count → count ≤ length stream.rest
    → ((k : ℕ) → 0 < k → k < count → get_or stream.rest k 0 ≡ 56 → ⊥)
    → next_read stream ≡ total → next_read (after_bytes stream count) ≡ total
skips_all stream stop total zero differs is some within none so_far = absurd (omega arith)
skips_all stream stop total (suc count) differs is some within none so_far =
    let one : min (stream.skipped + 1) (2 ^ 64 - 1) ≤ 2 ^ 64 - 1 = omega arith in
    let later : NoStart (drop 1 stream.rest) count = λ k below eight. none (1 + k) (omega arith) (omega arith) (sym (get_or_after_one stream.rest k 0) ∙ eight) in
    let sum : min (min (stream.skipped + 1) (2 ^ 64 - 1) + count) (2 ^ 64 - 1) ≡ min (stream.skipped + suc count) (2 ^ 64 - 1) = omega arith in
    let next : 1 + count ≡ suc count = omega arith in
    let left : drop count (drop 1 stream.rest) ≡ drop (suc count) stream.rest = drop-drop count 1 stream.rest ∙ ap (λ (n : ℕ). drop n stream.rest) next in
    ap (λ (n : ℕ). next_read (record { rest = drop (suc count) stream.rest; skipped = n; garbled = stream.garbled })) (sym sum)
    ∙ ap (λ (bytes : List ℕ). next_read (record { rest = bytes; skipped = min (min (stream.skipped + 1) (2 ^ 64 - 1) + count) (2 ^ 64 - 1); garbled = stream.garbled })) (sym left)
    ∙ skips_on count (min (stream.skipped + 1) (2 ^ 64 - 1)) stream.garbled (drop 1 stream.rest) one (omega (arith, length-drop 1 stream.rest)) later
    ∙ skips stream (after_byte stream) stop total differs is refl so_far

pub some_left : (bytes : List ℕ) (stop : NoFrame) → stop ≡ Differs → Err stop ≡ frame_at bytes → 1 ≤ length bytes
some_left bytes stop differs is = differs_some bytes (ap (λ (s : NoFrame). Err s) (sym differs) ∙ is)

given_some : (stream : Stream) (whole : RawFrameParts) (fields : Option (List Tagged)) → is_some fields ≡ true → at_frame next_read stream whole fields ≡ record { frame = fields; stream = after_given stream whole }
given_some stream whole None some = absurd cc
given_some stream whole (Some fields) some = refl

given_none : (stream : Stream) (whole : RawFrameParts) (fields : Option (List Tagged)) → is_some fields ≡ false → at_frame next_read stream whole fields ≡ next_read (after_garbled stream whole)
given_none stream whole None none = refl
given_none stream whole (Some fields) none = absurd cc

pub gives : (stream next : Stream) (whole : RawFrameParts) (fields : Option (List Tagged)) (total : NextFrame) → Ok whole ≡ frame_at stream.rest → fields ≡ valid_fields whole → is_some fields ≡ true → next ≡ after_given stream whole
    → next_read stream ≡ total → record { frame = fields; stream = next } ≡ total
gives stream next whole fields total is valid some after so_far =
    ap (λ (s : Stream). record { frame = fields; stream = s }) after ∙ sym (given_some stream whole fields some) ∙ ap (at_frame next_read stream whole) valid ∙ turn_at stream (Ok whole) total is so_far

pub garbles : (stream next : Stream) (whole : RawFrameParts) (fields : Option (List Tagged)) (total : NextFrame) → Ok whole ≡ frame_at stream.rest → fields ≡ valid_fields whole → is_some fields ≡ false → next ≡ after_garbled stream whole
    → next_read stream ≡ total → next_read next ≡ total
garbles stream next whole fields total is valid none after so_far =
    ap next_read after ∙ sym (given_none stream whole fields none) ∙ ap (at_frame next_read stream whole) valid ∙ turn_at stream (Ok whole) total is so_far

pub more_some : (n : ℕ) (fields : Option (List Tagged)) → AreMore n fields → is_some fields ≡ true
more_some n (Some fields) more = refl
more_some n None more = absurd more

-- fewer are more than fewer
pub more_than_fewer : (m n : ℕ) (fields : Option (List Tagged)) → m ≤ n → AreMore n fields → AreMore m fields
more_than_fewer m n (Some fields) fewer more = omega arith
more_than_fewer m n None fewer more = more

-- what holds holds also of a refusal
pub on_err : {A E : Type 0} (r : Result A E) (P : Type 0) → P → OnErr r P
on_err (Ok x) P p = tt
on_err (Err e) P p = p

-- ---- a frame takes bytes

-- what is left is no longer, and shorter once a frame was given
pub record Shortens (stream : Stream) (reader : NextFrame) : Type 0 where
  pub at_most : length reader.stream.rest ≤ length stream.rest
  pub shorter : is_some reader.frame ≡ true → length reader.stream.rest < length stream.rest

shortens_frame : (later : Stream → NextFrame) (stream : Stream) (whole : RawFrameParts) (fields : Option (List Tagged)) → length whole.rest < length stream.rest → ((s : Stream) → Shortens s (later s)) → Shortens stream (at_frame later stream whole fields)
shortens_frame later stream whole (Some fields) less each = record { at_most = omega arith; shorter = λ given. less }
shortens_frame later stream whole None less each =
    let after = each (after_garbled stream whole) in
    record { at_most = omega (arith, after.at_most); shorter = λ given. omega (arith, after.at_most) }

shortens_place : (later : Stream → NextFrame) (stream : Stream) (place : Result RawFrameParts NoFrame) → place ≡ frame_at stream.rest → ((s : Stream) → Shortens s (later s)) → Shortens stream (at_place later stream place)
shortens_place later stream (Ok whole) is each = shortens_frame later stream whole (valid_fields whole) (frame_shorter stream.rest whole is) each
shortens_place later stream (Err Short) is each = record { at_most = omega arith; shorter = λ given. absurd cc }
shortens_place later stream (Err Differs) is each =
    let after = each (after_byte stream) in
    let more = differs_some stream.rest is in
    record { at_most = omega (arith, after.at_most, length-drop 1 stream.rest); shorter = λ given. omega (arith, after.at_most, length-drop 1 stream.rest) }

shortens_read : (turns : ℕ) (stream : Stream) → Shortens stream (read_on turns stream)
unfolding read_on
shortens_read zero stream = record { at_most = omega arith; shorter = λ given. absurd cc }
shortens_read (suc turns) stream = shortens_place (read_on turns) stream (frame_at stream.rest) refl (shortens_read turns)

pub next_shortens : (stream : Stream) → Shortens stream (next_read stream)
unfolding next_read
next_shortens stream = shortens_read (length stream.rest) stream
