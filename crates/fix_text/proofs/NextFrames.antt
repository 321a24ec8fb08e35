-- What a call of the reader gives is the next valid frame in the words of the grammar, and nothing else is.
use Rattle.std.proofs.Common.{◌≡◌, ℕ, zero, suc, ◌<◌, ◌≤◌, add-one, List, [], ◌∷◌, ◌++◌, length, get_or, drop, Option, Some, None, Result, Ok, Err, refl, sym, ap, subst, ◌∙◌, arith}
use Rattle.std.proofs.lemmas.List.{length-drop, nil_from_length, drop_more}
use Rattle.fix_text.specs.declared.parse.NoFrame.{NoFrame}
use Rattle.fix_text.specs.declared.parse.NoFrame.TheVariants.{Short, Differs}
use Rattle.fix_text.specs.Tagged.{Tagged}
use Rattle.fix_text.specs.Grammar.{IsFrame, IsValidFrame, BeginsWithFrame, IsBeginning, Pass, Given, Garbled, Skipped, Takes, Passes, given_of, garbled_of, skipped_of}
use Rattle.fix_text.specs.Reading.{RawFrameParts, Stream, NextFrame, frame_at, literal_at, valid_fields, at_frame, at_place, after_garbled, after_byte, one_more, read_on, next_read}
use Rattle.fix_text.specs.Deciding.{Decides, counted, Ends, IsNext}
use Rattle.fix_text.proofs.Readers.{ok_is, frame_takes, frame_shorter, differs_some}
use Rattle.fix_text.proofs.FramePrefixes.{frame_completes}
use Rattle.fix_text.proofs.FieldTexts.{none_given}
use Rattle.fix_text.proofs.FrameTexts.{spelled_frame, frame_read_whole, place_decided, valid_read, valid_takes, frame_unique, beginning_read}
use Rattle.fix_text.proofs.Turns.{next_turn}

-- no bytes at all are the beginning of a frame
pub nothing_begins : IsBeginning []
unfolding frame_at literal_at
nothing_begins = let m = frame_completes [] refl in record { more = m.0; some = m.1; is_frame = m.2 }

-- ---- what is read is the next

-- a frame that is read and isn't given is not valid
garbled_is : (bytes : List ℕ) (whole : RawFrameParts) (text : List ℕ) → frame_at bytes ≡ Ok whole → bytes ≡ text ++ whole.rest → valid_fields whole ≡ None → (fields : List Tagged) → IsValidFrame text fields → ⊥
garbled_is bytes whole text is parts none fields v =
    let read = valid_read text whole.rest fields v in
    let same : whole ≡ read.0 = ok_is whole read.0 (sym is ∙ ap frame_at parts ∙ read.1) in
    none_given fields (sym none ∙ ap valid_fields same ∙ read.2)

behind_garbled : (stream : Stream) (whole : RawFrameParts) (text : List ℕ) (new : NextFrame) → Takes (Garbled text) stream.rest whole.rest → IsNext (after_garbled stream whole) new → IsNext stream new
behind_garbled stream whole text new takes next = record {
  before = Garbled text ∷ next.before;
  middle = next.middle;
  passes = (whole.rest, takes, next.passes);
  no_valid = next.no_valid;
  ends = next.ends;
  skipped = next.skipped;
  garbled = next.garbled ∙ ap (counted stream.garbled) (sym (add-one (garbled_of next.before)));
}

behind_byte : (stream : Stream) (byte : ℕ) (new : NextFrame) → Takes (Skipped byte) stream.rest (drop 1 stream.rest) → IsNext (after_byte stream) new → IsNext stream new
behind_byte stream byte new takes next = record {
  before = Skipped byte ∷ next.before;
  middle = next.middle;
  passes = (drop 1 stream.rest, takes, next.passes);
  no_valid = next.no_valid;
  ends = next.ends;
  skipped = next.skipped ∙ ap (counted stream.skipped) (sym (add-one (skipped_of next.before)));
  garbled = next.garbled;
}

next_at_frame : (later : Stream → NextFrame) (stream : Stream) (whole : RawFrameParts) (fields : Option (List Tagged)) → frame_at stream.rest ≡ Ok whole → valid_fields whole ≡ fields
    → ((s : Stream) → length s.rest < length stream.rest → IsNext s (later s)) → IsNext stream (at_frame later stream whole fields)
next_at_frame later stream whole (Some fields) is valid each =
    let t = frame_takes stream.rest whole is in
    record { before = []; middle = stream.rest; passes = refl; no_valid = refl; ends = (t.0, (t.2, valid_takes t.0 whole fields t.1 valid)); skipped = refl; garbled = refl }
next_at_frame later stream whole None is valid each =
    let t = frame_takes stream.rest whole is in
    behind_garbled stream whole t.0 _ (t.2, spelled_frame t.0 whole t.1, garbled_is stream.rest whole t.0 is t.2 valid) (each (after_garbled stream whole) (frame_shorter stream.rest whole (sym is)))

next_at_place : (later : Stream → NextFrame) (stream : Stream) (place : Result RawFrameParts NoFrame) → place ≡ frame_at stream.rest → Decides stream.rest place
    → ((s : Stream) → length s.rest < length stream.rest → IsNext s (later s)) → IsNext stream (at_place later stream place)
next_at_place later stream (Ok whole) is d each = next_at_frame later stream whole (valid_fields whole) (sym is) refl each
next_at_place later stream (Err Short) is d each = record { before = []; middle = stream.rest; passes = refl; no_valid = refl; ends = (refl, d.0); skipped = refl; garbled = refl }
next_at_place later stream (Err Differs) is d each =
    let some : 0 < length stream.rest = differs_some stream.rest is in
    behind_byte stream (get_or stream.rest 0 0) _ (drop_more stream.rest 0 0 some, d.0, d.1) (each (after_byte stream) (omega (arith, length-drop 1 stream.rest)))

next_on : (turns : ℕ) (stream : Stream) → length stream.rest ≤ turns → IsNext stream (read_on turns stream)
unfolding read_on
next_on zero stream h =
    let nothing : stream.rest ≡ [] = nil_from_length stream.rest (omega arith) in
    record { before = []; middle = stream.rest; passes = refl; no_valid = refl; ends = (refl, subst IsBeginning (sym nothing) nothing_begins); skipped = refl; garbled = refl }
next_on (suc turns) stream h =
    next_at_place (read_on turns) stream (frame_at stream.rest) refl (place_decided stream.rest) (λ s shorter. next_on turns s (omega arith))

-- what a call gives is the next valid frame, with the stream after it
pub next_is : (stream : Stream) → IsNext stream (next_read stream)
unfolding next_read
next_is stream = next_on (length stream.rest) stream (omega arith)

-- ---- and nothing else is

-- where neither a frame stands nor the beginning of one, that is what is read
pub differs_read : (bytes : List ℕ) (place : Result RawFrameParts NoFrame) → place ≡ frame_at bytes → (BeginsWithFrame bytes → ⊥) → (IsBeginning bytes → ⊥) → Decides bytes place → place ≡ Err Differs
differs_read bytes (Ok whole) is no_frame no_beginning d = absurd (no_frame (record { frame = d.0; rest = whole.rest; parts = d.2; is_frame = d.1 }))
differs_read bytes (Err Short) is no_frame no_beginning d = absurd (no_beginning d.0)
differs_read bytes (Err Differs) is no_frame no_beginning d = refl

-- a frame that isn't valid is read as such
garbled_read : (bytes rest text : List ℕ) (whole : RawFrameParts) (fields : Option (List Tagged)) → frame_at bytes ≡ Ok whole → bytes ≡ text ++ rest → IsFrame text → ((fields : List Tagged) → IsValidFrame text fields → ⊥) → valid_fields whole ≡ fields → fields ≡ None
garbled_read bytes rest text whole None is parts f no_valid valid = refl
garbled_read bytes rest text whole (Some fields) is parts f no_valid valid =
    let t = frame_takes bytes whole is in
    let same = frame_unique t.0 text whole.rest rest (spelled_frame t.0 whole t.1) f (sym t.2 ∙ parts) in
    absurd (no_valid fields (subst (λ (x : List ℕ). IsValidFrame x fields) same.0 (valid_takes t.0 whole fields t.1 valid)))

-- where the passing ends, nothing else is read
ends_read : (old : Stream) (frame : Option (List Tagged)) (rest : List ℕ) → Ends frame old.rest rest → next_read old ≡ record { frame = frame; stream = record old { rest = rest } }
ends_read old (Some fields) rest e =
    let read = valid_read e.0 rest fields e.1.1 in
    next_turn old ∙ ap (at_place next_read old) (ap frame_at e.1.0 ∙ read.1) ∙ ap (at_frame next_read old read.0) read.2
    ∙ ap (λ (left : List ℕ). record { frame = Some fields; stream = record old { rest = left } }) read.3
ends_read old None rest e =
    next_turn old ∙ ap (at_place next_read old) (beginning_read old.rest e.1) ∙ ap (λ (left : List ℕ). record { frame = None; stream = record old { rest = left } }) e.0

-- a frame that isn't valid is passed
past_garbled : (old : Stream) (text rest : List ℕ) → Takes (Garbled text) old.rest rest → next_read old ≡ next_read (record old { rest = rest; garbled = one_more old.garbled })
past_garbled old text rest takes =
    let read = frame_read_whole text rest takes.1 in
    let is : frame_at old.rest ≡ Ok read.0 = ap frame_at takes.0 ∙ read.1 in
    let none = garbled_read old.rest rest text read.0 (valid_fields read.0) is takes.0 takes.1 takes.2 refl in
    next_turn old ∙ ap (at_place next_read old) is ∙ ap (at_frame next_read old read.0) none
    ∙ ap (λ (left : List ℕ). next_read (record old { rest = left; garbled = one_more old.garbled })) read.2

-- so is a byte
past_byte : (old : Stream) (byte : ℕ) (rest : List ℕ) → Takes (Skipped byte) old.rest rest → next_read old ≡ next_read (record old { rest = rest; skipped = one_more old.skipped })
past_byte old byte rest takes =
    let is : frame_at old.rest ≡ Err Differs = differs_read old.rest (frame_at old.rest) refl takes.1 takes.2 (place_decided old.rest) in
    next_turn old ∙ ap (at_place next_read old) is
    ∙ ap (λ (bytes : List ℕ). next_read (record old { rest = drop 1 bytes; skipped = one_more old.skipped })) takes.0

unique_from : (before : List Pass) (old : Stream) (new : NextFrame) (middle : List ℕ) → Passes before old.rest middle → given_of before ≡ [] → Ends new.frame middle new.stream.rest
    → new.stream.skipped ≡ counted old.skipped (skipped_of before) → new.stream.garbled ≡ counted old.garbled (garbled_of before) → next_read old ≡ new
unique_from [] old new middle passes none ends skipped garbled =
    ends_read old new.frame new.stream.rest (subst (λ (m : List ℕ). Ends new.frame m new.stream.rest) (sym passes) ends)
    ∙ ap (λ (s : ℕ). record { frame = new.frame; stream = record { rest = new.stream.rest; skipped = s; garbled = old.garbled } }) (sym skipped)
    ∙ ap (λ (g : ℕ). record { frame = new.frame; stream = record { rest = new.stream.rest; skipped = new.stream.skipped; garbled = g } }) (sym garbled)
unique_from (Given text fields ∷ before) old new middle passes none ends skipped garbled = absurd cc
unique_from (Garbled text ∷ before) old new middle passes none ends skipped garbled =
    past_garbled old text passes.0 passes.1
    ∙ unique_from before (record old { rest = passes.0; garbled = one_more old.garbled }) new middle passes.2 none ends skipped (garbled ∙ ap (counted old.garbled) (add-one (garbled_of before)))
unique_from (Skipped byte ∷ before) old new middle passes none ends skipped garbled =
    past_byte old byte passes.0 passes.1
    ∙ unique_from before (record old { rest = passes.0; skipped = one_more old.skipped }) new middle passes.2 none ends (skipped ∙ ap (counted old.skipped) (add-one (skipped_of before))) garbled

-- only what a call gives is the next valid frame, with the stream after it
pub next_unique : (old : Stream) (new : NextFrame) → IsNext old new → next_read old ≡ new
next_unique old new next = unique_from next.before old new next.middle next.passes next.no_valid next.ends next.skipped next.garbled
