-- What a list of calls gave are the first valid frames of all bytes fed.
use Rattle.std.proofs.Common.{◌≡◌, ℕ, ◌+◌, List, [], ◌∷◌, ◌++◌, Option, Some, None, refl, sym, ap, subst, ◌∙◌, arith, append_assoc}
use Rattle.std.proofs.lemmas.List.{append-nil}
use Rattle.fix_text.specs.Tagged.{Tagged}
use Rattle.fix_text.specs.Grammar.{Pass, Given, Passes, given_of, garbled_of, skipped_of}
use Rattle.fix_text.specs.Reading.{Stream, NextFrame, fed}
use Rattle.fix_text.specs.Deciding.{counted, Ends, IsNext}
use Rattle.fix_text.specs.Calls.{Called, Fed, FeedRefused, Gave, Waits, NextRefused, CallsLead, new_stream, bytes_fed, frames_given, AreFirst}
use Rattle.fix_text.proofs.Streams.{passes_more, passes-append, given_of-append, skipped_of-append, garbled_of-append, counted-add}

-- a frame behind those given, if there is one
abbrev with_given : List (List Tagged) → Option (List Tagged) → List (List Tagged)
with_given frames None = frames
with_given frames (Some fields) = frames ++ fields ∷ []

-- ---- the first frames

first_fed : (bytes more : List ℕ) (frames : List (List Tagged)) (stream : Stream) → AreFirst bytes frames stream → AreFirst (bytes ++ more) frames (fed stream more)
first_fed bytes more frames stream f = record { passes = f.passes; passed = passes_more f.passes bytes stream.rest more f.passed; given = f.given; skipped = f.skipped; garbled = f.garbled }

-- all that the next frame passes
next_passes : (frame : Option (List Tagged)) (middle rest : List ℕ) → Ends frame middle rest → List Pass
next_passes None middle rest e = []
next_passes (Some fields) middle rest e = Given e.0 fields ∷ []

next_passed : (frame : Option (List Tagged)) (middle rest : List ℕ) (e : Ends frame middle rest) → Passes (next_passes frame middle rest e) middle rest
unfolding next_passes
next_passed None middle rest e = e.0
next_passed (Some fields) middle rest e = (rest, e.1, refl)

next_given : (frames : List (List Tagged)) (frame : Option (List Tagged)) (middle rest : List ℕ) (e : Ends frame middle rest) → frames ++ given_of (next_passes frame middle rest e) ≡ with_given frames frame
unfolding next_passes
next_given frames None middle rest e = append-nil frames
next_given frames (Some fields) middle rest e = refl

next_skips : (frame : Option (List Tagged)) (middle rest : List ℕ) (e : Ends frame middle rest) → skipped_of (next_passes frame middle rest e) ≡ 0
unfolding next_passes
next_skips None middle rest e = refl
next_skips (Some fields) middle rest e = refl

next_garbles : (frame : Option (List Tagged)) (middle rest : List ℕ) (e : Ends frame middle rest) → garbled_of (next_passes frame middle rest e) ≡ 0
unfolding next_passes
next_garbles None middle rest e = refl
next_garbles (Some fields) middle rest e = refl

first_next : (bytes : List ℕ) (frames : List (List Tagged)) (stream : Stream) (new : NextFrame) → AreFirst bytes frames stream → IsNext stream new → AreFirst bytes (with_given frames new.frame) new.stream
first_next bytes frames stream new f n =
    let last = next_passes new.frame n.middle new.stream.rest n.ends in
    let later : List Pass = n.before ++ last in
    let given_later : given_of later ≡ given_of last = given_of-append n.before last ∙ ap (λ (g : List (List Tagged)). g ++ given_of last) n.no_valid in
    let skipped_later : skipped_of later ≡ skipped_of n.before = omega (arith, skipped_of-append n.before last, next_skips new.frame n.middle new.stream.rest n.ends) in
    let garbled_later : garbled_of later ≡ garbled_of n.before = omega (arith, garbled_of-append n.before last, next_garbles new.frame n.middle new.stream.rest n.ends) in
    record {
      passes = f.passes ++ later;
      passed = passes-append f.passes later bytes stream.rest new.stream.rest f.passed (passes-append n.before last stream.rest n.middle new.stream.rest n.passes (next_passed new.frame n.middle new.stream.rest n.ends));
      given = given_of-append f.passes later ∙ ap (λ (g : List (List Tagged)). given_of f.passes ++ g) given_later ∙ ap (λ (g : List (List Tagged)). g ++ given_of last) f.given ∙ next_given frames new.frame n.middle new.stream.rest n.ends;
      skipped = n.skipped ∙ ap (λ (s : ℕ). counted s (skipped_of n.before)) f.skipped ∙ sym (counted-add 0 (skipped_of f.passes) (skipped_of n.before)) ∙ ap (counted 0) (sym (skipped_of-append f.passes later ∙ ap (λ (k : ℕ). skipped_of f.passes + k) skipped_later));
      garbled = n.garbled ∙ ap (λ (s : ℕ). counted s (garbled_of n.before)) f.garbled ∙ sym (counted-add 0 (garbled_of f.passes) (garbled_of n.before)) ∙ ap (counted 0) (sym (garbled_of-append f.passes later ∙ ap (λ (k : ℕ). garbled_of f.passes + k) garbled_later));
    }

first_on : (calls : List Called) (bytes : List ℕ) (frames : List (List Tagged)) (old new : Stream) → AreFirst bytes frames old
    → CallsLead calls old new → AreFirst (bytes ++ bytes_fed calls) (frames ++ frames_given calls) new
first_on [] bytes frames old new f lead =
    let same = subst (AreFirst bytes frames) lead f in
    rw (append-nil bytes, append-nil frames) same
first_on (Fed more ∷ calls) bytes frames old new f lead =
    let after = first_fed bytes more frames old f in
    rw (sym (append_assoc bytes more (bytes_fed calls)))
    (first_on calls (bytes ++ more) frames lead.0 new (subst (AreFirst (bytes ++ more) frames) (sym lead.1) after) lead.2)
first_on (FeedRefused more ∷ calls) bytes frames old new f lead =
    first_on calls bytes frames lead.0 new (subst (AreFirst bytes frames) (sym lead.1) f) lead.2
first_on (Gave fields ∷ calls) bytes frames old new f lead =
    rw (sym (append_assoc frames (fields ∷ []) (frames_given calls)))
    (first_on calls bytes (frames ++ fields ∷ []) lead.0 new (first_next bytes frames old (record { frame = Some fields; stream = lead.0 }) f lead.1) lead.2)
first_on (Waits ∷ calls) bytes frames old new f lead =
    first_on calls bytes frames lead.0 new (first_next bytes frames old (record { frame = None; stream = lead.0 }) f lead.1) lead.2
first_on (NextRefused ∷ calls) bytes frames old new f lead =
    first_on calls bytes frames lead.0 new (subst (AreFirst bytes frames) (sym lead.1) f) lead.2

-- the frames given are the first valid ones of all bytes fed
pub calls_first : (calls : List Called) (stream : Stream) → CallsLead calls new_stream stream → AreFirst (bytes_fed calls) (frames_given calls) stream
calls_first calls stream lead =
    first_on calls [] [] new_stream stream (record { passes = []; passed = refl; given = refl; skipped = refl; garbled = refl }) lead
