-- How long the beginning of a frame stays one, whatever comes behind it.
use Rattle.std.proofs.Common.{◌≡◌, ℕ, ◌-◌, ◌<◌, ◌≤◌, List, [], ◌∷◌, ◌++◌, length, drop, Option, Some, None, Result, Ok, Err, refl, sym, ap, subst, ◌∙◌, arith, append_assoc, append-nil}
use Rattle.std.specs.Prelude.{OnOk, OnErr}
use Rattle.std.proofs.lemmas.Bool.{lt-ltb}
use Rattle.std.proofs.lemmas.List.{length-append, drop-append-le}
use Rattle.fix_text.specs.Then.{◌>>=◌}
use Rattle.fix_text.specs.declared.parse.NoFrame.{NoFrame}
use Rattle.fix_text.specs.declared.parse.NoFrame.TheVariants.{Short}
use Rattle.fix_text.specs.Tagged.{Tagged}
use Rattle.fix_text.specs.Grammar.{opening, IsBeginning}
use Rattle.fix_text.specs.Reading.{Stream, NextFrame, literal_at, length_at, body_at, frame_at, next_read}
use Rattle.fix_text.specs.Passing.{most_kept}
use Rattle.fix_text.specs.Deciding.{Ends}
use Rattle.fix_text.specs.Waiting.{body_missing, with_missing, least_length, waits_after, WaitsFor}
use Rattle.fix_text.proofs.Readers.{bind_ok, ok_is, length_step, body_step, end_step}
use Rattle.fix_text.proofs.Prefixes.{literal_more, length_more}
use Rattle.fix_text.proofs.FramePrefixes.{frame_completes}
use Rattle.fix_text.proofs.FrameTexts.{beginning_read}
use Rattle.fix_text.proofs.NextFrames.{next_is}
use Rattle.fix_text.proofs.Turns.{waits as turn_waits}

-- ---- a body that isn't there

body_short : (size : ℕ) (bytes : List ℕ) → length bytes < size → body_at size bytes ≡ Err Short
unfolding body_at
body_short size bytes short = let less = lt-ltb _ _ short in rw less refl

-- the header is there, and the body isn't, with what comes behind it
short_frame : (bytes more : List ℕ) (missing : ℕ) → body_missing bytes ≡ Ok missing → length more < missing → frame_at (bytes ++ more) ≡ Err Short
unfolding frame_at body_missing
short_frame bytes more missing is few =
    let o = bind_ok (literal_at opening bytes) (λ digits. length_at 6 0 digits >>= λ (size : ℕ × List ℕ). Ok (size.0 - length size.1)) missing is in
    let l = bind_ok (length_at 6 0 o.0) (λ (size : ℕ × List ℕ). Ok (size.0 - length size.1)) missing o.2 in
    let left : l.0.0 - length l.0.1 ≡ missing = ok_is _ _ l.2 in
    let all = bytes ++ more in
    ap (λ (r : Result (List ℕ) NoFrame). r >>= length_step all) (literal_more opening bytes o.0 more o.1)
    ∙ ap (λ (r : Result (ℕ × List ℕ) NoFrame). r >>= body_step all) (length_more 6 0 o.0 l.0.0 l.0.1 more l.1)
    ∙ ap (λ (r : Result (List ℕ × List ℕ) NoFrame). r >>= end_step all) (body_short l.0.0 (l.0.1 ++ more) (omega (arith, left, few, length-append l.0.1 more)))

begins : (bytes : List ℕ) → frame_at bytes ≡ Err Short → IsBeginning bytes
begins bytes short = let m = frame_completes bytes short in record { more = m.0; some = m.1; is_frame = m.2 }

-- ---- the beginning of a frame

stays : (bytes more : List ℕ) (place : Result ℕ NoFrame) → body_missing bytes ≡ place → IsBeginning bytes → length (bytes ++ more) < with_missing (length bytes) place → IsBeginning (bytes ++ more)
stays bytes [] place is b few = subst IsBeginning (sym (append-nil bytes)) b
stays bytes (byte ∷ more) (Err stop) is b few = absurd (omega (arith, few, length-append bytes (byte ∷ more)))
stays bytes (byte ∷ more) (Ok missing) is b few =
    begins (bytes ++ byte ∷ more) (short_frame bytes (byte ∷ more) missing is (omega (arith, few, length-append bytes (byte ∷ more))))

pub beginning_waits : (bytes : List ℕ) → IsBeginning bytes → WaitsFor (least_length bytes) bytes
beginning_waits bytes b more few = stays bytes more (body_missing bytes) refl b few

-- ---- a reader

ends_wait : (frame : Option (List Tagged)) (middle rest : List ℕ) → Ends frame middle rest → WaitsFor (waits_after frame rest) rest
ends_wait (Some fields) middle rest ends more few = absurd (omega (arith, few))
ends_wait None middle rest ends more few = subst (λ (bytes : List ℕ). WaitsFor (least_length bytes) bytes) ends.0 (beginning_waits middle ends.1) more few

-- how many bytes are waited for behind what a call passes
abbrev pub waits_behind : Stream → ℕ
waits_behind stream = let next = next_read stream in waits_after next.frame next.stream.rest

-- what stands behind what a call passed is waited for
pub next_waits : (stream : Stream) → WaitsFor (waits_behind stream) (next_read stream).stream.rest
next_waits stream = let is = next_is stream in ends_wait _ is.middle _ is.ends

-- so it is where the bytes lie that were read
pub read_waits : (stream : Stream) (count : ℕ) (next : NextFrame) → next ≡ next_read stream → count ≡ waits_behind stream → WaitsFor count next.stream.rest
read_waits stream count next is waits =
    subst (λ (n : ℕ). WaitsFor n next.stream.rest) (sym waits) (subst (λ (next : NextFrame). WaitsFor (waits_behind stream) next.stream.rest) (sym is) (next_waits stream))

-- more bytes leave it so
pub waits_on : (count : ℕ) (bytes more : List ℕ) → WaitsFor count bytes → WaitsFor count (bytes ++ more)
waits_on count bytes more waits others few =
    subst IsBeginning (sym (append_assoc bytes more others)) (waits (more ++ others) (subst (λ (all : List ℕ). length all < count) (append_assoc bytes more others) few))

-- what a feed keeps
module _ (count end free room after : ℕ) (old new piece : List ℕ) (within : end ≤ length old) where
  pub fed_keeps : {A E : Type 0} (result : Result A E) → OnOk result (new ≡ old ++ piece) → OnErr result (new ≡ old) → OnOk result (free ≤ after) → room ≤ after
      → length old ≤ most_kept (length old - end) → (0 < length old → free ≤ room) → WaitsFor count (drop end old)
      → (end ≤ length new) × (length new ≤ most_kept (length new - end)) × (0 < length new → free ≤ after) × WaitsFor count (drop end new)
  fed_keeps (Ok x) ok err enough more few always waits = (
    omega (arith, within, ap length ok, length-append old piece),
    omega (arith, few, ap length ok, length-append old piece),
    λ some. enough,
    subst (WaitsFor count) (sym (ap (drop end) ok ∙ drop-append-le end old piece within)) (waits_on count (drop end old) piece waits),
  )
  fed_keeps (Err e) ok err enough more few always waits = (
    omega (arith, within, ap length err),
    omega (arith, few, ap length err),
    λ some. omega (arith, more, always (omega (arith, some, ap length err))),
    subst (λ (bytes : List ℕ). WaitsFor count (drop end bytes)) (sym err) waits,
  )

-- where fewer bytes are there, they are the beginning of a frame
pub fewer_begin : (count : ℕ) (bytes : List ℕ) → WaitsFor count bytes → length bytes < count → Err Short ≡ frame_at bytes
fewer_begin count bytes waits few =
    sym (beginning_read bytes (subst IsBeginning (append-nil bytes) (waits [] (subst (λ (all : List ℕ). length all < count) (sym (append-nil bytes)) few))))

-- and so a call finds nothing
pub nothing_found : (count : ℕ) (stream : Stream) → WaitsFor count stream.rest → length stream.rest < count → record { frame = None; stream = stream } ≡ next_read stream
nothing_found count stream waits few = turn_waits stream Short (next_read stream) refl (fewer_begin count stream.rest waits few) refl
