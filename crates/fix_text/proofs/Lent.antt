-- What a call for the next frame says, once its frame and the stream after it are those that are read.
use Rattle.std.proofs.Common.{◌≡◌, ℕ, ◌<◌, ◌≤◌, true, List, length, Option, Some, None, Result, Ok, Err, sym, ap, subst, ◌∙◌, arith}
use Rattle.std.specs.Prelude.{is_some, option_map, IfOk, IfSome}
use Rattle.fix_text.specs.Tagged.{Tagged}
use Rattle.fix_text.specs.declared.frame.Frame.{Frame}
use Rattle.fix_text.specs.FrameFields.{fields_in}
use Rattle.fix_text.specs.Reading.{Stream, NextFrame, next_read, BeginsWritten}
use Rattle.fix_text.specs.Deciding.{IsNext}
use Rattle.fix_text.specs.Placing.{AreMore}
use Rattle.fix_text.proofs.Turns.{next_shortens, more_some, more_than_fewer}
use Rattle.fix_text.proofs.NextFrames.{next_is}
use Rattle.fix_text.proofs.Rewritten.{next_begins}

-- the frame with the stream that is read after it
abbrev pub with_next : Option (List Tagged) → Stream → NextFrame
with_next frame stream = record { frame = frame; stream = (next_read stream).stream }

module _ (frame : Option (List Tagged)) (after stream : Stream) (is : record { frame = frame; stream = after } ≡ next_read stream) where
  pub all_is : with_next frame stream ≡ next_read stream
  all_is = ap (λ (s : Stream). let next : NextFrame = record { frame = frame; stream = s } in next) (ap (λ (next : NextFrame). next.stream) (sym is)) ∙ is

  pub is_next : IsNext stream (with_next frame stream)
  is_next = subst (IsNext stream) (sym all_is) (next_is stream)

  pub shortens : is_some frame ≡ true → length (next_read stream).stream.rest < length stream.rest
  shortens some = (next_shortens stream).shorter (ap (λ (next : NextFrame). is_some next.frame) (sym is) ∙ some)

  pub begins : (fields : List Tagged) (rest : List ℕ) → BeginsWritten stream fields rest → with_next frame stream ≡ record { frame = Some fields; stream = record stream { rest = rest } }
  begins fields rest written = all_is ∙ next_begins stream fields rest written

-- where more fields are there than there is room for, they are more than there is always room for
pub more_than_free : (stream : Stream) (free room : ℕ) → (0 < length stream.rest → free ≤ room) → AreMore room (next_read stream).frame → AreMore free (next_read stream).frame
more_than_free stream free room always more =
    let shorter = (next_shortens stream).shorter (more_some room (next_read stream).frame more) in
    more_than_fewer free room (next_read stream).frame (always (omega (arith, shorter))) more

-- what holds of each answer that was given
pub of_ok : {A E : Type 0} (result : Result A E) (P Q : A → Type 0) → ((x : A) → P x → Q x) → IfOk result P → IfOk result Q
of_ok (Ok x) P Q so p = so x p
of_ok (Err e) P Q so p = tt

module _ (stream : Stream) where
  -- a frame with the fields that are read is the one that is read
  pub same_frame : (frame : Option (List Tagged)) → frame ≡ (next_read stream).frame → with_next frame stream ≡ next_read stream
  same_frame frame is = ap (λ (f : Option (List Tagged)). with_next f stream) is

  pub same_shortens : (frame : Option Frame) → option_map fields_in frame ≡ (next_read stream).frame → IfSome frame (λ _. length (next_read stream).stream.rest < length stream.rest)
  same_shortens (Some frame) is = (next_shortens stream).shorter (ap (λ (f : Option (List Tagged)). is_some f) (sym is))
  same_shortens None is = tt
