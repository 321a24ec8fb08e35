-- A venue after a frame came to its session: what is read of its frames, and what it keeps.
use Rattle.std.proofs.Common.{◌≡◌, ◌==◌, ◌&&◌, Bool, true, false, ℕ, List, ◌++◌, map, Option, Some, None, Ok, refl, sym, ap, subst, ◌∙◌, if◌then◌else◌}
use Rattle.std.specs.Prelude.{OnOk, OnErr, Result}
use Rattle.std.specs.Option.{option_map}
use Rattle.std.specs.Global.{Vec}
use Rattle.std.specs.List.{AllByRecursion}
use Rattle.fix_text.specs.Reading.{next_read}
use Rattle.leg.specs.Numbered.{numbered}
use Rattle.dialect.specs.declared.note.Note.{Note}
use Rattle.dialect.specs.Wording.{Decoding, Encoding}
use Rattle.dialect.proofs.FrameBack.{Agrees}
use Rattle.exchange_core.specs.Exchange.{ExchangeParts}
use Rattle.session_core.specs.declared.session_fault.SessionFault.{SessionFault}
use Rattle.session_core.specs.declared.step.Step.{Step}
use Rattle.session_core.specs.Calling.{answers}
use Rattle.session_core.specs.CallResult.{Gives, IsStep}
use Rattle.session_core.specs.Receiving.{receive, confirm}
use Rattle.session_core.specs.Session.{SessionParts, is_connected}
use Rattle.session_core.specs.Sound as session
use Rattle.session_core.proofs.Kept.{kept-receive}
use Rattle.session_core.proofs.Promised.{confirm_sound}
use Rattle.schedule.specs.World.{VenueParts}
use Rattle.venue_replay.specs.declared.frame.Frame.{Frame}
use Rattle.venue_replay.specs.Network.{moment, stream_of, said_by, said_in, all_said, current_in, IsWritten}
use Rattle.venue_replay.specs.Delivering.{IsFrameOfMessage}
use Rattle.venue_replay.specs.AtVenue.{written_in}
use Rattle.venue_replay.specs.Hearing.{turn_on, heard, inbound_of}
use Rattle.venue_replay.specs.Kept.{IsKept}
use Rattle.venue_replay.proofs.FramesRead.{reads}
use Rattle.venue_replay.proofs.ExchangeTakes.{numbered_said, written_at, is_frame, session_read}
use Rattle.venue_replay.proofs.SessionCalls.{given_sound, still_kept, step_kept, step_said}

-- what is known of a frame that was written
pub heard_range : (w : Encoding) (r : Decoding) → Agrees w r → (frame : Frame) → IsWritten w frame
    → session.IsRead (said_by r frame.bytes.items)
heard_range w r agrees frame is =
    subst session.IsRead (sym (reads w r agrees is.out frame.bytes.items is.writable is.framed)) (session_read is.out is.writable)

-- the session's turn is on the frame that comes to it
if_said : {A B : Type 0} (f : A → B) (b : Bool) (x : A)
    → (if b then Some (f x) else None) ≡ option_map f (if b then Some x else None)
if_said f true x = refl
if_said f false x = refl

turn_current : (r : Decoding) (venue : VenueParts) (frame : Option Frame)
    → turn_on venue (option_map (said_in r) frame)
    ≡ option_map (λ f. receive venue.session (said_by r f.bytes.items)) (current_in venue.session frame)
turn_current r venue None = refl
turn_current r venue (Some frame) =
    if_said (λ (f : Frame). receive venue.session (said_by r f.bytes.items))
    (is_connected venue.session.phase && frame.connection == venue.session.connection) frame

pub turn_by : (r : Decoding) (venue : VenueParts) (from : List Frame) (number : ℕ) (current : Option Frame)
    → venue.from_exchange ≡ all_said r from → current ≡ current_in venue.session (numbered number from)
    → turn_on venue (numbered number venue.from_exchange)
    ≡ option_map (λ f. receive venue.session (said_by r f.bytes.items)) current
turn_by r venue from number current said is =
    ap (λ frames. turn_on venue (numbered number frames)) said
    ∙ (ap (turn_on venue) (numbered_said r number from)
    ∙ (turn_current r venue (numbered number from)
    ∙ ap (option_map (λ f. receive venue.session (said_by r f.bytes.items))) (sym is)))

-- and that frame was written
if_some : {A : Type 0} (b : Bool) (x y : A) → (if b then Some x else None) ≡ Some y → Some x ≡ Some y
if_some true x y is = is
if_some false x y is = cc

current_there : (s : SessionParts) (found : Option Frame) (frame : Frame) → current_in s found ≡ Some frame
    → found ≡ Some frame
current_there s None frame is = cc
current_there s (Some other) frame is =
    if_some (is_connected s.phase && other.connection == s.connection) other frame is

pub current_written : (w : Encoding) (s : SessionParts) (number : ℕ) (from : List Frame) (frame : Frame)
    → AllByRecursion (IsWritten w) from → current_in s (numbered number from) ≡ Some frame → IsWritten w frame
current_written w s number from frame all is =
    written_at w number from frame all (current_there s (numbered number from) frame is)

-- a venue as a world has it
abbrev pub seen : Decoding → SessionParts → ExchangeParts → List Frame → List Frame → List Note → VenueParts
seen r s x to from given =
    record {
      session = s;
      exchange = x;
      to_exchange = all_said r to;
      from_exchange = all_said r from;
      given = given;
    }

-- no frame comes to the session
pub not_heard : (r : Decoding) (s : SessionParts) (x : ExchangeParts) (to from : List Frame) (given : List Note)
    (number : ℕ) (frames : List Frame) → frames ≡ from → None ≡ current_in s (numbered number frames)
    → turn_on (seen r s x to from given) (numbered number (all_said r from)) ≡ None
not_heard r s x to from given number frames same none =
    turn_by r (seen r s x to from given) from number None refl
    (none ∙ ap (λ (fs : List Frame). current_in s (numbered number fs)) same)

-- a frame comes to the session, with these bytes
module _ (w : Encoding) (r : Decoding) (agrees : Agrees w r) (s : SessionParts) (number : ℕ) (from frames : List Frame)
    (same : frames ≡ from) (frame : Frame) (current : Some frame ≡ current_in s (numbered number frames))
    (all : AllByRecursion (IsWritten w) from) (bytes : List ℕ) (bytes_are : bytes ≡ frame.bytes.items) where
  found : Some frame ≡ current_in s (numbered number from)
  found = current ∙ ap (λ (fs : List Frame). current_in s (numbered number fs)) same

  was_written : IsWritten w frame
  was_written = current_written w s number from frame all (sym found)

  pub comes_as_message : IsFrameOfMessage (next_read (stream_of bytes)).frame
  comes_as_message =
      subst (λ (bs : List ℕ). IsFrameOfMessage (next_read (stream_of bs)).frame) (sym bytes_are)
      (is_frame w r agrees frame was_written)

  -- the session receives its message
  module _ (step : Step) (now : SessionParts)
      (step_is : Gives (IsStep w moment) s (answers (receive s (said_by r bytes))) (Ok step) now) where
    gives : Gives (IsStep w moment) s (answers (receive s (said_by r frame.bytes.items))) (Ok step) now
    gives =
        subst (λ (bs : List ℕ). Gives (IsStep w moment) s (answers (receive s (said_by r bs))) (Ok step) now) bytes_are
        step_is

    -- the frames of its step are kept, or the frames stay, for lack of memory
    pub heard_kept : {T E : Type 0} (x : ExchangeParts) (to new : List Frame) (connection : ℕ) (written : List (Vec ℕ))
        (result : Result T E) → IsKept w s x to from → map (λ (bytes : Vec ℕ). bytes.items) written ≡ step.out
        → connection ≡ now.connection → OnOk result (new ≡ to ++ written_in connection written)
        → OnErr result (new ≡ to) → IsKept w now x new from
    heard_kept x to new connection written result kept every here ok err =
        let turned = kept-receive s (said_by r frame.bytes.items) kept.session (heard_range w r agrees frame was_written) in
        step_kept w s now x to new from moment connection (answers (receive s (said_by r frame.bytes.items))) step written
        result kept refl gives turned.sound turned.written every here ok err

    pub heard_said : (x : ExchangeParts) (to new : List Frame) (given : List Note) (connection : ℕ)
        (written : List (Vec ℕ)) → session.IsSound s → map (λ (bytes : Vec ℕ). bytes.items) written ≡ step.out
        → connection ≡ now.connection → new ≡ to ++ written_in connection written
        → seen r now x new from given
        ≡ heard (seen r s x to from given) (turn_on (seen r s x to from given) (numbered number (all_said r from)))
    heard_said x to new given connection written sound every here added =
        let m = said_by r frame.bytes.items in
        let turned = kept-receive s m sound (heard_range w r agrees frame was_written) in
        step_said w r agrees (seen r s x to from given) to new moment connection (answers (receive s m)) step written now
        refl refl gives turned.written every here added
        ∙ sym (ap (heard (seen r s x to from given)) (turn_by r (seen r s x to from given) from number (Some frame) refl
        found))

    pub heard_told : (x : ExchangeParts) (to : List Frame) (given : List Note)
        → Some (record { note = step.note; withdrawn = step.withdrawn; ended = step.ended })
        ≡ option_map inbound_of (turn_on (seen r s x to from given) (numbered number (all_said r from)))
    heard_told x to given =
        let is : Some (record { note = step.note; withdrawn = step.withdrawn; ended = step.ended })
        ≡ Some (inbound_of (receive s (said_by r frame.bytes.items))) =
        λ k. Some (record { note = gives.0.note k; withdrawn = gives.0.withdrawn k; ended = gives.0.ended k }) in
        is ∙ sym (ap (option_map inbound_of) (turn_by r (seen r s x to from given) from number (Some frame) refl found))

-- the session received nothing, for lack of memory
pub unheard_sound : (w : Encoding) (r : Decoding) → Agrees w r → (s now : SessionParts) (frame : Frame)
    (result : Result Step SessionFault) → IsWritten w frame
    → Gives (IsStep w moment) s (answers (receive s (said_by r frame.bytes.items))) result now
    → session.IsSound s
    → session.IsSound now
unheard_sound w r agrees s now frame result is gives sound =
    given_sound (IsStep w moment) s now (answers (receive s (said_by r frame.bytes.items))) result gives sound
    (kept-receive s (said_by r frame.bytes.items) sound (heard_range w r agrees frame is)).sound

-- the note is confirmed
pub confirmed_kept : (w : Encoding) (s now : SessionParts) (x : ExchangeParts) (to from : List Frame) → IsKept w s x to from
    → now ≡ confirm s
    → IsKept w now x to from
confirmed_kept w s now x to from kept is =
    still_kept w s now x to to from kept (subst session.IsSound (sym is) (confirm_sound s kept.session)) refl
