-- A venue after a call of its session: what is read of its frames, and what it keeps.
use Rattle.std.proofs.Common.{◌≡◌, ℕ, List, [], ◌∷◌, ◌++◌, map, Ok, Err, sym, ap, subst, ◌∙◌}
use Rattle.std.specs.Prelude.{IfOk, OnOk, OnErr, Result}
use Rattle.fix_tags.specs.Stamp.{StampParts}
use Rattle.std.specs.Global.{Vec}
use Rattle.std.specs.List.{AllByRecursion}
use Rattle.dialect.specs.declared.message.Message.{Message}
use Rattle.dialect.specs.Framed.{IsFramed}
use Rattle.dialect.specs.Wording.{Decoding, Encoding}
use Rattle.dialect.specs.Outgoing.{alone}
use Rattle.dialect.specs.Writable.{IsWritable}
use Rattle.dialect.proofs.FrameBack.{Agrees}
use Rattle.exchange_core.specs.Exchange.{ExchangeParts}
use Rattle.session_core.specs.declared.session_fault.SessionFault.{SessionFault}
use Rattle.session_core.specs.declared.step.Step.{Step}
use Rattle.session_core.specs.Session.{SessionParts}
use Rattle.session_core.specs.Turn.{StepParts}
use Rattle.session_core.specs.Calling.{SessionAnswer}
use Rattle.session_core.specs.CallResult.{IsStep, Gives}
use Rattle.session_core.specs.Sound.{IsSound, AreWritable}
use Rattle.schedule.specs.World.{VenueParts}
use Rattle.schedule.specs.Happening.{in_connection}
use Rattle.venue_replay.specs.declared.frame.Frame.{Frame}
use Rattle.venue_replay.specs.Network.{moment, all_said, IsWritten}
use Rattle.venue_replay.specs.AtVenue.{written_in, sent, called}
use Rattle.venue_replay.specs.Kept.{IsKept}
use Rattle.venue_replay.proofs.FramesRead.{reads, said_more, all_more, said_step, written_step}

-- whatever a call gives, the session keeps its promises
pub given_sound : {X Y : Type 0} (Is : X → Y → Type 0) (before now : SessionParts) (answer : SessionAnswer X)
    (result : Result Y SessionFault) → Gives Is before answer result now → IsSound before → IsSound answer.1
    → IsSound now
given_sound Is before now (Ok said, after) (Ok given) gives was is = subst IsSound (sym gives.1) is
given_sound Is before now (Ok said, after) (Err fault) gives was is = subst IsSound (sym gives.1) was
given_sound Is before now (Err refused, after) result gives was is = subst IsSound (sym gives.1) is

-- the frames of one message
abbrev pub IsOne : Encoding → Message → Vec ℕ → Type 0
IsOne w m bytes = IsFramed w moment (alone m) bytes.items

-- a call that was refused
pub called_refused : (w : Encoding) (at : StampParts) (venue : VenueParts) (answer : SessionAnswer StepParts)
    (fault : SessionFault) (now : SessionParts) → (fault ≡ SessionFault.OutOfMemory → ⊥)
    → Gives (IsStep w at) venue.session answer (Err fault) now
    → record venue { session = now } ≡ called venue answer
called_refused w at venue (Ok step, after) fault now other gives = absurd (other gives.0)
called_refused w at venue (Err refused, after) fault now other gives = λ k. record venue { session = gives.1 k }

-- a call that wrote its message
pub sent_said : (w : Encoding) (r : Decoding) → Agrees w r → (venue : VenueParts) (to new : List Frame)
    (answer : SessionAnswer Message) (bytes : Vec ℕ) (now : SessionParts) → venue.to_exchange ≡ all_said r to
    → Gives (IsOne w) venue.session answer (Ok bytes) now
    → IfOk answer.0 (λ m. IsWritable (alone m))
    → new ≡ to ++ record { connection = now.connection; bytes = bytes } ∷ []
    → record venue { session = now; to_exchange = all_said r new } ≡ sent venue answer
sent_said w r agrees venue to new (Err refused, after) bytes now said gives can is = absurd (let e = gives.0 in cc)
sent_said w r agrees venue to new (Ok m, after) bytes now said gives can is =
    let here = reads w r agrees (alone m) bytes.items can gives.0 in
    let more = ap (all_said r) is ∙ said_more r to (record { connection = now.connection; bytes = bytes } ∷ []) in
    (λ k. record venue { session = now; to_exchange = more k })
    ∙ (λ k. record venue { session = gives.1 k; to_exchange = sym said k ++ record { connection = (gives.1 k).connection; message = here k } ∷ [] })

pub sent_kept : (w : Encoding) (s now : SessionParts) (x : ExchangeParts) (to new from : List Frame)
    (answer : SessionAnswer Message) (bytes : Vec ℕ) → IsKept w s x to from → Gives (IsOne w) s answer (Ok bytes) now
    → IsSound answer.1
    → IfOk answer.0 (λ m. IsWritable (alone m))
    → new ≡ to ++ record { connection = now.connection; bytes = bytes } ∷ []
    → IsKept w now x new from
sent_kept w s now x to new from (Err refused, after) bytes kept gives sound can is = absurd (let e = gives.0 in cc)
sent_kept w s now x to new from (Ok m, after) bytes kept gives sound can is = record {
  session = subst IsSound (sym gives.1) sound;
  exchange = kept.exchange;
  to_exchange = subst (AllByRecursion (IsWritten w)) (sym is)
      (all_more (IsWritten w) to _ kept.to_exchange (record { out = alone m; writable = can; framed = gives.0 }, tt));
  from_exchange = kept.from_exchange;
  live = kept.live;
}

-- nothing was written
pub still_kept : (w : Encoding) (s now : SessionParts) (x : ExchangeParts) (to new from : List Frame) → IsKept w s x to from
    → IsSound now
    → new ≡ to
    → IsKept w now x new from
still_kept w s now x to new from kept sound is = record {
  session = sound;
  exchange = kept.exchange;
  to_exchange = subst (AllByRecursion (IsWritten w)) (sym is) kept.to_exchange;
  from_exchange = kept.from_exchange;
  live = kept.live;
}

-- a call that gave a step
pub called_said : (w : Encoding) (r : Decoding) → Agrees w r → (venue : VenueParts) (to new : List Frame)
    (answer : SessionAnswer StepParts) (step : Step) (written : List (Vec ℕ)) (now : SessionParts)
    → venue.to_exchange ≡ all_said r to
    → Gives (IsStep w moment) venue.session answer (Ok step) now
    → IfOk answer.0 (λ said. AreWritable said.written)
    → map (λ (bytes : Vec ℕ). bytes.items) written ≡ step.out
    → new ≡ to ++ written_in now.connection written
    → record venue { session = now; to_exchange = all_said r new } ≡ called venue answer
called_said w r agrees venue to new (Err refused, after) step written now said gives can all is =
    absurd (let e = gives.0 in cc)
called_said w r agrees venue to new (Ok step_said, after) step written now said gives can all is =
    let here = said_step w r agrees now.connection step_said.written written can (rw (← all) at gives.0.out) in
    let more = ap (all_said r) is ∙ said_more r to (written_in now.connection written) in
    (λ k. record venue { session = now; to_exchange = more k })
    ∙ ((λ k. record venue { session = now; to_exchange = sym said k ++ here k })
    ∙ (λ k. record venue { session = gives.1 k; to_exchange = venue.to_exchange ++ in_connection (gives.1 k).connection step_said.written }))

pub called_kept : (w : Encoding) (s now : SessionParts) (x : ExchangeParts) (to new from : List Frame)
    (answer : SessionAnswer StepParts) (step : Step) (written : List (Vec ℕ)) → IsKept w s x to from
    → Gives (IsStep w moment) s answer (Ok step) now
    → IsSound answer.1
    → IfOk answer.0 (λ said. AreWritable said.written)
    → map (λ (bytes : Vec ℕ). bytes.items) written ≡ step.out
    → new ≡ to ++ written_in now.connection written
    → IsKept w now x new from
called_kept w s now x to new from (Err refused, after) step written kept gives sound can all is =
    absurd (let e = gives.0 in cc)
called_kept w s now x to new from (Ok said, after) step written kept gives sound can all is = record {
  session = subst IsSound (sym gives.1) sound;
  exchange = kept.exchange;
  to_exchange = subst (AllByRecursion (IsWritten w)) (sym is)
      (all_more (IsWritten w) to _ kept.to_exchange
      (written_step w now.connection said.written written can (rw (← all) at gives.0.out)));
  from_exchange = kept.from_exchange;
  live = kept.live;
}

-- the frame of a call's message is kept
pub message_kept : (w : Encoding) (s now : SessionParts) (x : ExchangeParts) (to new from : List Frame) (at : StampParts)
    (connection : ℕ) (answer : SessionAnswer Message) (bytes : Vec ℕ) → IsKept w s x to from → at ≡ moment
    → Gives (λ m (frame : Vec ℕ). IsFramed w at (alone m) frame.items) s answer (Ok bytes) now
    → IsSound answer.1
    → IfOk answer.0 (λ m. IsWritable (alone m))
    → connection ≡ now.connection
    → new ≡ to ++ record { connection = connection; bytes = bytes } ∷ []
    → IsKept w now x new from
message_kept w s now x to new from at connection answer bytes kept then gives sound can here is =
    let said : Gives (IsOne w) s answer (Ok bytes) now =
    subst (λ (stamp : StampParts). Gives (λ m (frame : Vec ℕ). IsFramed w stamp (alone m) frame.items) s answer (Ok bytes) now) then gives in
    let added : new ≡ to ++ record { connection = now.connection; bytes = bytes } ∷ [] =
    is ∙ ap (λ (n : ℕ). to ++ record { connection = n; bytes = bytes } ∷ []) here in
    sent_kept w s now x to new from answer bytes kept said sound can added

pub message_said : (w : Encoding) (r : Decoding) → Agrees w r → (venue : VenueParts) (to new : List Frame) (at : StampParts)
    (connection : ℕ) (answer : SessionAnswer Message) (bytes : Vec ℕ) (now : SessionParts)
    → venue.to_exchange ≡ all_said r to
    → at ≡ moment
    → Gives (λ m (frame : Vec ℕ). IsFramed w at (alone m) frame.items) venue.session answer (Ok bytes) now
    → IfOk answer.0 (λ m. IsWritable (alone m))
    → connection ≡ now.connection
    → new ≡ to ++ record { connection = connection; bytes = bytes } ∷ []
    → record venue { session = now; to_exchange = all_said r new } ≡ sent venue answer
message_said w r agrees venue to new at connection answer bytes now said then gives can here is =
    let wrote : Gives (IsOne w) venue.session answer (Ok bytes) now =
    subst (λ (stamp : StampParts). Gives (λ m (frame : Vec ℕ). IsFramed w stamp (alone m) frame.items) venue.session answer (Ok bytes) now) then gives in
    let added : new ≡ to ++ record { connection = now.connection; bytes = bytes } ∷ [] =
    is ∙ ap (λ (n : ℕ). to ++ record { connection = n; bytes = bytes } ∷ []) here in
    sent_said w r agrees venue to new answer bytes now said wrote can added

-- the frames of a call's step are kept, or the frames stay, for lack of memory
pub step_kept : {T E : Type 0} (w : Encoding) (s now : SessionParts) (x : ExchangeParts) (to new from : List Frame)
    (at : StampParts) (connection : ℕ) (answer : SessionAnswer StepParts) (step : Step) (written : List (Vec ℕ))
    (result : Result T E) → IsKept w s x to from → at ≡ moment
    → Gives (IsStep w at) s answer (Ok step) now
    → IsSound answer.1
    → IfOk answer.0 (λ said. AreWritable said.written)
    → map (λ (bytes : Vec ℕ). bytes.items) written ≡ step.out
    → connection ≡ now.connection
    → OnOk result (new ≡ to ++ written_in connection written)
    → OnErr result (new ≡ to)
    → IsKept w now x new from
step_kept w s now x to new from at connection answer step written (Ok done) kept then gives sound can all here ok err =
    let said : Gives (IsStep w moment) s answer (Ok step) now =
    subst (λ (stamp : StampParts). Gives (IsStep w stamp) s answer (Ok step) now) then gives in
    let added : new ≡ to ++ written_in now.connection written = ok ∙ ap (λ (n : ℕ). to ++ written_in n written) here in
    called_kept w s now x to new from answer step written kept said sound can all added
step_kept w s now x to new from at connection answer step written (Err fault) kept then gives sound can all here ok err =
    still_kept w s now x to new from kept (given_sound (IsStep w at) s now answer (Ok step) gives kept.session sound) err

pub step_said : (w : Encoding) (r : Decoding) → Agrees w r → (venue : VenueParts) (to new : List Frame) (at : StampParts)
    (connection : ℕ) (answer : SessionAnswer StepParts) (step : Step) (written : List (Vec ℕ)) (now : SessionParts)
    → venue.to_exchange ≡ all_said r to
    → at ≡ moment
    → Gives (IsStep w at) venue.session answer (Ok step) now
    → IfOk answer.0 (λ said. AreWritable said.written)
    → map (λ (bytes : Vec ℕ). bytes.items) written ≡ step.out
    → connection ≡ now.connection
    → new ≡ to ++ written_in connection written
    → record venue { session = now; to_exchange = all_said r new } ≡ called venue answer
step_said w r agrees venue to new at connection answer step written now said then gives can all here is =
    let wrote : Gives (IsStep w moment) venue.session answer (Ok step) now =
    subst (λ (stamp : StampParts). Gives (IsStep w stamp) venue.session answer (Ok step) now) then gives in
    let added : new ≡ to ++ written_in now.connection written = is ∙ ap (λ (n : ℕ). to ++ written_in n written) here in
    called_said w r agrees venue to new answer step written now said wrote can all added

-- where that was not for lack of memory
pub step_said_if : {T E : Type 0} (w : Encoding) (r : Decoding) → Agrees w r → (venue : VenueParts) (to new : List Frame)
    (at : StampParts) (connection : ℕ) (answer : SessionAnswer StepParts) (step : Step) (written : List (Vec ℕ))
    (now : SessionParts) (result : Result T E) → venue.to_exchange ≡ all_said r to
    → at ≡ moment
    → Gives (IsStep w at) venue.session answer (Ok step) now
    → IfOk answer.0 (λ said. AreWritable said.written)
    → map (λ (bytes : Vec ℕ). bytes.items) written ≡ step.out
    → connection ≡ now.connection
    → OnOk result (new ≡ to ++ written_in connection written)
    → OnOk result (record venue { session = now; to_exchange = all_said r new } ≡ called venue answer)
step_said_if w r agrees venue to new at connection answer step written now (Ok done) said then gives can all here is =
    step_said w r agrees venue to new at connection answer step written now said then gives can all here is
step_said_if w r agrees venue to new at connection answer step written now (Err fault) said then gives can all here is = tt
