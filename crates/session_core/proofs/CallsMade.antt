-- A list of calls is made one by one.
use Rattle.std.proofs.Common.{◌≡◌, ◌<◌, ◌+◌, ℕ, not, nat_lt, List, [], ◌∷◌, ◌++◌, length, take, drop, get_or, Option, Some, None, refl, sym, ap, subst, ◌∙◌}
use Rattle.std.proofs.lemmas.List.{take_more, append-nil, append_assoc, take-append-drop}
use Rattle.std.specs.Prelude.{Result, Ok, Err, option_to_list}
use Rattle.std.specs.Global.{Vec}
use Rattle.fix_tags.specs.Stamp.{StampParts}
use Rattle.leg.specs.declared.leg.Leg.{Leg}
use Rattle.dialect.specs.declared.message.Message.{Message}
use Rattle.dialect.specs.declared.content.Content.TheVariants.{Session}
use Rattle.fix_tags.specs.declared.session_body.SessionBody.TheVariants.{Heartbeat}
use Rattle.dialect.specs.Framed.{IsFramed}
use Rattle.dialect.specs.Wording.{Decoding, Encoding}
use Rattle.dialect.specs.Outgoing.{alone}
use Rattle.resend.specs.Log.{last_ordinal}
use Rattle.session_core.specs.declared.phase.Phase.{Phase}
use Rattle.session_core.specs.declared.phase.Phase.TheVariants.{Down, LoggingOn, Settling, Up, Closing, LoggedOut, Closed}
use Rattle.session_core.specs.declared.ended.Ended.TheVariants.{Silent}
use Rattle.session_core.specs.declared.session_call.SessionCall.{SessionCall}
use Rattle.session_core.specs.declared.session_fault.SessionFault.{SessionFault}
use Rattle.session_core.specs.declared.session_fault.SessionFault.TheVariants as fault
use Rattle.session_core.specs.declared.step.Step.{Step}
use Rattle.session_core.specs.Session.{SessionParts, is_connected, is_still, may_write}
use Rattle.session_core.specs.Turn.{StepParts, Turn, quietly, puts, puts_fence, ends}
use Rattle.session_core.specs.Calling.{SessionAnswer, refuses, answers, answers_numbered, connect, connect_in, send_leg, send_in, quiet, silent, hushed, close, close_in, closing_up}
use Rattle.session_core.specs.CallResult.{IsStep, Gives}
use Rattle.session_core.specs.Trial.{Addition, added, added_message, called, after_calls, steps_of, AreSteps, unless_refused, StepAdded, Adds, Tries}
use Rattle.session_core.proofs.Adding.{chosen}

-- what comes after calls and then others
pub after-append : (read : Decoding) (s : SessionParts) (first then : List SessionCall)
    → after_calls read s (first ++ then) ≡ after_calls read (after_calls read s first) then
after-append read s [] then = refl
after-append read s (call ∷ first) then = after-append read (called read s call).1 first then

steps-append : (read : Decoding) (s : SessionParts) (first then : List SessionCall)
    → steps_of read s (first ++ then) ≡ steps_of read s first ++ steps_of read (after_calls read s first) then
steps-append read s [] then = refl
steps-append read s (call ∷ first) then =
    ap (λ (steps : List StepParts). option_to_list (called read s call).0 ++ steps)
    (steps-append read (called read s call).1 first then)
    ∙ sym (append_assoc (option_to_list (called read s call).0) (steps_of read (called read s call).1 first)
    (steps_of read (after_calls read (called read s call).1 first) then))

-- one call more
one_more : (calls : List SessionCall) (i : ℕ) (one : SessionCall) → i < length calls → one ≡ get_or calls i one
    → take (i + 1) calls ≡ take i calls ++ one ∷ []
one_more calls i one below is =
    take_more calls i one below ∙ ap (λ (call : SessionCall). take i calls ++ call ∷ []) (sym is)

after-more : (read : Decoding) (s : SessionParts) (calls : List SessionCall) (i : ℕ) (one : SessionCall)
    → i < length calls → one ≡ get_or calls i one
    → after_calls read s (take (i + 1) calls) ≡ (called read (after_calls read s (take i calls)) one).1
after-more read s calls i one below is =
    ap (after_calls read s) (one_more calls i one below is) ∙ after-append read s (take i calls) (one ∷ [])

steps-more : (read : Decoding) (s : SessionParts) (calls : List SessionCall) (i : ℕ) (one : SessionCall)
    → i < length calls → one ≡ get_or calls i one
    → steps_of read s (take (i + 1) calls)
    ≡ steps_of read s (take i calls) ++ option_to_list (called read (after_calls read s (take i calls)) one).0
steps-more read s calls i one below is =
    ap (steps_of read s) (one_more calls i one below is)
    ∙ (steps-append read s (take i calls) (one ∷ [])
    ∙ ap (λ (steps : List StepParts). steps_of read s (take i calls) ++ steps)
    (append-nil (option_to_list (called read (after_calls read s (take i calls)) one).0)))

-- no answer of a definition is out of memory
abbrev NeverWants : {X : Type 0} → SessionAnswer X → Type 0
NeverWants (Ok given, after) = Unit {0}
NeverWants (Err why, after) = why ≡ fault.OutOfMemory → ⊥

numbered-never : (s : SessionParts) (turn : Turn) → NeverWants (answers_numbered s turn)
numbered-never s turn =
    chosen NeverWants (may_write s) (answers turn) (refuses fault.NumbersSpent s) (λ may. tt) (λ spent wants. absurd cc)

connect_in-never : (s : SessionParts) (phase : Phase) → NeverWants (connect_in phase s)
connect_in-never s Down =
    chosen NeverWants (may_write s) _ (refuses fault.NumbersSpent s) (λ may. tt) (λ spent wants. absurd cc)
connect_in-never s Closed = λ wants. absurd cc
connect_in-never s LoggingOn = λ wants. absurd cc
connect_in-never s Settling = λ wants. absurd cc
connect_in-never s Up = λ wants. absurd cc
connect_in-never s Closing = λ wants. absurd cc
connect_in-never s LoggedOut = λ wants. absurd cc

send_in-never : (s : SessionParts) (ordinal : ℕ) (leg : Leg) (phase : Phase) → NeverWants (send_in phase s ordinal leg)
send_in-never s ordinal leg Up =
    chosen NeverWants (not (nat_lt (last_ordinal s.log) ordinal)) (refuses fault.OrdinalNotGreater s) _
    (λ low wants. absurd cc)
    (λ high. chosen NeverWants (may_write s) _ (refuses fault.NumbersSpent s) (λ may. tt) (λ spent wants. absurd cc))
send_in-never s ordinal leg Down = λ wants. absurd cc
send_in-never s ordinal leg LoggingOn = λ wants. absurd cc
send_in-never s ordinal leg Settling = λ wants. absurd cc
send_in-never s ordinal leg Closing = λ wants. absurd cc
send_in-never s ordinal leg LoggedOut = λ wants. absurd cc
send_in-never s ordinal leg Closed = λ wants. absurd cc

quiet-never : (s : SessionParts) → NeverWants (quiet s)
quiet-never s =
    chosen NeverWants (not (is_connected s.phase)) (refuses fault.NotConnected s) _ (λ off wants. absurd cc)
    (λ on. chosen NeverWants (is_still s.phase) (answers (quietly s)) _ (λ still. tt)
    (λ going. numbered-never s (puts (Session (Heartbeat None)) (quietly s))))

silent-never : (s : SessionParts) → NeverWants (silent s)
silent-never s =
    chosen NeverWants (not (is_connected s.phase)) (refuses fault.NotConnected s) _ (λ off wants. absurd cc)
    (λ on. chosen NeverWants s.current.silent (answers (ends Silent s)) _ (λ again. tt)
    (λ first. chosen NeverWants (is_still s.phase) (answers (quietly (hushed s))) _ (λ still. tt)
    (λ going. numbered-never s (puts_fence (quietly (hushed s))))))

close_in-never : (s : SessionParts) (phase : Phase) → NeverWants (close_in phase s)
close_in-never s Down = λ wants. absurd cc
close_in-never s Closed = λ wants. absurd cc
close_in-never s Up = numbered-never s (puts_fence (quietly (closing_up s)))
close_in-never s LoggingOn = tt
close_in-never s Settling = tt
close_in-never s Closing = tt
close_in-never s LoggedOut = tt

-- a refusal that isn't out of memory adds nothing
refused : {X : Type 0} (why : SessionFault) → (why ≡ fault.OutOfMemory → ⊥) → unless_refused {X = X} (Err why) ≡ Ok None
refused fault.NotDown never = refl
refused fault.Closed never = refl
refused fault.NumbersSpent never = refl
refused fault.OutOfMemory never = absurd (never refl)
refused fault.NotUp never = refl
refused fault.OrdinalNotGreater never = refl
refused fault.NotConnected never = refl

-- a call that answers with a step
adds : (w : Encoding) (stamp : StampParts) (before now : SessionParts) (answer : SessionAnswer StepParts)
    (result : Result Step SessionFault) (given : Result (Option Step) SessionFault) → NeverWants answer
    → Gives (IsStep w stamp) before answer result now → given ≡ unless_refused result
    → Adds w stamp (added answer) given now
adds w stamp before now (Ok said, after) (Ok step) given never is so = rw so is
adds w stamp before now (Ok said, after) (Err why) given never is so =
    (let wants : given ≡ Err fault.OutOfMemory =
    so ∙ ap (λ (f : SessionFault). unless_refused {X = Step} (Err f)) is.0 in
    rw wants refl)
adds w stamp before now (Err why, after) result given never is so =
    (let none : given ≡ Ok None =
    so ∙ (ap (λ (r : Result Step SessionFault). unless_refused r) is.0 ∙ refused {X = Step} why never) in
    rw none is.1)

-- a call that answers with a frame
adds_frame : (w : Encoding) (stamp : StampParts) (before now : SessionParts) (answer : SessionAnswer Message)
    (result : Result (Vec ℕ) SessionFault) (given : Result (Option Step) SessionFault) → NeverWants answer
    → Gives (λ m bytes. IsFramed w stamp (alone m) bytes.items) before answer result now
    → StepAdded (unless_refused result) given → Adds w stamp (added_message answer) given now
adds_frame w stamp before now (Ok m, after) (Ok frame) (Ok given) never is so =
    rw so (record { out = (is.0, tt); note = refl; withdrawn = refl; ended = refl }, is.1)
adds_frame w stamp before now (Ok m, after) (Ok frame) (Err why) never is so = so
adds_frame w stamp before now (Ok m, after) (Err why) given never is so =
    (let wants : given ≡ Err fault.OutOfMemory =
    subst (λ (f : SessionFault). StepAdded (unless_refused {X = Vec ℕ} (Err f)) given) is.0 so in
    rw wants refl)
adds_frame w stamp before now (Err why, after) result given never is so =
    (let answered : unless_refused result ≡ Ok None =
    ap (λ (r : Result (Vec ℕ) SessionFault). unless_refused r) is.0 ∙ refused {X = Vec ℕ} why never in
    let none : given ≡ Ok None = subst (λ (r : Result (Option (Vec ℕ)) SessionFault). StepAdded r given) answered so in
    rw none is.1)

-- each call as the code makes it
module _ (w : Encoding) (stamp : StampParts) (s now : SessionParts) where
  pub connect-adds : (result : Result (Vec ℕ) SessionFault) (given : Result (Option Step) SessionFault)
      → Gives (λ m bytes. IsFramed w stamp (alone m) bytes.items) s (connect s) result now
      → StepAdded (unless_refused result) given → Adds w stamp (added_message (connect s)) given now
  connect-adds result given = adds_frame w stamp s now (connect s) result given (connect_in-never s s.phase)

  pub send_leg-adds : (ordinal : ℕ) (leg : Leg) (result : Result (Vec ℕ) SessionFault)
      (given : Result (Option Step) SessionFault)
      → Gives (λ m bytes. IsFramed w stamp (alone m) bytes.items) s (send_leg s ordinal leg) result now
      → StepAdded (unless_refused result) given → Adds w stamp (added_message (send_leg s ordinal leg)) given now
  send_leg-adds ordinal leg result given =
      adds_frame w stamp s now (send_leg s ordinal leg) result given (send_in-never s ordinal leg s.phase)

  pub receive-adds : (turn : Turn) (result : Result Step SessionFault) (given : Result (Option Step) SessionFault)
      → Gives (IsStep w stamp) s (answers turn) result now → given ≡ unless_refused result
      → Adds w stamp (added (answers turn)) given now
  receive-adds turn result given = adds w stamp s now (answers turn) result given tt

  pub quiet-adds : (result : Result Step SessionFault) (given : Result (Option Step) SessionFault)
      → Gives (IsStep w stamp) s (quiet s) result now → given ≡ unless_refused result
      → Adds w stamp (added (quiet s)) given now
  quiet-adds result given = adds w stamp s now (quiet s) result given (quiet-never s)

  pub silent-adds : (result : Result Step SessionFault) (given : Result (Option Step) SessionFault)
      → Gives (IsStep w stamp) s (silent s) result now → given ≡ unless_refused result
      → Adds w stamp (added (silent s)) given now
  silent-adds result given = adds w stamp s now (silent s) result given (silent-never s)

  pub close-adds : (result : Result Step SessionFault) (given : Result (Option Step) SessionFault)
      → Gives (IsStep w stamp) s (close s) result now → given ≡ unless_refused result
      → Adds w stamp (added (close s)) given now
  close-adds result given = adds w stamp s now (close s) result given (close_in-never s s.phase)

-- a step more, or none
push : (w : Encoding) (stamp : StampParts) (said : List StepParts) (steps : List Step) (one : StepParts) (step : Step)
    → AreSteps w stamp said steps → IsStep w stamp one step
    → AreSteps w stamp (said ++ one ∷ []) (steps ++ step ∷ [])
push w stamp [] [] one step all is = (is, tt)
push w stamp [] (x ∷ steps) one step all is = absurd all
push w stamp (x ∷ said) [] one step all is = absurd all
push w stamp (x ∷ said) (y ∷ steps) one step all is = (all.0, push w stamp said steps one step all.1 is)

some_added : (w : Encoding) (stamp : StampParts) (a : Addition) (step : Step) (now : SessionParts)
    (said : List StepParts) (steps : List Step) → Adds w stamp a (Ok (Some step)) now → AreSteps w stamp said steps
    → (now ≡ a.1) × AreSteps w stamp (said ++ option_to_list a.0) (steps ++ step ∷ [])
some_added w stamp (None, after) step now said steps is all = absurd is
some_added w stamp (Some one, after) step now said steps is all =
    (is.1, push w stamp said steps one step all is.0)

none_added : (w : Encoding) (stamp : StampParts) (a : Addition) (now : SessionParts) (said : List StepParts)
    (steps : List Step) → Adds w stamp a (Ok None) now → AreSteps w stamp said steps
    → (now ≡ a.1) × AreSteps w stamp (said ++ option_to_list a.0) steps
none_added w stamp (Some one, after) now said steps is all = absurd is
none_added w stamp (None, after) now said steps is all = (is, rw (append-nil said) all)

-- so far the session and the steps are those of the calls made
module _ (w : Encoding) (stamp : StampParts) (read : Decoding) (start : SessionParts) (calls : List SessionCall) (i : ℕ)
    (one : SessionCall) (below : i < length calls) (is_one : one ≡ get_or calls i one) where
  abbrev here : Addition
  here = called read (after_calls read start (take i calls)) one

  abbrev said : List StepParts
  said = steps_of read start (take i calls)

  more : (now : SessionParts) (steps : List Step)
      → (now ≡ here.1) × AreSteps w stamp (said ++ option_to_list here.0) steps
      → (now ≡ after_calls read start (take (i + 1) calls))
      × AreSteps w stamp (steps_of read start (take (i + 1) calls)) steps
  more now steps is = (
    is.0 ∙ sym (after-more read start calls i one below is_one),
    rw (steps-more read start calls i one below is_one) is.1,
  )

  pub step-more : (before now : SessionParts) (steps later : List Step) (step : Step)
      → (before ≡ after_calls read start (take i calls)) × AreSteps w stamp said steps
      → Adds w stamp (called read before one) (Ok (Some step)) now → later ≡ steps ++ step ∷ []
      → (now ≡ after_calls read start (take (i + 1) calls))
      × AreSteps w stamp (steps_of read start (take (i + 1) calls)) later
  step-more before now steps later step so is pushed =
      more now later (rw pushed (some_added w stamp here step now said steps
      (subst (λ (t : SessionParts). Adds w stamp (called read t one) (Ok (Some step)) now) so.0 is)
      so.1))

  pub no_step-more : (before now : SessionParts) (steps : List Step)
      → (before ≡ after_calls read start (take i calls)) × AreSteps w stamp said steps
      → Adds w stamp (called read before one) (Ok None) now
      → (now ≡ after_calls read start (take (i + 1) calls))
      × AreSteps w stamp (steps_of read start (take (i + 1) calls)) steps
  no_step-more before now steps so is =
      more now steps (none_added w stamp here now said steps
      (subst (λ (t : SessionParts). Adds w stamp (called read t one) (Ok None) now) so.0 is) so.1)

  -- where a step was to be added, memory may be wanting
  wanting : (first : List StepParts) (more : StepParts) (rest : List StepParts) (after : SessionParts)
      (why : SessionFault) → why ≡ fault.OutOfMemory
      → Tries w stamp ((first ++ more ∷ []) ++ rest) after (Err why)
  wanting [] more rest after why is = is
  wanting (x ∷ first) more rest after why is = is

  all_steps : steps_of read start calls
      ≡ (said ++ option_to_list here.0)
      ++ steps_of read (after_calls read start (take (i + 1) calls)) (drop (i + 1) calls)
  all_steps =
      ap (steps_of read start) (sym (take-append-drop (i + 1) calls))
      ∙ (steps-append read start (take (i + 1) calls) (drop (i + 1) calls)
      ∙ ap (λ (steps : List StepParts). steps ++ steps_of read (after_calls read start (take (i + 1) calls))
      (drop (i + 1) calls))
      (steps-more read start calls i one below is_one))

  wanting_for : (o : Option StepParts) (after : SessionParts) (why : SessionFault) → (o ≡ None → ⊥)
      → why ≡ fault.OutOfMemory → o ≡ here.0
      → Tries w stamp (steps_of read start calls) after (Err why)
  wanting_for None after why some is so = absurd (some refl)
  wanting_for (Some more) after why some is so =
      rw (all_steps, ← so)
      (wanting said more (steps_of read (after_calls read start (take (i + 1) calls)) (drop (i + 1) calls)) after why
      is)

  is_some : (a : Addition) (step : Step) (now : SessionParts) → Adds w stamp a (Ok (Some step)) now → a.0 ≡ None → ⊥
  is_some (None, after) step now is none = is
  is_some (Some more, after) step now is none = absurd cc

  is_wanting : (a : Addition) (why : SessionFault) (now : SessionParts) → Adds w stamp a (Err why) now
      → (a.0 ≡ None → ⊥) × (why ≡ fault.OutOfMemory)
  is_wanting (None, after) why now is = absurd is
  is_wanting (Some more, after) why now is = (λ none. absurd cc, is)

  pub call-wanting : (before now after : SessionParts) (why : SessionFault)
      → before ≡ after_calls read start (take i calls)
      → Adds w stamp (called read before one) (Err why) now
      → Tries w stamp (steps_of read start calls) after (Err why)
  call-wanting before now after why so is =
      (let found = is_wanting here why now
      (subst (λ (t : SessionParts). Adds w stamp (called read t one) (Err why) now) so is) in
      wanting_for here.0 after why found.0 found.1 refl)

  pub push-wanting : (before now after : SessionParts) (step : Step) (why : SessionFault)
      → before ≡ after_calls read start (take i calls)
      → Adds w stamp (called read before one) (Ok (Some step)) now → why ≡ fault.OutOfMemory
      → Tries w stamp (steps_of read start calls) after (Err why)
  push-wanting before now after step why so is wants =
      wanting_for here.0 after why
      (is_some here step now
      (subst (λ (t : SessionParts). Adds w stamp (called read t one) (Ok (Some step)) now) so is))
      wants refl
