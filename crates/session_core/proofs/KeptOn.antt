-- A session is kept as its calls put what they decided in place.
use Rattle.std.proofs.Common.{◌≡◌, ◌<◌, ◌+◌, ℕ, true, List, [], ◌∷◌, None, arith, length-append}
use Rattle.std.specs.Prelude.{Result, Ok, Err, false}
use Rattle.fix_tags.specs.Config.{ConfigParts}
use Rattle.leg.specs.declared.leg.Leg.{Leg}
use Rattle.resend.specs.declared.log_fault.LogFault.{LogFault}
use Rattle.resend.specs.declared.log_fault.LogFault.TheVariants.{OutOfMemory}
use Rattle.resend.specs.Log.{has_number, next_to_send, last_ordinal}
use Rattle.resend.specs.Log.Entry.{Admin, Sent}
use Rattle.leg.specs.Answering.{Answers}
use Rattle.resend.specs.Window.{OutLogParts, push}
use Rattle.session_core.specs.declared.phase.Phase.TheVariants.{LoggingOn, Up}
use Rattle.session_core.specs.declared.session_state.SessionState.{SessionState}
use Rattle.session_core.specs.declared.decision.Decision.{Decision}
use Rattle.session_core.specs.Session.{SessionParts, may_write}
use Rattle.session_core.specs.Calling.{doubted}
use Rattle.session_core.specs.Sound.{IsSound}
use Rattle.session_core.specs.Kept.{viewed, IsKept}
use Rattle.session_core.specs.Decision.{decided}
use Rattle.session_core.proofs.Sound.{sound-connecting, sound-sending}
use Rattle.session_core.proofs.DecidedTurn.{next-decided}
use Rattle.session_core.proofs.Framing.{pushed_admin, pushed_leg, wanting_leg}

-- what was decided on
pub kept-committed : (max_number : ℕ) (s : SessionParts) (decision : Decision) → IsKept max_number s
    → IsSound (decided s decision).session → IsKept max_number (decided s decision).session
kept-committed max_number s decision kept sound =
    (let counted = kept.counted in
    record {
      sound = sound;
      limit = kept.limit;
      counted = omega (arith, counted, next-decided s decision);
    })

-- a new connection
pub kept-begun : (config : ConfigParts) (old now : OutLogParts) (fences left : List ℕ) (connection logon_number : ℕ)
    (at : SessionState) (r : Result ℕ LogFault) → IsKept old.max_number (viewed config old.entries fences connection at)
    → may_write (viewed config old.entries fences connection at) ≡ true → (r, now) ≡ push Admin old
    → logon_number ≡ next_to_send old.entries → left ≡ []
    → IsKept now.max_number (viewed config now.entries left (connection + 1) (record at {
      phase = LoggingOn;
      logon_number = logon_number;
      closing_fence = None;
      requested = None;
      pending = false;
      silent = false;
    }))
kept-begun config old now fences left connection logon_number at r kept may is number none =
    (let s : SessionParts = viewed config old.entries fences connection at in
    let limit = kept.limit in
    let has : has_number old.max_number old.entries ≡ true = rw limit may in
    let counted = kept.counted in
    rw (pushed_admin old now r is has, number, none)
    (record {
      sound = sound-connecting s kept.sound may;
      limit = limit;
      counted = omega (arith, counted, length-append old.entries (Admin ∷ []));
    }))

-- a leg that is sent, or isn't for lack of memory
pub kept-logged : (config : ConfigParts) (old now : OutLogParts) (fences : List ℕ) (connection : ℕ) (at : SessionState)
    (ordinal : ℕ) (leg : Leg) (r : Result ℕ LogFault) → IsKept old.max_number (viewed config old.entries fences
    connection at)
    → at.phase ≡ Up → last_ordinal old.entries < ordinal
    → may_write (viewed config old.entries fences connection at) ≡ true
    → Answers OutOfMemory old (push (Sent (doubted ordinal leg)) old) r now
    → IsKept now.max_number (viewed config now.entries fences connection at)
kept-logged config old now fences connection at ordinal leg (Ok number) kept up above may is =
    (let s : SessionParts = viewed config old.entries fences connection at in
    let limit = kept.limit in
    let has : has_number old.max_number old.entries ≡ true = rw limit may in
    let counted = kept.counted in
    rw (pushed_leg (Sent (doubted ordinal leg)) old now number is has)
    (record {
      sound = sound-sending s kept.sound ordinal leg up may above;
      limit = limit;
      counted = omega (arith, counted, length-append old.entries (Sent (doubted ordinal leg) ∷ []));
    }))
kept-logged config old now fences connection at ordinal leg (Err fault) kept up above may is =
    (let limit = kept.limit in
    let has : has_number old.max_number old.entries ≡ true = rw limit may in
    rw (wanting_leg (Sent (doubted ordinal leg)) old now fault is has) kept)
