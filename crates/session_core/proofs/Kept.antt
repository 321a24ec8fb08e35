-- A turn keeps the session's promises, and what it writes can be written.
use Rattle.std.proofs.Common.{◌≡◌, ◌≤◌, ◌<◌, ◌+◌, ◌==◌, ℕ, suc, Bool, true, false, ◌&&◌, ◌||◌, not, nat_lt, nat_le, List, [], ◌∷◌, ◌++◌, length, decimal, Option, Some, None, refl, ◌∙◌, inl, inr, arith}
use Rattle.std.specs.Prelude.{IfSome}
use Rattle.std.specs.List.{AllByRecursion}
use Rattle.std.specs.Option.{option_map_or, option_and_then}
use Rattle.std.proofs.lemmas.Bool.{and_parts, and_from}
use Rattle.std.proofs.lemmas.Bool.Decides.{nat_tests}
use Rattle.std.proofs.lemmas.Fmt.{length-decimal-le}
use Rattle.fix_tags.specs.Config.{ConfigParts, IsConfig}
use Rattle.fix_tags.specs.Range.{is_range}
use Rattle.fix_tags.proofs.WritableFields.{is_writable_value-decimal}
use Rattle.leg.specs.LegId.{LegIdParts}
use Rattle.leg.specs.declared.leg_state.LegState.TheVariants.{Doubt}
use Rattle.dialect.specs.declared.note.Note.{Note}
use Rattle.dialect.specs.Addressed.{message_of, is_for}
use Rattle.dialect.specs.FreeText.{IsFreeText}
use Rattle.dialect.specs.declared.content.Content.{Content}
use Rattle.dialect.specs.declared.message.Message.{Message}
use Rattle.dialect.specs.Message.{is_logon}
use Rattle.dialect.specs.declared.content.Content.TheVariants.{Session, Order, ExecutionReport, Other}
use Rattle.fix_tags.specs.declared.session_body.SessionBody.TheVariants.{Logon, Heartbeat, TestRequest, ResendRequest, Reject, GapFill, Reset, Logout, BusinessReject}
use Rattle.dialect.specs.Outgoing.{alone}
use Rattle.dialect.specs.Writable.{IsNext, IsWritable, IsWritableContent}
use Rattle.resend.specs.declared.judged.Judged.{Judged}
use Rattle.resend.specs.declared.judged.Judged.TheVariants as judged
use Rattle.resend.specs.Judging.{judged}
use Rattle.resend.specs.Log.{Entry, GapFillParts, last_number, leg_at, fill_for}
use Rattle.resend.specs.Log.Entry.{Admin}
use Rattle.resend.specs.Later.{IsFillFor}
use Rattle.resend.proofs.Due.{due_is_expected}
use Rattle.resend.proofs.Ranges.{fill_is_for}
use Rattle.session_core.specs.declared.phase.Phase.{Phase}
use Rattle.session_core.specs.declared.phase.Phase.TheVariants.{Down, LoggingOn, Settling, Up, Closing, LoggedOut, Closed}
use Rattle.session_core.specs.declared.ended.Ended.{Ended}
use Rattle.session_core.specs.declared.ended.Ended.TheVariants as ended
use Rattle.session_core.specs.Session.{SessionParts, is_connected, is_logging_on, is_settling, is_logged_out, next_out, may_write}
use Rattle.session_core.specs.Turn.{Turn, quietly, with_session, fence_id, asking, puts, puts_fence, writes, writes_fence, asks, fills, settles_at, settling_at, counts, notes, logs_out, after_peer_logout, ends, ends_turn, unless_ended}
use Rattle.session_core.specs.Receiving.{is_reset, counts_if, told_number, is_too_high, has_passed, is_forgotten, settles_told, asks_if, in_phase, logon_row, filled_if, resend_while_settling, resend_later, resend_row, named_fence, passing, is_closing_fence, passed_in, passes_fence, answers_test, gap_fill_row, refused_leg, logout_row, report_note, in_turn, row, was_requested, asks_missing, asks_anew, by_number, received, hearing, receive}
use Rattle.session_core.specs.Sound.{EveryLeg, LegsAreBelow, LegsStand, HasNoDoubt, IsFence, IsBeforeUp, IsSound, IsReadContent, IsRead, AreWritable}
use Rattle.session_core.proofs.Adding.{chosen}
use Rattle.session_core.specs.Onward.{FillSpares, FillsSpareDoubt}
use Rattle.session_core.proofs.Legs.{below-no_doubt, legs-admin}
use Rattle.session_core.proofs.Told.{settled-no_doubt}
use Rattle.session_core.proofs.Sound.{all-map, all-append, named-holds, stands-up, stands-logged_out, sound-phase, sound-pending, sound-expected, sound-disconnected, sound-spending, sound-fenced, sound-passing, sound-settling_at}

-- a message to the peer, under a number that a message may have
pub writable : (config : ConfigParts) → IsConfig config → (number : ℕ) (poss_dup : Bool) (content : Content)
    → 1 ≤ number → number ≤ 999999998 → IsWritableContent None content
    → IsWritable (alone (message_of config number poss_dup content))
writable config is number poss_dup content from to says =
    record { from = is.me; to = is.peer; number_from = from; number_to = to; content = says }

-- the id of a fence is a text that can be written
pub fence_writable : (number : ℕ) → number ≤ 999999999 → IsFreeText 64 (fence_id number)
fence_writable number to =
    (let short : length (decimal number) ≤ 9 =
    length-decimal-le 9 number (omega arith) (omega (arith, to)) (omega (arith, to)) in
    let fits : nat_le (length (fence_id number)) 64 ≡ true = fits_in (length (decimal number)) short in
    let text =
    and_parts (not (length (decimal number) == 0)) _ (is_writable_value-decimal number (omega (arith, to))) in
    and_from (nat_le (length (fence_id number)) 64) _ fits
    (and_from (not (length (fence_id number) == 0)) _ (some (length (decimal number))) text.1))
  where
    fits_in : (n : ℕ) → n ≤ 9 → nat_le (suc n) 64 ≡ true
    fits_in n short = grind (arith, nat_tests, short)

    some : (n : ℕ) → not (suc n == 0) ≡ true
    some n = grind (arith, nat_tests)

-- a turn that keeps the promises, and whose gap fills stand for no leg in doubt
pub record Kept (t : Turn) : Type 0 where
  pub sound : IsSound t.session
  pub written : AreWritable t.step.written
  pub spares : FillsSpareDoubt t.session.log t.step.written

pub kept-quietly : (s : SessionParts) → IsSound s → Kept (quietly s)
kept-quietly s is = record { sound = is; written = tt; spares = tt }

-- the next number is one that a message may have, where one is left
pub next_writable : (s : SessionParts) → IsSound s → may_write s ≡ true → next_out s ≤ 999999998
next_writable s is may =
    (let below : next_out s < s.config.max_number = grind (arith, nat_tests, may) in
    let top = is.config.max_number in
    omega (arith, below, top))

one_more : (t : Turn) (m : Message) → AreWritable t.step.written → IsWritable (alone m)
    → AreWritable (t.step.written ++ m ∷ [])
one_more t m written says = all-append (λ m. IsWritable (alone m)) t.step.written (m ∷ []) written (says, tt)

-- a message that is no gap fill, under the next number
pub IsNoFill : Content → Type 0
IsNoFill content = (new_number : ℕ) → content ≡ Session (GapFill new_number) → ⊥

spares_next : (t : Turn) (content : Content) → IsNoFill content → FillsSpareDoubt t.session.log t.step.written
    → FillsSpareDoubt (t.session.log ++ Admin ∷ [])
    (t.step.written ++ message_of t.session.config (next_out t.session) false content ∷ [])
unfolding IsNoFill
spares_next t content no_fill spares =
    all-append (FillSpares (t.session.log ++ Admin ∷ [])) t.step.written _
    (all-map (FillSpares t.session.log) (FillSpares (t.session.log ++ Admin ∷ []))
    (λ m spare new_number is.
    legs-admin (λ number leg. m.number ≤ number → number < new_number → leg.state ≡ Doubt → ⊥) t.session.log
    (spare new_number is))
    t.step.written spares)
    (λ new_number is. absurd (no_fill new_number is), tt)

pub kept-puts : (content : Content) (t : Turn) → Kept t → may_write t.session ≡ true → IsWritableContent None content
    → IsNoFill content → Kept (puts content t)
kept-puts content t kept may says no_fill = record {
  sound = sound-spending t.session kept.sound may;
  spares = spares_next t content no_fill kept.spares;
  written =
      one_more t _ kept.written
      (writable t.session.config kept.sound.config (next_out t.session) false content (omega arith)
      (next_writable t.session kept.sound may) says);
}

pub kept-writes : (content : Content) (t : Turn) → Kept t → IsWritableContent None content → IsNoFill content
    → Kept (writes content t)
kept-writes content t kept says no_fill =
    chosen Kept (may_write t.session) (puts content t) t (λ may. kept-puts content t kept may says no_fill)
    (λ spent. kept)

pub fence_message : (s : SessionParts) → IsSound s → may_write s ≡ true
    → IsWritable (alone (message_of s.config (next_out s) false (Session (TestRequest (fence_id (next_out s))))))
fence_message s is may =
    (let low = next_writable s is may in
    writable s.config is.config (next_out s) false (Session (TestRequest (fence_id (next_out s)))) (omega arith) low
    (fence_writable (next_out s) (omega (arith, low))))

pub no_fill-heartbeat : (id : Option (List ℕ)) → IsNoFill (Session (Heartbeat id))
unfolding IsNoFill
no_fill-heartbeat id new_number is = absurd cc

no_fill-test : (id : List ℕ) → IsNoFill (Session (TestRequest id))
unfolding IsNoFill
no_fill-test id new_number is = absurd cc

no_fill-request : (begin last : ℕ) → IsNoFill (Session (ResendRequest begin last))
unfolding IsNoFill
no_fill-request begin last new_number is = absurd cc

no_fill-logout : IsNoFill (Session Logout)
unfolding IsNoFill
no_fill-logout new_number is = absurd cc

pub kept-puts_fence : (t : Turn) → Kept t → may_write t.session ≡ true → Kept (puts_fence t)
kept-puts_fence t kept may = record {
  sound = sound-fenced t.session kept.sound may;
  spares =
      spares_next t (Session (TestRequest (fence_id (next_out t.session)))) (no_fill-test (fence_id (next_out t.session)))
      kept.spares;
  written = one_more t _ kept.written (fence_message t.session kept.sound may);
}

kept-writes_fence : (t : Turn) → Kept t → Kept (writes_fence t)
kept-writes_fence t kept =
    chosen Kept (may_write t.session) (puts_fence t) t (λ may. kept-puts_fence t kept may) (λ spent. kept)

-- what was asked for is nothing that is promised
same_sound : (s : SessionParts) → IsSound s → IsSound (asking s)
same_sound s is = record {
  config = is.config;
  numbers = is.numbers;
  expected = is.expected;
  fences = is.fences;
  legs = is.legs;
  phase = is.phase;
}

kept-asks : (t : Turn) → Kept t → Kept (asks t)
kept-asks t kept =
    chosen Kept (may_write t.session) (puts (Session (ResendRequest t.session.expected 0)) (with_session (asking t.session) t)) t
    (λ may.
    (let asked : Kept (with_session (asking t.session) t) = record {
      sound = same_sound t.session kept.sound;
      written = kept.written;
      spares = kept.spares;
    } in
    kept-puts (Session (ResendRequest t.session.expected 0)) (with_session (asking t.session) t) asked may
    (kept.sound.expected.to, omega arith) (no_fill-request t.session.expected 0)))
    (λ spent. kept)

kept-asks_if : (wanted : Bool) (t : Turn) → Kept t → Kept (asks_if wanted t)
kept-asks_if true t kept = kept-asks t kept
kept-asks_if false t kept = kept

-- the legs that a gap fill stands for aren't in doubt
IsSpared : List Entry → GapFillParts → Type 0
IsSpared log fill = EveryLeg log (λ number leg. number < fill.new_number → leg.state ≡ Doubt → ⊥)

spares_fill : (log : List Entry) (config : ConfigParts) (fill : GapFillParts) → IsSpared log fill
    → FillSpares log (message_of config fill.first true (Session (GapFill fill.new_number)))
unfolding IsSpared
spares_fill log config fill spared new_number is number leg there low below doubt =
    (let same : fill.new_number ≡ new_number = cc in spared number leg there (omega (arith, same, below)) doubt)

spared_all : (log : List Entry) (fill : GapFillParts) → HasNoDoubt log → IsSpared log fill
unfolding IsSpared
spared_all log fill none number leg there below doubt = none number leg there doubt

spared_settled : (settled : ℕ) (log : List Entry) (fill : GapFillParts) → LegsStand settled log
    → fill.new_number ≤ settled + 1 → IsSpared log fill
unfolding IsSpared
spared_settled settled log fill stand top number leg there below doubt =
    (let above = stand.doubt number leg there doubt in absurd (omega (arith, above, below, top)))

-- a gap fill over numbers that were sent
kept-fills : (fill : GapFillParts) (t : Turn) → Kept t → 1 ≤ fill.first → fill.first < fill.new_number
    → fill.new_number ≤ 999999999 → IsSpared t.session.log fill → Kept (fills fill t)
kept-fills fill t kept from forward to spared = record {
  sound = kept.sound;
  spares =
      all-append (FillSpares t.session.log) t.step.written _ kept.spares
      (spares_fill t.session.log t.session.config fill spared, tt);
  written =
      one_more t _ kept.written
      (writable t.session.config kept.sound.config fill.first true (Session (GapFill fill.new_number)) from
      (omega (arith, forward, to)) to);
}

next_reference : (s : SessionParts) → IsSound s → next_out s ≤ 999999999
next_reference s is =
    (let limited = is.numbers.limited in let top = is.config.max_number in omega (arith, limited, top))

kept-filled : (s : SessionParts) → IsSound s → (begin last top : ℕ) (fill : GapFillParts)
    → IsFillFor begin last top s.log fill → (t : Turn) → Kept t → IsSpared t.session.log fill → Kept (fills fill t)
kept-filled s is begin last top fill for t kept spared =
    (let sent = for.was_sent in
    let limited = next_reference s is in
    kept-fills fill t kept for.from_one for.forward (omega (arith, sent, limited)) spared)

-- the connection ends
kept-ends_turn : (why : Ended) (t : Turn) → Kept t → Kept (ends_turn why t)
kept-ends_turn why t kept =
    record {
      sound = sound-disconnected t.session kept.sound (after_peer_logout why);
      written = kept.written;
      spares = kept.spares;
    }

pub kept-ends : (why : Ended) (s : SessionParts) → IsSound s → Kept (ends why s)
kept-ends why s is = kept-ends_turn why (quietly s) (kept-quietly s is)

kept-unless_ended : (next : Turn → Turn) (t : Turn) (ended : Option Ended) → Kept t → Kept (next t)
    → Kept (unless_ended next t ended)
kept-unless_ended next t None kept on = on
kept-unless_ended next t (Some why) kept on = kept

kept-asks_missing : (t : Turn) → Kept t → Kept (asks_missing t)
kept-asks_missing t kept =
    kept-unless_ended asks_anew t t.step.ended kept
    (chosen Kept (is_logged_out t.session.phase || was_requested t.session) t (asks t) (λ over. kept)
    (λ anew. kept-asks t kept))

-- a turn in which no note is pending and the expected number is no higher than this
record Good (top : ℕ) (t : Turn) : Type 0 where
  kept : Kept t
  heard : t.session.current.pending ≡ false
  expected : t.session.expected ≤ top

module _ (top : ℕ) where
  good-writes : (content : Content) (t : Turn) → Good top t → IsWritableContent None content → IsNoFill content
      → Good top (writes content t)
  good-writes content t good says no_fill =
      chosen (Good top) (may_write t.session) (puts content t) t
      (λ may. record {
        kept = kept-puts content t good.kept may says no_fill;
        heard = good.heard;
        expected = good.expected;
      })
      (λ spent. good)

  good-writes_fence : (t : Turn) → Good top t → Good top (writes_fence t)
  good-writes_fence t good =
      chosen (Good top) (may_write t.session) (puts_fence t) t
      (λ may. record { kept = kept-puts_fence t good.kept may; heard = good.heard; expected = good.expected })
      (λ spent. good)

  good-quietly : (s : SessionParts) → IsSound s → s.current.pending ≡ false → s.expected ≤ top → Good top (quietly s)
  good-quietly s is heard below = record { kept = kept-quietly s is; heard = heard; expected = below }

  good-ends : (why : Ended) (s : SessionParts) → IsSound s → s.expected ≤ top → Good top (ends why s)
  good-ends why s is below = record { kept = kept-ends why s is; heard = refl; expected = below }

  good-settles_at : (number : ℕ) (s : SessionParts) → IsSound s → s.current.pending ≡ false → s.expected ≤ top
      → Good top (settles_at number s)
  good-settles_at number s is heard below =
      record {
        kept = record { sound = sound-settling_at s is number; written = tt; spares = tt };
        heard = heard;
        expected = below;
      }

  -- the Logout, once no leg is in doubt
  good-logs_out : (s : SessionParts) → IsSound s → s.current.pending ≡ false → s.expected ≤ top → HasNoDoubt s.log
      → Good top (logs_out s)
  good-logs_out s is heard below none =
      (let out : SessionParts = record s { phase = LoggedOut } in
      let out_is : IsSound out =
      sound-phase s is LoggedOut (stands-logged_out s.log s.current.fences s.current.closing_fence none) in
      chosen (λ (t : Turn). Good top (with_session (record t.session { phase = LoggedOut }) t)) (may_write s)
      (puts (Session Logout) (quietly s)) (quietly s)
      (λ may. record {
        kept = kept-puts (Session Logout) (quietly out) (kept-quietly out out_is) may tt no_fill-logout;
        heard = heard;
        expected = below;
      })
      (λ spent. good-quietly out out_is heard below))

-- the message is counted, below the last number
kept-counts : (t : Turn) → Good 999999998 t → Kept (counts t)
kept-counts t good =
    (let below = good.expected in
    record {
      sound =
          sound-expected t.session good.kept.sound (t.session.expected + 1) good.heard (omega arith)
          (omega (arith, below));
      written = good.kept.written;
      spares = good.kept.spares;
    })

kept-counts_if : (due : Bool) (top : ℕ) → (due ≡ true → top ≡ 999999998) → (t : Turn) → Good top t
    → Kept (counts_if due t)
kept-counts_if true top is t good =
    (let same : top ≡ 999999998 = is refl in
    let low : Good 999999998 t = (let below = good.expected in record {
      kept = good.kept;
      heard = good.heard;
      expected = omega (arith, same, below);
    }) in
    kept-unless_ended counts t t.step.ended good.kept (kept-counts t low))
kept-counts_if false top is t good = good.kept

-- parts of a turn that leave the phase as it is
phase-settles_told : (s : SessionParts) (next : Option ℕ) → (settles_told s next).session.phase ≡ s.phase
phase-settles_told s None = refl
phase-settles_told s (Some n) =
    chosen (λ (t : Turn). t.session.phase ≡ s.phase) (nat_le n s.current.logon_number) _ _ (λ lower. refl)
    (λ higher. refl)

phase-counts_if : (due : Bool) (t : Turn) → (counts_if due t).session.phase ≡ t.session.phase
phase-counts_if true t = by_end t.step.ended
  where
    by_end : (ended : Option Ended) → (unless_ended counts t ended).session.phase ≡ t.session.phase
    by_end None = refl
    by_end (Some why) = refl
phase-counts_if false t = refl

phase-asks_if : (wanted : Bool) (t : Turn) → (asks_if wanted t).session.phase ≡ t.session.phase
phase-asks_if true t =
    chosen (λ (u : Turn). u.session.phase ≡ t.session.phase) (may_write t.session) _ t (λ may. refl) (λ spent. refl)
phase-asks_if false t = refl

phase-writes_fence : (t : Turn) → (writes_fence t).session.phase ≡ t.session.phase
phase-writes_fence t =
    chosen (λ (u : Turn). u.session.phase ≡ t.session.phase) (may_write t.session) _ t (λ may. refl) (λ spent. refl)

-- from LoggingOn to Settling
kept-settling : (t : Turn) → Kept t → t.session.phase ≡ LoggingOn → Kept (in_phase Settling t)
kept-settling t kept was =
    (let now = kept.sound.phase in
    record {
      sound =
          sound-phase t.session kept.sound Settling
          (record {
            before_up = λ is. now.before_up (inl was);
            closing = λ is. absurd cc;
            logged_out = λ is. absurd cc;
          });
      written = kept.written;
      spares = kept.spares;
    })

is_first : (phase : Phase) → not (is_logging_on phase) ≡ false → phase ≡ LoggingOn
is_first LoggingOn is = refl
is_first Down is = absurd cc
is_first Settling is = absurd cc
is_first Up is = absurd cc
is_first Closing is = absurd cc
is_first LoggedOut is = absurd cc
is_first Closed is = absurd cc

-- one row of what is received: nothing is pending, and a message that is due is below the last number
module _ (s : SessionParts) (is : IsSound s) (heard : s.current.pending ≡ false) (due : Bool) (top : ℕ)
    (below : s.expected ≤ top) (due_is : due ≡ true → top ≡ 999999998) where
  good-settles_told : (next : Option ℕ) → IsNext next → Good top (settles_told s next)
  good-settles_told None says = good-quietly top s is heard below
  good-settles_told (Some n) says =
      chosen (Good top) (nat_le n s.current.logon_number) _ (settles_at n s)
      (λ lower.
      (let settled = good-settles_at top n s is heard below in
      let sent = is.numbers.logon_sent in
      let limited = next_reference s is in
      let le : n ≤ s.current.logon_number = grind (arith, nat_tests, lower) in
      let fill : GapFillParts = record { first = n; new_number = s.current.logon_number + 1 } in
      record {
        kept =
            kept-fills fill (settles_at n s) settled.kept says.0 (omega (arith, le)) (omega (arith, sent, limited))
            (spared_all (settling_at n s).log fill (settled-no_doubt n s.log));
        heard = heard;
        expected = below;
      }))
      (λ higher. good-settles_at top n s is heard below)

  next_told : (next : Option ℕ) → IsNext next → IsNext (told_number s next)
  next_told next says = chosen IsNext s.config.has_next next None (λ has. says) (λ has_not. tt)

  kept-logon : (next : Option ℕ) → IsNext next → Kept (logon_row due s next)
  kept-logon next says =
      chosen Kept (not (is_logging_on s.phase)) (ends ended.LogonAgain s) _
      (λ again. kept-ends ended.LogonAgain s is)
      (λ first. chosen Kept (is_too_high s (told_number s next)) (ends ended.BadNextExpected s) _
      (λ high. kept-ends ended.BadNextExpected s is)
      (λ low. chosen Kept (is_forgotten s (told_number s next)) (ends ended.PeerForgot s) _
      (λ forgot. kept-ends ended.PeerForgot s is)
      (λ good.
      (let told = settles_told s (told_number s next) in
      let counted = counts_if due told in
      let asked = asks_if (not due) counted in
      kept-settling (writes_fence asked)
      (kept-writes_fence asked
      (kept-asks_if (not due) counted
      (kept-counts_if due top due_is told (good-settles_told (told_number s next) (next_told next says)))))
      (phase-writes_fence asked
      ∙ (phase-asks_if (not due) counted
      ∙ (phase-counts_if due told
      ∙ (phase-settles_told s (told_number s next) ∙ is_first s.phase first))))))))

  good-filled_if : (begin last upto : ℕ) (fill : Option GapFillParts) → IfSome fill (IsFillFor begin last upto s.log)
      → (t : Turn) → Good top t → HasNoDoubt t.session.log → Good top (filled_if fill t)
  good-filled_if begin last upto None for t good none = good
  good-filled_if begin last upto (Some fill) for t good none = record {
    kept = kept-filled s is begin last upto fill for t good.kept (spared_all t.session.log fill none);
    heard = good.heard;
    expected = good.expected;
  }

  -- no leg up to the settled number is in doubt
  good-resend_later : (begin last : ℕ) (fill : Option GapFillParts)
      → IfSome fill (IsFillFor begin last s.settled s.log) → Good top (resend_later fill s)
  good-resend_later begin last None for = good-ends top ended.ResendInDoubt s is below
  good-resend_later begin last (Some fill) for = record {
    kept = kept-filled s is begin last s.settled fill for (quietly s) (kept-quietly s is)
        (spared_settled s.settled s.log fill is.legs for.below_top);
    heard = heard;
    expected = below;
  }

  kept-resend : (begin last : ℕ) → Kept (resend_row due s begin last)
  kept-resend begin last =
      chosen Kept (not (is_range (last_number s.log) begin last)) (ends ended.BadResend s) _
      (λ bad. kept-ends ended.BadResend s is)
      (λ sent. chosen Kept (is_settling s.phase && has_passed s begin) (ends ended.PeerForgot s) _
      (λ forgot. kept-ends ended.PeerForgot s is)
      (λ good.
      kept-counts_if due top due_is _
      (chosen (Good top) (is_settling s.phase) (resend_while_settling s begin last)
      (resend_later (fill_for begin last s.settled s.log) s)
      (λ settling.
      good-writes_fence top _
      (good-filled_if begin last (last_number s.log) (fill_for begin last (last_number s.log) s.log)
      (fill_is_for begin last (last_number s.log) s.log)
      (settles_at begin s) (good-settles_at top begin s is heard below) (settled-no_doubt begin s.log)))
      (λ later.
      good-resend_later begin last (fill_for begin last s.settled s.log)
      (fill_is_for begin last s.settled s.log)))))

  -- a fence that is answered
  closes_at : (closing : Option ℕ) (fence z : ℕ) → option_map_or (λ n. nat_le n fence) closing false ≡ true
      → closing ≡ Some z → z ≤ fence
  closes_at None fence z done is = absurd cc
  closes_at (Some n) fence z done is = (let same : n ≡ z = cc in grind (arith, nat_tests, done, same))

  good-passed_in : (fence : ℕ) (phase : Phase) → s.phase ≡ phase → IsFence s.settled s.log fence
      → (IsBeforeUp s.phase → LegsAreBelow fence s.log)
      → Good top (passed_in phase fence (passing fence s))
  good-passed_in fence Settling now here under =
      chosen (Good top) s.close_asked (logs_out (passing fence s)) (quietly (record (passing fence s) { phase = Up }))
      (λ asked.
      good-logs_out top (passing fence s) (sound-passing s is fence here) heard below
      (below-no_doubt fence s.log (under (inr now))))
      (λ open_still.
      (let up : SessionParts = record (passing fence s) { phase = Up } in
      good-quietly top up
      (sound-phase (passing fence s) (sound-passing s is fence here) Up (stands-up _ _ _)) heard below))
  good-passed_in fence Closing now here under =
      chosen (Good top) (is_closing_fence s fence) (logs_out (passing fence s)) (quietly (passing fence s))
      (λ done.
      (let close = is.phase.closing now in
      let higher = closes_at s.current.closing_fence fence close.0 done close.1 in
      good-logs_out top (passing fence s) (sound-passing s is fence here) heard below
      (below-no_doubt fence s.log
      (λ number leg there. (let lower = close.2 number leg there in omega (arith, lower, higher))))))
      (λ early. good-quietly top (passing fence s) (sound-passing s is fence here) heard below)
  good-passed_in fence Down now here under =
      good-quietly top (passing fence s) (sound-passing s is fence here) heard below
  good-passed_in fence LoggingOn now here under =
      good-quietly top (passing fence s) (sound-passing s is fence here) heard below
  good-passed_in fence Up now here under =
      good-quietly top (passing fence s) (sound-passing s is fence here) heard below
  good-passed_in fence LoggedOut now here under =
      good-quietly top (passing fence s) (sound-passing s is fence here) heard below
  good-passed_in fence Closed now here under =
      good-quietly top (passing fence s) (sound-passing s is fence here) heard below

  good-passes : (found : Option ℕ) → ((fence : ℕ) → found ≡ Some fence → IsFence s.settled s.log fence)
      → ((fence : ℕ) → found ≡ Some fence → IsBeforeUp s.phase → LegsAreBelow fence s.log)
      → Good top (passes_fence s found)
  good-passes None here under = good-quietly top s is heard below
  good-passes (Some fence) here under = good-passed_in fence s.phase refl (here fence refl) (under fence refl)

  named_of : (P : ℕ → Type 0) → AllByRecursion P s.current.fences → (id : Option (List ℕ)) (fence : ℕ)
      → named_fence s id ≡ Some fence → P fence
  named_of P all None fence named = absurd cc
  named_of P all (Some text) fence named = named-holds P text s.current.fences fence all named

  kept-heartbeat : (id : Option (List ℕ)) → Kept (counts_if due (passes_fence s (named_fence s id)))
  kept-heartbeat id =
      kept-counts_if due top due_is (passes_fence s (named_fence s id))
      (good-passes (named_fence s id)
      (named_of (IsFence s.settled s.log) is.fences id)
      (λ fence named before. named_of (λ fence. LegsAreBelow fence s.log) (is.phase.before_up before) id fence named))

  -- what is only done in its turn
  due_low : (top : ℕ) → s.expected ≤ top → top ≡ 999999998 → s.expected ≤ 999999998
  due_low top below same = omega (arith, below, same)

  kept-in_turn : (t : Turn) → (s.expected ≤ 999999998 → Kept t) → Kept (in_turn due s t)
  kept-in_turn t kept =
      chosen Kept due t (quietly s) (λ now. kept (due_low top below (due_is now))) (λ ahead. kept-quietly s is)

  counted_low : s.expected ≤ 999999998 → Kept (counts (quietly s))
  counted_low low = kept-counts (quietly s) (good-quietly 999999998 s is heard low)

  kept-test : (id : List ℕ) → IsFreeText 64 id → s.expected ≤ 999999998 → Kept (counts (answers_test s id))
  kept-test id says low =
      kept-counts (answers_test s id)
      (chosen (Good 999999998) (is_logged_out s.phase) (quietly s) (writes (Session (Heartbeat (Some id))) (quietly s))
      (λ over. good-quietly 999999998 s is heard low)
      (λ going. good-writes 999999998 (Session (Heartbeat (Some id))) (quietly s) (good-quietly 999999998 s is heard low) says
      (no_fill-heartbeat (Some id))))

  kept-gap_fill : (number new_number : ℕ) → new_number ≤ 999999999 → Kept (gap_fill_row s number new_number)
  kept-gap_fill number new_number to =
      chosen Kept (nat_lt number new_number) (quietly (record s { expected = new_number })) (ends ended.BadGapFill s)
      (λ forward.
      (let from : 1 ≤ new_number = grind (arith, nat_tests, forward) in
      kept-quietly (record s { expected = new_number }) (sound-expected s is new_number heard from to)))
      (λ back. kept-ends ended.BadGapFill s is)

  kept-notes : (note : Note) → s.expected ≤ 999999998 → Kept (notes note s)
  kept-notes note low = record { sound = sound-pending s is true (λ noted. low); written = tt; spares = tt }

  kept-refused_leg : (id : Option LegIdParts) → s.expected ≤ 999999998 → Kept (refused_leg s id)
  kept-refused_leg (Some id) low = kept-notes _ low
  kept-refused_leg None low = counted_low low

  kept-logout : Kept (logout_row s)
  kept-logout =
      chosen Kept (is_logged_out s.phase) (ends ended.LogoutDone s)
      (ends_turn ended.PeerLogout (writes (Session Logout) (quietly s)))
      (λ done. kept-ends ended.LogoutDone s is)
      (λ first.
      kept-ends_turn ended.PeerLogout (writes (Session Logout) (quietly s))
      (kept-writes (Session Logout) (quietly s) (kept-quietly s is) tt no_fill-logout))

  kept-row : (number : ℕ) (content : Content) → IsReadContent content → Kept (row due s number content)
  kept-row number (Session (Logon heart reset next)) says = kept-logon next says
  kept-row number (Session (ResendRequest begin last)) says = kept-resend begin last
  kept-row number (Session (Heartbeat id)) says = kept-heartbeat id
  kept-row number (Session (TestRequest id)) says = kept-in_turn _ (kept-test id says)
  kept-row number (Session (GapFill new_number)) says = kept-in_turn _ (λ low. kept-gap_fill number new_number says)
  kept-row number (Session (Reject refused)) says =
      kept-in_turn _ (kept-refused_leg (leg_at refused s.log))
  kept-row number (Session (BusinessReject refused)) says =
      kept-in_turn _ (kept-refused_leg (option_and_then (λ n. leg_at n s.log) refused))
  kept-row number (Session Logout) says = kept-logout
  kept-row number (ExecutionReport read) says = kept-in_turn _ (kept-notes (report_note read))
  kept-row number (Session (Reset new_number)) says = kept-in_turn _ counted_low
  kept-row number (Order read) says = kept-in_turn _ counted_low
  kept-row number Other says = kept-in_turn _ counted_low

-- a message that is received
kept-by_number : (s : SessionParts) → IsSound s → s.current.pending ≡ false → (m : Message) → IsRead m → (how : Judged)
    → judged s.expected m.number m.poss_dup ≡ how → Kept (by_number s m how)
kept-by_number s is heard m read judged.Due so =
    (let same : m.number ≡ s.expected = (due_is_expected s.expected m.number m.poss_dup).0 so in
    let low = read.number in
    kept-row s is heard true 999999998 (omega (arith, same, low)) (λ due. refl) m.number m.content read.content)
kept-by_number s is heard m read judged.Ahead so =
    kept-asks_missing (row false s m.number m.content)
    (kept-row s is heard false 999999999 is.expected.to (λ due. absurd cc) m.number m.content read.content)
kept-by_number s is heard m read judged.Repeat so = kept-quietly s is
kept-by_number s is heard m read judged.TooLow so = kept-ends ended.TooLow s is

kept-received : (s : SessionParts) → IsSound s → s.current.pending ≡ false → (m : Message) → IsRead m
    → Kept (received s m)
kept-received s is heard m read =
    chosen Kept (not (is_for s.config m)) (ends ended.WrongComp s) _
    (λ wrong. kept-ends ended.WrongComp s is)
    (λ ours. chosen Kept (is_logging_on s.phase && not (is_logon m.content)) (ends ended.FirstNotLogon s) _
    (λ early. kept-ends ended.FirstNotLogon s is)
    (λ on. chosen Kept (is_reset m.content) (ends ended.ResetRefused s) _
    (λ reset. kept-ends ended.ResetRefused s is)
    (λ goes_on. kept-by_number s is heard m read (judged s.expected m.number m.poss_dup) refl)))

hearing_sound : (s : SessionParts) → IsSound s → IsSound (hearing s)
hearing_sound s is = record {
  config = is.config;
  numbers = is.numbers;
  expected = record { from = is.expected.from; to = is.expected.to; pending = λ noted. absurd cc };
  fences = is.fences;
  legs = is.legs;
  phase = is.phase;
}

pub kept-receive : (s : SessionParts) (m : Message) → IsSound s → IsRead m → Kept (receive s m)
kept-receive s m is read =
    chosen Kept (is_connected s.phase) (received (hearing s) m) (quietly s)
    (λ on. kept-received (hearing s) (hearing_sound s is) refl m read)
    (λ off. kept-quietly s is)
