-- The close is kept by every part of a step.
use Rattle.std.proofs.Common.{◌≡◌, ◌<◌, ◌⊎◌, ◌||◌, ℕ, suc, Bool, true, false, List, [], ◌∷◌, ◌++◌, length, Option, Some, None, Ok, refl, sym, ap, subst, ◌∙◌, inl, inr, arith}
use Rattle.std.specs.Prelude.{IfSome, nat_lt}
use Rattle.std.specs.List.{Contains}
use Rattle.std.proofs.lemmas.Option.{same_Some}
use Rattle.std.proofs.lemmas.List.Elements.{All-contains, Contains-append_left, Contains-append_cases, Contains-push_cases}
use Rattle.leg.specs.declared.leg.Leg.{Leg}
use Rattle.leg.specs.declared.leg_state.LegState.TheVariants.{Taken}
use Rattle.dialect.specs.declared.note.Note.{Note}
use Rattle.dialect.specs.declared.content.Content.{Content}
use Rattle.dialect.specs.declared.content.Content.TheVariants.{Session, Order}
use Rattle.fix_tags.specs.declared.session_body.SessionBody.TheVariants.{TestRequest, GapFill, Logout}
use Rattle.resend.specs.Log.{Entry, SentLeg, take_below}
use Rattle.resend.specs.Log.Entry.{Admin, Sent}
use Rattle.session_core.specs.declared.phase.Phase.{Phase}
use Rattle.session_core.specs.declared.phase.Phase.TheVariants as phase
use Rattle.session_core.specs.Session.{SessionParts, next_out, is_connected, is_logged_out}
use Rattle.session_core.specs.Turn.{spending, fenced, fence_id, phase_after, settling_at}
use Rattle.session_core.specs.Receiving.{passing}
use Rattle.session_core.specs.Calling.{connecting, sending}
use Rattle.session_core.proofs.Adding.{chosen}
use Rattle.exchange_core.specs.Acceptance.{Carried, Intake, RuleState, HasTakenLogout, Takes, MayMove, MayWrite, MaySay, May}
use Rattle.exchange_core.specs.Acceptance as rules
use Rattle.venue_line.specs.Line.{Line}
use Rattle.venue_line.specs.Copies.{IsLegAt, IsBeforeUp, IsReportOrRefusal, Copies}
use Rattle.venue_line.specs.Close.{HasNoDoubt, IsMark, Close}
use Rattle.venue_line.specs.LineTheorem.{IsOver}
use Rattle.venue_line.proofs.Logs.{numbered_within, goes_push, was_settled, give_up_back, give_up_sure, take_below_sure}
use Rattle.venue_line.proofs.Kept.{own_kept}
use Rattle.venue_line.proofs.Answered.{closing_low}
use Rattle.venue_line.proofs.FencesKept.{fewer_fences}
use Rattle.venue_line.proofs.Parts.{Calls, with_marks, framed, with_session, Hears, IsAnswered, IsLastFence, IsPlainAdmin, passed_into}

-- while the session is closing, each leg is below the fence of the close
abbrev IsBelowClosing : SessionParts → List Entry → Type 0
IsBelowClosing s log =
    (number closing : ℕ) (leg : SentLeg) → s.phase ≡ phase.Closing → IsLegAt log number leg
    → s.current.closing_fence ≡ Some closing → number < closing

-- how a session goes on that is over
pub record GoesOn (old new : SessionParts) : Type 0 where
  pub over : IsOver new.phase
  pub same : new.connection ≡ old.connection
  pub none : HasNoDoubt old.log → HasNoDoubt new.log
  pub back : (number : ℕ) (leg : SentLeg) → IsLegAt new.log number leg
      → (was : SentLeg) × IsLegAt old.log number was

-- with the log that it had
pub stays_over : (old new : SessionParts) → new.log ≡ old.log → new.connection ≡ old.connection → IsOver new.phase
    → GoesOn old new
stays_over old new log same over = record {
  over = over;
  same = same;
  none = λ none number leg is. none number leg (subst (λ l. IsLegAt l number leg) log is);
  back = λ number leg is. (leg, subst (λ l. IsLegAt l number leg) log is);
}

-- no Logout is written, and a session that is over stays so
pub record Goes (b : Line) (s : SessionParts) (to : List Carried) : Type 0 where
  pub over : IsOver b.session.phase → GoesOn b.session s
  pub frames : (m : Carried) → Contains to m → m.content ≡ (Session Logout) → Contains b.to_exchange m
  pub on : (m : Carried) → Contains b.to_exchange m → Contains to m
  pub above : (number fence : ℕ) (leg : SentLeg) → IsBeforeUp s.phase → IsLegAt s.log number leg
      → Contains s.current.fences fence → number < fence
  pub closing : IsBelowClosing s s.log
  pub out : s.phase ≡ phase.LoggedOut → HasNoDoubt s.log

pub close_goes : {waiting : Option Note} (b : Line) (released : List Leg) (left : ℕ) (s : SessionParts)
    (to : List Carried) (given : List Note) → Goes b s to → Close b
    → Close
    (record b {
      released = released;
      left = left;
      session = s;
      to_exchange = to;
      waiting = waiting;
      given = given;
    })
close_goes b released left s to given goes c = record {
  fence_above = goes.above;
  closing_above = goes.closing;
  logout_is_last = λ m there is.
      (let old = c.logout_is_last m (goes.frames m there is) is in
      let now = goes.over old.over in
      record {
        over = now.over;
        present = old.present ∙ sym now.same;
        above = λ number leg at. (let was = now.back number leg at in old.above number was.0 was.1);
        sure = elim old.sure [
          | inl first ↦ inl (subst (Contains b.exchange.unasked) (sym now.same) first)
          | inr none ↦ inr (now.none none)
        ];
      });
  marked = λ count is.
      (let mark = c.marked count is in
      let now = goes.over (c.logout_is_last mark.logout mark.written mark.says).over in
      record {
        all = mark.all;
        down = mark.down;
        last = mark.last ∙ sym now.same;
        logout = mark.logout;
        written = goes.on mark.logout mark.written;
        says = mark.says;
        passed = mark.passed;
      });
  logout_heard = c.logout_heard;
  out_no_doubt = goes.out;
}

-- where nothing is written
unwritten : (b : Line) (s : SessionParts)
    → (IsOver b.session.phase → GoesOn b.session s)
    → ((number fence : ℕ) (leg : SentLeg) → IsBeforeUp s.phase → IsLegAt s.log number leg
    → Contains s.current.fences fence → number < fence)
    → IsBelowClosing s s.log → (s.phase ≡ phase.LoggedOut → HasNoDoubt s.log) → Goes b s b.to_exchange
unwritten b s over above closing out =
    record {
      over = over;
      frames = λ m there is. there;
      on = λ m there. there;
      above = above;
      closing = closing;
      out =
          out;
    }

-- where a message is written that is no Logout
one_written : (b : Line) (s : SessionParts) (number : ℕ) (content : Content) → (content ≡ (Session Logout) → ⊥)
    → (IsOver b.session.phase → GoesOn b.session s)
    → ((number fence : ℕ) (leg : SentLeg) → IsBeforeUp s.phase → IsLegAt s.log number leg
    → Contains s.current.fences fence → number < fence)
    → IsBelowClosing s s.log → (s.phase ≡ phase.LoggedOut → HasNoDoubt s.log)
    → Goes b s (b.to_exchange ++ record { connection = s.connection; number = number; content = content } ∷ [])
one_written b s number content other over above closing out =
    let frame : Carried = record { connection = s.connection; number = number; content = content } in
    record {
      over = over;
      frames = λ m there is. elim (Contains-push_cases b.to_exchange frame m there)
          [ inl old ↦ old | inr new ↦ absurd (other (ap (λ (x : Carried). x.content) new ∙ is)) ];
      on = λ m there. Contains-append_left b.to_exchange (frame ∷ []) m there;
      above = above;
      closing = closing;
      out = out;
    }

-- a message of the session leaves the legs as they are
pub spent_no_doubt : (log : List Entry) → HasNoDoubt log → HasNoDoubt (log ++ Admin ∷ [])
spent_no_doubt log none number leg is doubt = none number leg (goes_push log number leg is) doubt

pub took_no_doubt : (least : ℕ) (log : List Entry) → HasNoDoubt log → HasNoDoubt (take_below least log)
took_no_doubt least log none number leg is doubt =
    (let was = was_settled (λ n. nat_lt n least) Taken number log leg is in
    elim was.settled [
      | inl same ↦ none number was.leg was.there (sym same ∙ doubt)
      | inr settled ↦
          (let e = sym settled.1 ∙ doubt in cc)
    ])

pub took_back : (least : ℕ) (log : List Entry) (number : ℕ) (leg : SentLeg) → IsLegAt (take_below least log) number leg
    → (was : SentLeg) × IsLegAt log number was
took_back least log number leg is = let was = was_settled (λ n. nat_lt n least) Taken number log leg is in
    (was.leg, was.there)

spends : (b : Line) (s : SessionParts) (content : Content) → (content ≡ (Session Logout) → ⊥)
    → s.log ≡ b.session.log ++ Admin ∷ [] → s.phase ≡ b.session.phase → s.connection ≡ b.session.connection
    → s.current.closing_fence ≡ b.session.current.closing_fence
    → ((fence : ℕ) → Contains s.current.fences fence
    → Contains b.session.current.fences fence ⊎ (fence ≡ next_out b.session)) → Close b
    → Close (framed (next_out b.session) content s b)
spends b s content other log same connection closing fences c =
    let back : (number : ℕ) (leg : SentLeg) → IsLegAt s.log number leg → IsLegAt b.session.log number leg =
    λ number leg is. goes_push b.session.log number leg (subst (λ l. IsLegAt l number leg) log is) in
    close_goes b b.released b.left s _ b.given
    (one_written b s (next_out b.session) content other
    (λ over. record {
      over = subst IsOver (sym same) over;
      same = connection;
      none = λ none number leg is doubt. none number leg (back number leg is) doubt;
      back = λ number leg is. (leg, back number leg is);
    })
    (λ number fence leg early is there.
    elim (fences fence there) [
      | inl old ↦ c.fence_above number fence leg (subst IsBeforeUp same early) (back number leg is) old
      | inr new ↦ (let within = numbered_within number b.session.log (Sent leg) (back number leg is) in omega arith)
    ])
    (λ number wanted leg now is mark. c.closing_above number wanted leg (sym same ∙ now) (back number leg is)
    (sym closing ∙ mark))
    (λ now number leg is doubt. c.out_no_doubt (sym same ∙ now) number leg (back number leg is) doubt)) c

fills : (b : Line) (first new_number : ℕ) → Close b → Close (framed first (Session (GapFill new_number)) b.session b)
fills b first new_number c =
    close_goes b b.released b.left b.session _ b.given
    (one_written b b.session first (Session (GapFill new_number)) (λ is. cc)
    (stays_over b.session b.session refl refl) c.fence_above c.closing_above c.out_no_doubt) c

-- the phase alone, or the mark of the close's fence with it
turns : (b : Line) (s : SessionParts) → s.log ≡ b.session.log → s.connection ≡ b.session.connection
    → ((fence : ℕ) → Contains s.current.fences fence → Contains b.session.current.fences fence)
    → (IsOver b.session.phase → IsOver s.phase)
    → (IsBeforeUp s.phase → IsBeforeUp b.session.phase) → IsBelowClosing s b.session.log
    → (s.phase ≡ phase.LoggedOut → HasNoDoubt b.session.log) → Close b → Close (record b { session = s })
turns b s log connection fences over early closing out c =
    let at : (number : ℕ) (leg : SentLeg) → IsLegAt s.log number leg → IsLegAt b.session.log number leg =
    λ number leg is. subst (λ l. IsLegAt l number leg) log is in
    close_goes b b.released b.left s b.to_exchange b.given
    (unwritten b s
    (λ is. stays_over b.session s log connection (over is))
    (λ number fence leg now is there. c.fence_above number fence leg (early now) (at number leg is)
    (fences fence there))
    (λ number wanted leg now is mark. closing number wanted leg now (at number leg is) mark)
    (λ now number leg is doubt. out now number leg (at number leg is) doubt)) c

-- a fence was answered
passes : (b : Line) (s : SessionParts) (fence : ℕ) → s.log ≡ take_below fence b.session.log
    → s.connection ≡ b.session.connection
    → ((fence : ℕ) → Contains s.current.fences fence → Contains b.session.current.fences fence)
    → s.current.closing_fence ≡ b.session.current.closing_fence
    → (IsOver b.session.phase → IsOver s.phase) → (IsBeforeUp s.phase → IsBeforeUp b.session.phase)
    → (s.phase ≡ phase.Closing → b.session.phase ≡ phase.Closing)
    → (s.phase ≡ phase.LoggedOut → HasNoDoubt (take_below fence b.session.log)) → Close b
    → Close (record b { session = s })
passes b s fence log connection fences closing_fence over early closing out c =
    let at : (number : ℕ) (leg : SentLeg) → IsLegAt s.log number leg → IsLegAt
    (take_below fence b.session.log) number leg = λ number leg is. subst (λ l. IsLegAt l number leg) log is in
    close_goes b b.released b.left s b.to_exchange b.given
    (unwritten b s
    (λ is. record {
      over = over is;
      same = connection;
      none = λ none number leg there doubt. took_no_doubt fence b.session.log none number leg
          (at number leg there) doubt;
      back = λ number leg there. took_back fence b.session.log number leg (at number leg there);
    })
    (λ number other leg now is there.
    (let was = took_back fence b.session.log number leg (at number leg is) in
    c.fence_above number other was.0 (early now) was.1 (fences other there)))
    (λ number wanted leg now is mark.
    (let was = took_back fence b.session.log number leg (at number leg is) in
    c.closing_above number wanted was.0 (closing now) was.1 (sym closing_fence ∙ mark)))
    (λ now number leg is doubt. out now number leg (at number leg is) doubt)) c

-- every leg is below the fence that is answered last
last_sure : (b : Line) (fence : ℕ) → IsAnswered b fence → IsLastFence b fence → Close b
    → HasNoDoubt (take_below fence b.session.log)
last_sure b fence is (inl settling) c number leg there doubt =
    (let was = took_back fence b.session.log number leg there in
    take_below_sure fence b.session.log number leg there
    (c.fence_above number fence was.0 (subst IsBeforeUp (sym settling) tt) was.1 is.written) doubt)
last_sure b fence is (inr closing) c number leg there doubt =
    (let was = took_back fence b.session.log number leg there in
    let mark = closing_low b.session.current.closing_fence fence closing.1 in
    let low = c.closing_above number mark.0 was.0 closing.0 was.1 mark.1 in
    take_below_sure fence b.session.log number leg there (omega (arith, mark.2)) doubt)

-- a message under the next number is above every leg
below_next : (b : Line) (m : Carried) (number : ℕ) (leg : SentLeg) → next_out b.session ≡ m.number
    → IsLegAt b.session.log number leg → number < m.number
below_next b m number leg under at =
    (let within = numbered_within number b.session.log (Sent leg) at in omega arith)

-- the session's Logout
logs_out : (b : Line) (s : SessionParts) → s.log ≡ b.session.log ++ Admin ∷ [] → s.connection ≡ b.session.connection
    → s.phase ≡ phase.LoggedOut → b.session.phase ≡ phase.LoggedOut → Close b
    → Close (framed (next_out b.session) (Session Logout) s b)
logs_out b s log connection now was c =
    let back : (number : ℕ) (leg : SentLeg) → IsLegAt s.log number leg → IsLegAt b.session.log number leg =
    λ number leg is. goes_push b.session.log number leg (subst (λ l. IsLegAt l number leg) log is) in
    let none : HasNoDoubt s.log = λ number leg is doubt. c.out_no_doubt was number leg (back number leg is) doubt in
    let over : IsOver s.phase = subst IsOver (sym now) tt in
    let frame : Carried = record { connection = s.connection; number = next_out b.session; content = (Session Logout) } in
    record {
      fence_above = λ number fence leg early is there. absurd (subst IsBeforeUp now early);
      closing_above = λ number wanted leg closing is mark. absurd (let e = sym now ∙ closing in cc);
      logout_is_last = λ m there is.
          elim (Contains-push_cases b.to_exchange frame m there) [
            | inl old ↦
                (let last = c.logout_is_last m old is in
                record {
                  over = over;
                  present = last.present ∙ sym connection;
                  above = λ number leg at. last.above number leg (back number leg at);
                  sure = inr none;
                })
            | inr new ↦
                record {
                  over = over;
                  present = sym (ap (λ (x : Carried). x.connection) new);
                  above = λ number leg at. below_next b m number leg (ap (λ (x : Carried). x.number) new) (back number leg at);
                  sure = inr none;
                }
          ];
      marked = λ count is.
          (let mark = c.marked count is in
          record {
            all = mark.all;
            down = mark.down;
            last = mark.last ∙ sym connection;
            logout = mark.logout;
            written = Contains-append_left b.to_exchange (frame ∷ []) mark.logout mark.written;
            says = mark.says;
            passed = mark.passed;
          });
      logout_heard = c.logout_heard;
      out_no_doubt = λ out. none;
    }

pub over_after : (is_over : Bool) (now : Phase) → is_connected now ≡ true → IsOver now → IsOver (phase_after is_over now)
over_after is_over phase.LoggedOut on over = chosen IsOver (is_over || true) phase.Closed phase.Down (λ shut. tt)
    (λ open_still. absurd (or_true is_over open_still))
  where
    or_true : (b : Bool) → (b || true) ≡ false → ⊥
    or_true true e = cc
    or_true false e = cc
over_after is_over phase.Closed on over = absurd cc
over_after is_over phase.Down on over = absurd over
over_after is_over phase.LoggingOn on over = absurd over
over_after is_over phase.Settling on over = absurd over
over_after is_over phase.Up on over = absurd over
over_after is_over phase.Closing on over = absurd over

-- a connection that ended is in one of two phases
after_is : (P : Phase → Type 0) → (is_over : Bool) (now : Phase) → P phase.Closed → P phase.Down
    → P (phase_after is_over now)
after_is P is_over now closed down = chosen P (is_over || is_logged_out now) phase.Closed phase.Down (λ over. closed)
    (λ not_over. down)

not_over : (now : Phase) → is_connected now ≡ true → (now ≡ phase.LoggedOut → ⊥) → IsOver now → ⊥
not_over phase.LoggedOut on going over = going refl
not_over phase.Closed on going over = cc
not_over phase.Down on going over = over
not_over phase.LoggingOn on going over = over
not_over phase.Settling on going over = over
not_over phase.Up on going over = over
not_over phase.Closing on going over = over

-- the session's answer to the exchange's Logout, which came first: so it is the only one, and the session is over
answers_kept : (b : Line) → Hears b (Session Logout) → is_connected b.session.phase ≡ true
    → (b.session.phase ≡ phase.LoggedOut → ⊥) → Close b
    → Close (framed (next_out b.session) (Session Logout) (record (spending b.session) { phase = phase.Closed }) b)
answers_kept b heard on going c =
    let frame : Carried =
    record { connection = b.session.connection; number = next_out b.session; content = (Session Logout) } in
    let said : Carried = record { connection = b.session.connection; number = heard.0; content = (Session Logout) } in
    let fresh : (m : Carried) → Contains b.to_exchange m → m.content ≡ (Session Logout) → ⊥ =
    λ m there is. not_over b.session.phase on going (c.logout_is_last m there is).over in
    let unmarked : (count : ℕ) → b.exchange.intake.closed_at ≡ Some count → ⊥ =
    λ count is. (let mark = c.marked count is in fresh mark.logout mark.written mark.says) in
    let first : Contains b.exchange.unasked b.session.connection =
    elim (c.logout_heard said heard.1 refl) [
      | inl closed ↦ absurd (unmarked closed.0 closed.1)
      | inr unasked ↦ unasked
    ] in
    record {
      fence_above = λ number fence leg early is there. absurd early;
      closing_above = λ number wanted leg closing is mark. absurd cc;
      logout_is_last = λ m there is.
          elim (Contains-push_cases b.to_exchange frame m there) [
            | inl old ↦ absurd (fresh m old is)
            | inr new ↦
                record {
                  over = tt;
                  present = sym (ap (λ (x : Carried). x.connection) new);
                  above = λ number leg at. below_next b m number leg (ap (λ (x : Carried). x.number) new)
                      (goes_push b.session.log number leg at);
                  sure = inl first;
                }
          ];
      marked = λ count is. absurd (unmarked count is);
      logout_heard = c.logout_heard;
      out_no_doubt = λ out. absurd cc;
    }

plain_no_logout : (content : Content) → IsPlainAdmin content → content ≡ (Session Logout) → ⊥
plain_no_logout content plain is = subst IsPlainAdmin is plain

-- where no message is the session's Logout yet, since its phase isn't over
sends_kept : (b : Line) (leg : Leg) → b.session.phase ≡ phase.Up → Close b
    → Close (record
    (framed (next_out b.session) (Order (Ok leg)) (sending b.session (suc b.left) leg) b) { left = suc b.left })
sends_kept b leg up c =
    close_goes b b.released (suc b.left) (sending b.session (suc b.left) leg) _ b.given
    (one_written b (sending b.session (suc b.left) leg) (next_out b.session) (Order (Ok leg)) (λ is. cc)
    (λ over. absurd (subst IsOver up over))
    (λ number fence x early is there. absurd (subst IsBeforeUp up early))
    (λ number wanted x closing is mark. absurd (let e = sym up ∙ closing in cc))
    (λ out. absurd (let e = sym up ∙ out in cc))) c

connects_kept : (b : Line) (content : Content) → (content ≡ (Session Logout) → ⊥) → b.session.phase ≡ phase.Down → Close b
    → Close (framed (next_out b.session) content (connecting b.session) b)
connects_kept b content other down c =
    close_goes b b.released b.left (connecting b.session) _ b.given
    (one_written b (connecting b.session) (next_out b.session) content other
    (λ over. absurd (subst IsOver down over))
    (λ number fence leg early is there. absurd (let h = there.1 in omega arith))
    (λ number wanted leg closing is mark. absurd cc)
    (λ out. absurd cc)) c

settles_kept : (b : Line) (told : ℕ) → Close b → Close (with_session (settling_at told b.session) b)
settles_kept b told c =
    close_goes b b.released b.left (settling_at told b.session) b.to_exchange b.given
    (unwritten b (settling_at told b.session)
    (λ over. record {
      over = over;
      same = refl;
      none = λ none. give_up_sure told b.session.log;
      back = λ number leg is. (let was = give_up_back told b.session.log number leg is in (was.0, was.1));
    })
    (λ number fence leg early is there.
    (let was = give_up_back told b.session.log number leg is in c.fence_above number fence was.0 early was.1 there))
    (λ number wanted leg closing is mark.
    (let was = give_up_back told b.session.log number leg is in c.closing_above number wanted was.0 closing was.1 mark))
    (λ out. give_up_sure told b.session.log)) c

pub close_calls : Calls (λ b. Unit {0}) Close
close_calls = record {
  marks = λ b expected requested pending silent close_asked given j c.
      close_goes b b.released b.left (with_marks expected requested pending silent close_asked b.session) b.to_exchange
      given
      (unwritten b _ (stays_over b.session _ refl refl) c.fence_above c.closing_above c.out_no_doubt) c;
  waits = λ b waiting j c.
      close_goes b b.released b.left b.session b.to_exchange b.given
      (unwritten b b.session (stays_over b.session b.session refl refl) c.fence_above c.closing_above c.out_no_doubt) c;
  admin = λ b content plain may j c. spends b (spending b.session) content
      (plain_no_logout content plain) refl refl refl refl (λ fence there. inl there) c;
  fence = λ b may j c.
      spends b (spending (fenced b.session)) (Session (TestRequest (fence_id (next_out b.session))))
      (λ is. cc) refl refl refl refl
      (λ fence there. elim (Contains-push_cases b.session.current.fences (next_out b.session) fence there)
      [ inl old ↦ inl old | inr new ↦ inr (sym new) ]) c;
  fill_settled = λ b first new_number from forward below j c. fills b first new_number c;
  fill_sure = λ b first new_number sure forward below j c. fills b first new_number c;
  settles = λ b content told early heard says j c. settles_kept b told c;
  settling = λ b early j c.
      turns b _ refl refl (λ fence there. there) (λ over. absurd (subst IsOver early over))
      (λ settling. subst IsBeforeUp (sym early) tt) (λ number wanted leg closing is mark. absurd cc)
      (λ out. absurd cc) c;
  passes = λ b fence is j c. passes b (passing fence b.session) fence refl refl (fewer_fences fence b) refl
      (λ over. over) (λ early. early) (λ closing. closing)
      (λ out. took_no_doubt fence b.session.log (c.out_no_doubt out)) c;
  passes_up = λ b fence is settling j c.
      passes b (passed_into fence phase.Up b.session) fence refl refl (fewer_fences fence b) refl
      (λ over. absurd (subst IsOver settling over)) (λ early. absurd early) (λ closing. absurd cc) (λ out. absurd cc) c;
  passes_out = λ b fence is last j c.
      passes b (passed_into fence phase.LoggedOut b.session) fence refl refl (fewer_fences fence b) refl (λ over. tt)
      (λ early. absurd early) (λ closing. absurd cc) (λ out. last_sure b fence is last c) c;
  passes_out_written = λ b fence is last may j c.
      logs_out (with_session (passed_into fence phase.LoggedOut b.session) b)
      (record (spending (passing fence b.session)) { phase = phase.LoggedOut }) refl refl refl refl
      (passes b (passed_into fence phase.LoggedOut b.session) fence refl refl (fewer_fences fence b) refl (λ over. tt)
      (λ early. absurd early) (λ closing. absurd cc) (λ out. last_sure b fence is last c) c);
  answers_logout = λ b heard on going may j c. answers_kept b heard on going c;
  ends = λ b is_over on j c.
      turns b (record b.session { phase = phase_after is_over b.session.phase }) refl refl (λ fence there. there)
      (over_after is_over b.session.phase on)
      (λ early. absurd (after_is (λ p. IsBeforeUp p → ⊥) is_over b.session.phase (λ e. e) (λ e. e) early))
      (λ number wanted leg closing is mark.
      absurd (after_is (λ p. p ≡ phase.Closing → ⊥) is_over b.session.phase (λ e. cc) (λ e. cc) closing))
      (λ out. absurd (after_is (λ p. p ≡ phase.LoggedOut → ⊥) is_over b.session.phase (λ e. cc) (λ e. cc) out)) c;
  abandons = λ b j c. turns b (record b.session { phase = phase.Closed }) refl refl (λ fence there. there) (λ over. tt)
      (λ early. absurd early) (λ number wanted leg closing is mark. absurd cc) (λ out. absurd cc) c;
  connects = λ b down may j c. connects_kept b _ (λ is. cc) down c;
  closes = λ b up j c.
      turns b (record
      b.session {
        phase = phase.Closing;
        current =
            record b.session.current { closing_fence = Some (next_out b.session) };
      })
      refl refl (λ fence there. there) (λ over. absurd (subst IsOver up over)) (λ early. absurd early)
      (λ number wanted leg closing is mark.
      (let within = numbered_within number b.session.log (Sent leg) is in
      let same = same_Some (next_out b.session) wanted mark in
      omega arith))
      (λ out. absurd cc) c;
  sends = λ b leg there up may j c. sends_kept b leg up c;
  releases = λ b more j c.
      close_goes b (b.released ++ more) b.left b.session b.to_exchange b.given
      (unwritten b b.session (stays_over b.session b.session refl refl) c.fence_above c.closing_above c.out_no_doubt) c;
  drops = λ b below j c.
      close_goes b b.released (suc b.left) b.session b.to_exchange b.given
      (unwritten b b.session (stays_over b.session b.session refl refl) c.fence_above c.closing_above c.out_no_doubt) c;
}

-- the exchange's steps
module _ {taken : List Carried} (w : Line) (copies : Copies taken w) (c : Close w) where
  -- the line, where the exchange stands so
  abbrev At : Intake → Line
  At t = record w { exchange = record w.exchange { intake = t } }

  abbrev Marks : Intake → Type 0
  Marks t =
      ((count : ℕ) → t.closed_at ≡ Some count → IsMark (At t) count)
      × (HasTakenLogout w.exchange.intake → HasTakenLogout t)

  by_move : (t u : Intake) → t ≡ u → Marks u → Marks t
  by_move t u is marks = subst Marks (sym is) marks

  standing : (count : ℕ) → w.exchange.intake.closed_at ≡ Some count → IsMark (At w.exchange.intake) count
  standing count at =
      (let mark = c.marked count at in
      record {
        all = mark.all;
        down = mark.down;
        last = mark.last;
        logout = mark.logout;
        written = mark.written;
        says = mark.says;
        passed = mark.passed;
      })

  -- while a connection is live nothing is marked
  no_mark : (connection count : ℕ) → w.exchange.intake.live ≡ Some connection → w.exchange.intake.closed_at ≡ Some count
      → ⊥
  no_mark connection count live is = let mark = c.marked count is in let e = sym live ∙ mark.down in cc

  marks_takes : (m : Carried) (t : Intake) → Contains w.to_exchange m → Takes w.exchange.intake m t → Marks t
  marks_takes m t there (rules.new_logon is after) =
      by_move t _ after (
        (λ count at.
            (let mark = c.marked count at in let newer = is.newer in let known = copies.written_before m there in
            absurd (omega (arith, mark.last)))),
        (λ was. was),
      )
  marks_takes m t there (rules.order due leg is after) =
      by_move t _ after ((λ count at. absurd (no_mark m.connection count due.live at)), (λ was. was))
  marks_takes m t there (rules.fill due new_number is after) =
      by_move t _ after ((λ count at. absurd (no_mark m.connection count due.live at)), (λ was. was))
  marks_takes m t there (rules.logout due is after) =
      by_move t _ after (
        (λ count at.
            (let last = c.logout_is_last m there is in
            let live = (copies.live_is_last m.connection due.live).same in
            record {
              all = sym (same_Some _ count at);
              down = refl;
              last = sym live ∙ last.present;
              logout = m;
              written = there;
              says = is;
              passed = (let here = due.number in omega arith);
            })),
        (λ was. (length w.exchange.intake.accepted, refl)),
      )
  marks_takes m t there (rules.other due is after) = by_move t _ after
      ((λ count at. absurd (no_mark m.connection count due.live at)), (λ was. was))

  -- that the live connection ends then leaves the mark
  dropped : (u : Intake) (count : ℕ) → IsMark (At u) count → IsMark (At (record u { live = None })) count
  dropped u count mark = record {
    all = mark.all;
    down = refl;
    last = mark.last;
    logout = mark.logout;
    written = mark.written;
    says = mark.says;
    passed = mark.passed;
  }

  marks_moves : (coming : Option Carried) (t : Intake) → IfSome coming (Contains w.to_exchange)
      → MayMove w.exchange.intake coming t → Marks t
  marks_moves coming t there (rules.stays after) = by_move t w.exchange.intake after (standing, (λ was. was))
  marks_moves coming t there (rules.drops after) =
      by_move t _ after ((λ count at. dropped w.exchange.intake count (standing count at)), (λ was. was))
  marks_moves coming t there (rules.takes_and_drops m came u is after) =
      (let marks = marks_takes m u (subst (λ o. IfSome o (Contains w.to_exchange)) came there) is in
      by_move t _ after ((λ count at. dropped u count (marks.0 count at)), marks.1))
  marks_moves coming t there (rules.takes m came is) = marks_takes m t
      (subst (λ o. IfSome o (Contains w.to_exchange)) came there) is

  says_logout : (coming : Option Carried) (t : RuleState) (connection number : ℕ) (content : Content)
      → MaySay w.exchange coming t connection number content → content ≡ (Session Logout)
      → HasTakenLogout t.intake ⊎ Contains t.unasked connection
  says_logout coming t connection number (Session Logout) may says = may
  says_logout coming t connection number content may says = absurd cc

  still_unasked : (coming : Option Carried) (t : RuleState) (written : List Carried) → May w.exchange coming t written
      → (connection : ℕ) → Contains w.exchange.unasked connection → Contains t.unasked connection
  still_unasked coming t written step connection there =
      All-contains (Contains t.unasked) w.exchange.unasked connection step.unasked there

  pub close_exchanged : (coming : Option Carried) (t : RuleState) (written : List Carried)
      → IfSome coming (Contains w.to_exchange) → May w.exchange coming t written
      → Close (record w { exchange = t; from_exchange = w.from_exchange ++ written })
  close_exchanged coming t written there step =
      let marks = marks_moves coming t.intake there step.moves in
      let carries = own_kept w.exchange coming t written step copies.own_carries in
      let still = still_unasked coming t written step in
      record {
        fence_above = c.fence_above;
        closing_above = c.closing_above;
        logout_is_last = λ m in' says.
            (let last = c.logout_is_last m in' says in
            record {
              over = last.over;
              present = last.present;
              above = last.above;
              sure = elim last.sure [
                | inl first ↦ inl (still w.session.connection first)
                | inr none ↦ inr none
              ];
            });
        marked = λ count at.
            (let mark = marks.0 count at in
            record {
              all = mark.all;
              down = mark.down;
              last = mark.last;
              logout = mark.logout;
              written = mark.written;
              says = mark.says;
              passed = mark.passed;
            });
        logout_heard = λ m in' says.
            elim (Contains-append_cases w.from_exchange written m in') [
              | inl old ↦
                  elim (c.logout_heard m old says) [
                    | inl closed ↦ inl (marks.1 closed)
                    | inr unasked ↦ inr (still m.connection unasked)
                  ]
              | inr new ↦
                  elim (All-contains (MayWrite w.exchange coming t) written m step.writes new).content [
                    | inl kept ↦ absurd (subst IsReportOrRefusal says (carries m.number m.content kept))
                    | inr may ↦ says_logout coming t m.connection m.number m.content may.1 says
                  ]
            ];
        out_no_doubt = c.out_no_doubt;
      }
