-- Fences are kept where a leg is sent, and so by every part of a step that is the session's.
use Rattle.std.proofs.Common.{◌≡◌, ◌<◌, ◌+◌, ℕ, suc, true, List, [], ◌∷◌, ◌++◌, length, Some, Ok, refl, sym, ap, subst, ◌∙◌, inl, inr, arith, length-append}
use Rattle.std.specs.List.{Contains}
use Rattle.std.proofs.lemmas.Bool.Decides.{nat_tests}
use Rattle.std.proofs.lemmas.List.Elements.{Contains-push_cases}
use Rattle.leg.specs.Numbered.{numbered}
use Rattle.leg.proofs.Numbered.{numbered-append}
use Rattle.leg.specs.declared.leg.Leg.{Leg}
use Rattle.dialect.specs.declared.content.Content.{Content}
use Rattle.dialect.specs.declared.content.Content.TheVariants.{Session, Order}
use Rattle.fix_tags.specs.declared.session_body.SessionBody.TheVariants.{Heartbeat, TestRequest, GapFill, Logout}
use Rattle.resend.specs.Log.{SentLeg, take_below}
use Rattle.resend.specs.Log.Entry.{Admin, Sent}
use Rattle.session_core.specs.declared.phase.Phase.TheVariants as phase
use Rattle.session_core.specs.Session.{SessionParts, next_out, may_write}
use Rattle.session_core.specs.Turn.{spending, fenced, fence_id}
use Rattle.session_core.specs.Receiving.{passing, above}
use Rattle.session_core.specs.Calling.{connecting}
use Rattle.exchange_core.specs.Acceptance.{Carried}
use Rattle.venue_line.specs.Line.{Line}
use Rattle.venue_line.specs.Fences.{IsLegFrame, Fences}
use Rattle.venue_line.proofs.Logs.{numbered_within}
use Rattle.venue_line.proofs.Answered.{above_is}
use Rattle.venue_line.proofs.Parts.{Calls, with_marks, framed, with_session, IsAnswered, IsPlainAdmin, passed_into}
use Rattle.venue_line.proofs.CopiesSent.{sent_leg, sent_frame, sent_line, new_or_old}
use Rattle.venue_line.proofs.FencesCalled.{fences_goes, goes_stays, goes_spends, goes_fills, goes_passes, goes_settles}

module _ (taken : List Carried) (a : Line) (leg : Leg) (there : numbered (suc a.left) a.released ≡ Some leg)
    (may : may_write a.session ≡ true) (f : Fences taken a) where
  abbrev frame : Carried
  frame = sent_frame a leg there

  one_more : length (a.session.log ++ Sent (sent_leg a leg there) ∷ []) ≡ length a.session.log + 1
  one_more = length-append a.session.log (Sent (sent_leg a leg there) ∷ [])

  number_new : (m : Carried) → frame ≡ m → m.number ≡ next_out a.session
  number_new m new = sym (ap (λ (x : Carried). x.number) new)

  content_new : (m : Carried) → frame ≡ m → Order (Ok leg) ≡ m.content
  content_new m new = ap (λ (x : Carried). x.content) new

  fences_sends : Fences taken (sent_line a leg there)
  fences_sends =
      let left : next_out a.session < a.session.config.max_number = grind (arith, nat_tests, may) in
      let more = one_more in
      record {
        numbers_small = f.numbers_small;
        next_small = (let h = f.numbers_small in omega arith);
        expected_from = f.expected_from;
        expected_to = (let h = f.expected_to in omega arith);
        written_spent = λ m in'.
            elim (Contains-push_cases a.to_exchange frame m in') [
              | inl old ↦ (let h = f.written_spent m old in omega arith)
              | inr new ↦
                  (let e = number_new m new in omega arith)
            ];
        written_for_legs = λ m x in' is.
            elim (Contains-push_cases a.to_exchange frame m in') [
              | inl old ↦
                  (let spent = f.written_spent m old in
                  elim (new_or_old a leg there m.number x is)
                  [ inl was ↦ f.written_for_legs m x old was.0 | inr now ↦ absurd (omega (arith, now.0)) ])
              | inr new ↦ subst IsLegFrame (content_new m new) tt
            ];
        tests_carry = λ m id in' is.
            elim (Contains-push_cases a.to_exchange frame m in')
            [ inl old ↦ f.tests_carry m id old is | inr new ↦ absurd (let e = content_new m new ∙ is in cc) ];
        fences_are_admin = λ fence in'. numbered-append fence a.session.log (Sent (sent_leg a leg there) ∷ []) Admin
            (f.fences_are_admin fence in');
        never_queued = λ number x is queued.
            elim (new_or_old a leg there number x is) [
              | inl was ↦ f.never_queued number x was.0 queued
              | inr now ↦ (let e = ap (λ (l : SentLeg). l.state) now.1 ∙ queued in cc)
            ];
        settled_no_doubt = λ number x is below doubt.
            elim (new_or_old a leg there number x is) [
              | inl was ↦ f.settled_no_doubt number x was.0 below doubt
              | inr now ↦ (let h = f.settled_below in omega (arith, now.0))
            ];
        settled_below = (let h = f.settled_below in omega arith);
        logon_below = (let h = f.logon_below in omega arith);
        fills_below = λ m new_number in' is.
            elim (Contains-push_cases a.to_exchange frame m in') [
              | inl old ↦ (let h = f.fills_below m new_number old is in omega arith)
              | inr new ↦ absurd (let e = content_new m new ∙ is in cc)
            ];
        fills_spare_doubt = λ m new_number number x in' is at low high doubt.
            elim (Contains-push_cases a.to_exchange frame m in') [
              | inl old ↦
                  (let below = f.fills_below m new_number old is in
                  elim (new_or_old a leg there number x at) [
                    | inl was ↦ f.fills_spare_doubt m new_number number x old is was.0 low high doubt
                    | inr now ↦
                        omega (arith, now.0)
                  ])
              | inr new ↦ (let e = content_new m new ∙ is in cc)
            ];
        told_passed = f.told_passed;
        answers_passed = f.answers_passed;
        tests_passed = f.tests_passed;
        passed_or_withdrawn = λ number x is below.
            elim (new_or_old a leg there number x is) [
              | inl was ↦ f.passed_or_withdrawn number x was.0 below
              | inr now ↦
                  absurd (let h = f.expected_to in omega (arith, now.0))
            ];
        taken_was_accepted = λ number x is took.
            elim (new_or_old a leg there number x is) [
              | inl was ↦ f.taken_was_accepted number x was.0 took
              | inr now ↦
                  absurd (let e = ap (λ (l : SentLeg). l.state) now.1 ∙ took in cc)
            ];
      }

plain_no_test : (content : Content) (id id' : List ℕ) → IsPlainAdmin content → content ≡ Session (TestRequest id) → id ≡ id'
plain_no_test content id id' plain is = absurd (subst IsPlainAdmin is plain)

plain_no_fill : (content : Content) (new_number : ℕ) → IsPlainAdmin content → content ≡ Session (GapFill new_number) → ⊥
plain_no_fill content new_number plain is = subst IsPlainAdmin is plain

-- the fences that are above one that was answered are fences of the same connection
pub fewer_fences : (answered : ℕ) (b : Line) (fence : ℕ) → Contains (above answered b.session.current.fences) fence
    → Contains b.session.current.fences fence
fewer_fences answered b fence there = above_is answered b.session.current.fences fence there

module _ (taken : List Carried) where
  stays : (b : Line) (s : SessionParts) → s.config ≡ b.session.config → s.log ≡ b.session.log
      → s.settled ≡ b.session.settled
      → ((fence : ℕ) → Contains s.current.fences fence → Contains b.session.current.fences fence)
      → s.current.logon_number ≡ b.session.current.logon_number → Fences taken b
      → Fences taken (record b { session = s })
  stays b s config log settled fences logon f = fences_goes b s b.to_exchange b.given
      (goes_stays taken b s config log settled fences logon f) f

  passes_kept : (b : Line) (s : SessionParts) (fence : ℕ) → s.config ≡ b.session.config
      → s.log ≡ take_below fence b.session.log → s.settled ≡ fence
      → ((fence : ℕ) → Contains s.current.fences fence → Contains b.session.current.fences fence)
      → s.current.logon_number ≡ b.session.current.logon_number → IsAnswered b fence → Fences taken b
      → Fences taken (record b { session = s })
  passes_kept b s fence config log settled fences logon is f =
      let within = numbered_within fence b.session.log Admin (f.fences_are_admin fence is.written) in
      let small = f.next_small in
      let passed =
      f.answers_passed
      (record { connection = b.session.connection; number = is.heard.0; content = Session (Heartbeat (Some (fence_id fence))) })
      fence is.heard.1 refl (omega arith) in
      fences_goes b s b.to_exchange b.given
      (goes_passes taken b s fence config log settled fences logon is.written passed f) f

  -- a message under the next number that is no fence
  spends : (b : Line) (s : SessionParts) (content : Content) → s.config ≡ b.session.config
      → s.log ≡ b.session.log ++ Admin ∷ [] → s.settled ≡ b.session.settled
      → ((fence : ℕ) → Contains s.current.fences fence → Contains b.session.current.fences fence)
      → s.current.logon_number ≡ b.session.current.logon_number → may_write b.session ≡ true
      → ((id : List ℕ) → content ≡ Session (TestRequest id) → id ≡ fence_id (next_out b.session))
      → ((new_number : ℕ) → content ≡ Session (GapFill new_number) → ⊥) → Fences taken b
      → Fences taken (framed (next_out b.session) content s b)
  spends b s content config log settled fences logon may test no_fill f =
      fences_goes b s _ b.given
      (goes_spends taken b s content config log settled (λ fence there. inl (fences fence there))
      (let h = f.logon_below in omega arith) may test no_fill f) f

  -- what the desk does touches none of it
  by_desk : (b : Line) (released : List Leg) (left : ℕ) → Fences taken b
      → Fences taken (record b { released = released; left = left })
  by_desk b released left f = record {
    numbers_small = f.numbers_small;
    next_small = f.next_small;
    expected_from = f.expected_from;
    expected_to = f.expected_to;
    written_spent = f.written_spent;
    written_for_legs = f.written_for_legs;
    tests_carry = f.tests_carry;
    fences_are_admin = f.fences_are_admin;
    never_queued = f.never_queued;
    settled_no_doubt = f.settled_no_doubt;
    settled_below = f.settled_below;
    logon_below = f.logon_below;
    fills_below = f.fills_below;
    fills_spare_doubt = f.fills_spare_doubt;
    told_passed = f.told_passed;
    answers_passed = f.answers_passed;
    tests_passed = f.tests_passed;
    passed_or_withdrawn = f.passed_or_withdrawn;
    taken_was_accepted = f.taken_was_accepted;
  }

  pub fences_calls : Calls (λ b. Unit {0}) (Fences taken)
  fences_calls = record {
    marks = λ b expected requested pending silent close_asked given j f.
        fences_goes b (with_marks expected requested pending silent close_asked b.session) b.to_exchange given
        (goes_stays taken b _ refl refl refl (λ fence there. there) refl f) f;
    waits = λ b waiting j f.
        fences_goes b b.session b.to_exchange b.given
        (goes_stays taken b b.session refl refl refl (λ fence there. there) refl f) f;
    admin = λ b content plain may j f. spends b (spending b.session) content refl refl refl
        (λ fence there. there) refl may (λ id is. plain_no_test content id _ plain is)
        (λ n is. plain_no_fill content n plain is) f;
    fence = λ b may j f.
        fences_goes b (spending (fenced b.session)) _ b.given
        (goes_spends taken b (spending (fenced b.session)) (Session (TestRequest (fence_id (next_out b.session)))) refl refl refl
        (λ fence there. elim (Contains-push_cases b.session.current.fences (next_out b.session) fence there)
        [ inl old ↦ inl old | inr new ↦ inr (sym new) ])
        (let h = f.logon_below in omega arith) may (λ id is. cc) (λ n is. cc) f) f;
    fill_settled = λ b first new_number from forward below j f.
        fences_goes b b.session _ b.given
        (goes_fills taken b first new_number forward (let h = f.settled_below in omega arith)
        (λ number leg is low doubt. f.settled_no_doubt number leg is (omega arith) doubt) f) f;
    fill_sure = λ b first new_number sure forward below j f.
        fences_goes b b.session _ b.given
        (goes_fills taken b first new_number forward
        (elim below [ inl next ↦ next | inr logon ↦ (let h = f.logon_below in omega arith) ])
        (λ number leg is low doubt. sure number leg is doubt) f) f;
    settles = λ b content told early heard says j f.
        fences_goes b _ b.to_exchange b.given
        (goes_settles taken b told
        (f.told_passed (record { connection = b.session.connection; number = heard.0; content = content }) told heard.1
        says) f) f;
    settling = λ b early j f. stays b _ refl refl refl (λ fence there. there) refl f;
    passes = λ b fence is j f. passes_kept b (passing fence b.session) fence refl refl refl
        (fewer_fences fence b) refl is f;
    passes_up = λ b fence is settling j f. passes_kept b (passed_into fence phase.Up b.session) fence refl refl refl
        (fewer_fences fence b) refl is f;
    passes_out = λ b fence is last j f. passes_kept b (passed_into fence phase.LoggedOut b.session) fence refl refl refl
        (fewer_fences fence b) refl is f;
    passes_out_written = λ b fence is last may j f.
        spends (with_session (passed_into fence phase.LoggedOut b.session) b)
        (record (spending (passing fence b.session)) { phase = phase.LoggedOut }) (Session Logout) refl refl refl
        (λ fence there. there) refl may (λ id is. absurd cc) (λ n is. cc)
        (passes_kept b (passed_into fence phase.LoggedOut b.session) fence refl refl refl
        (fewer_fences fence b) refl is f);
    answers_logout = λ b heard on going may j f.
        spends b (record (spending b.session) { phase = phase.Closed }) (Session Logout) refl refl refl
        (λ fence there. there) refl may (λ id is. absurd cc) (λ n is. cc) f;
    ends = λ b is_over on j f. stays b _ refl refl refl (λ fence there. there) refl f;
    abandons = λ b j f. stays b _ refl refl refl (λ fence there. there) refl f;
    connects = λ b down may j f.
        fences_goes b (connecting b.session) _ b.given
        (goes_spends taken b (connecting b.session) _ refl refl refl
        (λ fence there. absurd (let h = there.1 in omega arith)) (omega arith) may (λ id is. absurd cc) (λ n is. cc) f)
        f;
    closes = λ b up j f. stays b _ refl refl refl (λ fence there. there) refl f;
    sends = λ b leg there up may j f. fences_sends taken b leg there may f;
    releases = λ b more j f. by_desk b (b.released ++ more) b.left f;
    drops = λ b below j f. by_desk b b.released (suc b.left) f;
  }
