-- From a line on which the session is over: it stays over, no leg is sent, and none comes into doubt.
use Rattle.std.proofs.Common.{◌≡◌, ℕ, List, [], ◌∷◌, ◌++◌, refl, sym, subst, ◌∙◌}
use Rattle.resend.specs.Log.{take_below}
use Rattle.resend.specs.Log.Entry.{Admin}
use Rattle.session_core.specs.Session.{SessionParts}
use Rattle.venue_line.specs.Line.{Line, LineStep}
use Rattle.venue_line.specs.Copies.{IsLegAt}
use Rattle.venue_line.specs.Close.{HasNoDoubt}
use Rattle.venue_line.specs.LineTheorem.{IsOver}
use Rattle.venue_line.proofs.Logs.{goes_push, give_up_back, give_up_sure}
use Rattle.venue_line.proofs.Parts.{Parts}
use Rattle.venue_line.proofs.Stepping.{step_keeps}
use Rattle.venue_line.proofs.CloseKept.{GoesOn, stays_over, over_after, spent_no_doubt, took_no_doubt, took_back}

pub over_trans : {a b c : SessionParts} → GoesOn a b → GoesOn b c → GoesOn a c
over_trans first next = record {
  over = next.over;
  same = next.same ∙ first.same;
  none = λ none. next.none (first.none none);
  back = λ number leg is. (let was = next.back number leg is in first.back number was.0 was.1);
}

-- a session that is over at the first line goes on so to this one
abbrev IsOverSince : Line → Line → Type 0
IsOverSince a b = IsOver a.session.phase → GoesOn a.session b.session

module _ (a b : Line) (p : IsOverSince a b) (over : IsOver a.session.phase) where
  still : IsOver b.session.phase
  still = (p over).over

  -- the session goes on
  on : (s : SessionParts) → GoesOn b.session s → GoesOn a.session s
  on s next = over_trans (p over) next

  -- it keeps its log, it spends a number, and it takes what is below a fence
  kept : (s : SessionParts) → s.log ≡ b.session.log → s.connection ≡ b.session.connection → IsOver s.phase
      → GoesOn a.session s
  kept s log same now = on s (stays_over b.session s log same now)

  spent : (s : SessionParts) → s.log ≡ b.session.log ++ Admin ∷ [] → s.connection ≡ b.session.connection
      → IsOver s.phase → GoesOn a.session s
  spent s log same now =
      on s (record {
        over = now;
        same = same;
        none = λ none. subst HasNoDoubt (sym log) (spent_no_doubt b.session.log none);
        back = λ number leg is.
            (leg, goes_push b.session.log number leg (subst (λ l. IsLegAt l number leg) log is));
      })

  took : (fence : ℕ) (s : SessionParts) → s.log ≡ take_below fence b.session.log
      → s.connection ≡ b.session.connection → IsOver s.phase → GoesOn a.session s
  took fence s log same now =
      on s (record {
        over = now;
        same = same;
        none = λ none. subst HasNoDoubt (sym log) (took_no_doubt fence b.session.log none);
        back = λ number leg is.
            took_back fence b.session.log number leg (subst (λ l. IsLegAt l number leg) log is);
      })

  took_and_spent : (fence : ℕ) (s : SessionParts) → s.log ≡ take_below fence b.session.log ++ Admin ∷ []
      → s.connection ≡ b.session.connection → IsOver s.phase → GoesOn a.session s
  took_and_spent fence s log same now =
      on s (record {
        over = now;
        same = same;
        none = λ none.
            subst HasNoDoubt (sym log)
            (spent_no_doubt (take_below fence b.session.log) (took_no_doubt fence b.session.log none));
        back = λ number leg is.
            took_back fence b.session.log number leg
            (goes_push (take_below fence b.session.log) number leg (subst (λ l. IsLegAt l number leg) log is));
      })

over_parts : (a : Line) → Parts (IsOverSince a)
over_parts a = record {
  calls = record {
    marks = λ b expected requested pending silent close_asked given j p over.
        kept a b p over _ refl refl (still a b p over);
    waits = λ b waiting j p. p;
    admin = λ b content plain may j p over. spent a b p over _ refl refl (still a b p over);
    fence = λ b may j p over. spent a b p over _ refl refl (still a b p over);
    fill_settled = λ b first new_number from forward below j p. p;
    fill_sure = λ b first new_number sure forward below j p. p;
    settles = λ b content told early heard says j p over.
        on a b p over _ (record {
          over = still a b p over;
          same = refl;
          none = λ none. give_up_sure told b.session.log;
          back = λ number leg is. (let was = give_up_back told b.session.log number leg is in (was.0, was.1));
        });
    settling = λ b early j p over. absurd (subst IsOver early (still a b p over));
    passes = λ b fence is j p over. took a b p over fence _ refl refl (still a b p over);
    passes_up = λ b fence is settling j p over. absurd (subst IsOver settling (still a b p over));
    passes_out = λ b fence is last j p over. took a b p over fence _ refl refl tt;
    passes_out_written = λ b fence is last may j p over. took_and_spent a b p over fence _ refl refl tt;
    answers_logout = λ b heard on going may j p over. spent a b p over _ refl refl tt;
    ends = λ b is_over on j p over.
        kept a b p over _ refl refl (over_after is_over b.session.phase on (still a b p over));
    abandons = λ b j p over. kept a b p over _ refl refl tt;
    connects = λ b down may j p over. absurd (subst IsOver down (still a b p over));
    closes = λ b up j p over. absurd (subst IsOver up (still a b p over));
    sends = λ b leg there up may j p over. absurd (subst IsOver up (still a b p over));
    releases = λ b more j p. p;
    drops = λ b below j p. p;
  };
  exchanges = λ b coming t written there step p. p;
}

pub over_refl : (a : Line) → IsOver a.session.phase → GoesOn a.session a.session
over_refl a over = stays_over a.session a.session refl refl over

pub step_over : (a b : Line) → LineStep a b → IsOver a.session.phase → GoesOn a.session b.session
step_over a b step = step_keeps (IsOverSince a) (over_parts a) a b step (over_refl a)
