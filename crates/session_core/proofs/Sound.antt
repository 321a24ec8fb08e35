-- The promises of a session stay, where numbers are added, legs are settled and phases change.
use Rattle.std.proofs.Common.{◌≡◌, ◌≤◌, ◌<◌, ◌+◌, ℕ, Bool, true, false, nat_lt, nat_le, List, [], ◌∷◌, ◌++◌, length, Option, Some, None, refl, sym, subst, ◌∙◌, inl, inr, if◌then◌else◌, arith, length-append}
use Rattle.std.specs.Prelude.{filter}
use Rattle.std.specs.List.{AllByRecursion}
use Rattle.std.specs.Str.{bytes_eq}
use Rattle.std.proofs.lemmas.Bool.Decides.{nat_tests}
use Rattle.std.proofs.lemmas.Option.{same_Some}
use Rattle.leg.specs.Numbered.{numbered}
use Rattle.leg.specs.declared.leg.Leg.{Leg}
use Rattle.leg.specs.declared.leg_state.LegState.{LegState}
use Rattle.leg.specs.declared.leg_state.LegState.TheVariants.{Queued, Doubt, Taken, Withdrawn}
use Rattle.leg.proofs.Numbered.{numbered-append}
use Rattle.fix_tags.specs.Config.{ConfigParts, IsConfig}
use Rattle.resend.specs.Log.{SentLeg, Entry, settled_where, take_below, give_up_from, last_ordinal}
use Rattle.resend.specs.Log.Entry.{Admin, Sent}
use Rattle.resend.proofs.Later.{length-settled_where, later-take_below, later-give_up_from}
use Rattle.session_core.specs.declared.phase.Phase.{Phase}
use Rattle.session_core.specs.declared.phase.Phase.TheVariants.{Down, Up, LoggedOut, Closed}
use Rattle.session_core.specs.Session.{SessionParts, new_session, next_out, may_write}
use Rattle.session_core.specs.Turn.{spending, fence_id, fenced, settling_at, with_pending, phase_after, disconnected}
use Rattle.session_core.specs.Receiving.{fence_in, passing}
use Rattle.session_core.specs.Calling.{connecting, sending, closing_up}
use Rattle.session_core.specs.Sound.{LegsAreBelow, HasNoDoubt, IsFence, PhaseStands, NumbersStand, IsSound}
use Rattle.session_core.proofs.Adding.{chosen}
use Rattle.session_core.proofs.Legs.{numbered-bound, numbered-next, legs-admin, below-settled, no_doubt-settled, stand-taken, stand-given_up, stand-admin, stand-sent}

-- what holds of each element of a list
pub all-map : {A : Type 0} (P Q : A → Type 0) → ((x : A) → P x → Q x) → (xs : List A) → AllByRecursion P xs
    → AllByRecursion Q xs
all-map P Q step [] all = tt
all-map P Q step (x ∷ xs) all = (step x all.0, all-map P Q step xs all.1)

pub all-append : {A : Type 0} (P : A → Type 0) (xs ys : List A) → AllByRecursion P xs → AllByRecursion P ys
    → AllByRecursion P (xs ++ ys)
all-append P [] ys first next = next
all-append P (x ∷ xs) ys first next = (first.0, all-append P xs ys first.1 next)

all-filter : (P Q : ℕ → Type 0) (test : ℕ → Bool) → ((x : ℕ) → P x → test x ≡ true → Q x) → (xs : List ℕ)
    → AllByRecursion P xs → AllByRecursion Q (filter test xs)
all-filter P Q test step [] all = tt
all-filter P Q test step (x ∷ xs) all =
    (let rest = all-filter P Q test step xs all.1 in
    chosen (AllByRecursion Q) (test x) (x ∷ filter test xs) (filter test xs) (λ on. (step x all.0 on, rest))
    (λ off. rest))

-- what holds of each fence holds of the one that an id names
named-by : (P : ℕ → Type 0) (b : Bool) (first fence : ℕ) (found : Option ℕ) → P first → (found ≡ Some fence → P fence)
    → (if b then Some first else found) ≡ Some fence → P fence
named-by P true first fence found here there is = subst P (same_Some first fence is) here
named-by P false first fence found here there is = there is

pub named-holds : (P : ℕ → Type 0) (id : List ℕ) (fences : List ℕ) (fence : ℕ) → AllByRecursion P fences
    → fence_in id fences ≡ Some fence → P fence
named-holds P id [] fence all is = absurd cc
named-holds P id (first ∷ fences) fence all is =
    named-by P (bytes_eq id (fence_id first)) first fence (fence_in id fences) all.0
    (named-holds P id fences fence all.1) is

-- phases of which nothing more is said
module _ (log : List Entry) (fences : List ℕ) (closing_fence : Option ℕ) where
  pub stands-down : PhaseStands Down log fences closing_fence
  stands-down = record {
    before_up = λ is. elim is [ inl on ↦ absurd cc | inr on ↦ absurd cc ];
    closing = λ is. absurd cc;
    logged_out = λ is. absurd cc;
  }

  pub stands-up : PhaseStands Up log fences closing_fence
  stands-up = record {
    before_up = λ is. elim is [ inl on ↦ absurd cc | inr on ↦ absurd cc ];
    closing = λ is. absurd cc;
    logged_out = λ is. absurd cc;
  }

  pub stands-closed : PhaseStands Closed log fences closing_fence
  stands-closed = record {
    before_up = λ is. elim is [ inl on ↦ absurd cc | inr on ↦ absurd cc ];
    closing = λ is. absurd cc;
    logged_out = λ is. absurd cc;
  }

  pub stands-logged_out : HasNoDoubt log → PhaseStands LoggedOut log fences closing_fence
  stands-logged_out none = record {
    before_up = λ is. elim is [ inl on ↦ absurd cc | inr on ↦ absurd cc ];
    closing = λ is. absurd cc;
    logged_out = λ is. none;
  }

  stands-ended : (is_over : Bool) (phase : Phase) → PhaseStands (phase_after is_over phase) log fences closing_fence
  stands-ended is_over phase =
      chosen (λ (p : Phase). PhaseStands p log fences closing_fence) _ Closed Down (λ over. stands-closed)
      (λ goes_on. stands-down)

-- what a phase says, where numbers are added and legs settled
stands-admin : (phase : Phase) (log : List Entry) (fences : List ℕ) (closing_fence : Option ℕ)
    → PhaseStands phase log fences closing_fence → PhaseStands phase (log ++ Admin ∷ []) fences closing_fence
stands-admin phase log fences closing_fence stands = record {
  before_up = λ is.
      all-map (λ fence. LegsAreBelow fence log) (λ fence. LegsAreBelow fence (log ++ Admin ∷ []))
      (λ fence below. legs-admin (λ number leg. number < fence) log below) fences (stands.before_up is);
  closing =
      λ is.
      (let close = stands.closing is in
      (close.0, close.1, legs-admin (λ number leg. number < close.0) log close.2));
  logged_out = λ is. legs-admin (λ number leg. leg.state ≡ Doubt → ⊥) log (stands.logged_out is);
}

stands-settled : (test : ℕ → Bool) (state : LegState) → (state ≡ Doubt → ⊥) → (state ≡ Queued → ⊥)
    → (phase : Phase) (log : List Entry) (fences : List ℕ) (closing_fence : Option ℕ)
    → PhaseStands phase log fences closing_fence
    → PhaseStands phase (settled_where test state 1 log) fences closing_fence
stands-settled test state not_doubt not_queued phase log fences closing_fence stands = record {
  before_up = λ is.
      all-map (λ fence. LegsAreBelow fence log) (λ fence. LegsAreBelow fence (settled_where test state 1 log))
      (λ fence below. below-settled test state not_doubt not_queued fence log below) fences (stands.before_up is);
  closing =
      λ is.
      (let close = stands.closing is in
      (close.0, close.1, below-settled test state not_doubt not_queued close.0 log close.2));
  logged_out = λ is. no_doubt-settled test state not_doubt not_queued log (stands.logged_out is);
}

-- every leg is below the next number
legs_below_next : (log : List Entry) → LegsAreBelow (length log + 1) log
legs_below_next log number leg is = (let bound = numbered-bound number log (Sent leg) is in omega (arith, bound.1))

-- a new session
pub sound-new : (config : ConfigParts) → IsConfig config → IsSound (new_session config)
sound-new config is = record {
  config = is;
  numbers = record {
    limited = (let from = is.max_number_from in omega arith);
    settled_sent = omega arith;
    logon_sent = omega arith;
  };
  expected = record { from = omega arith; to = omega arith; pending = λ noted. absurd cc };
  fences = tt;
  legs = record {
    doubt = λ number leg there. absurd (none number leg there);
    sent = λ number leg there. absurd (none number leg there);
    rise = λ number leg there. absurd (none number leg there);
  };
  phase = stands-down [] [] None;
}
  where
    none : (number : ℕ) (leg : SentLeg) → numbered number [] ≡ Some (Sent leg) → ⊥
    none number leg there =
        (let bound = numbered-bound number [] (Sent leg) there in absurd (omega (arith, bound.0, bound.1)))

module _ (s : SessionParts) (is : IsSound s) where
  -- another phase
  pub sound-phase : (phase : Phase) → PhaseStands phase s.log s.current.fences s.current.closing_fence
      → IsSound (record s { phase = phase })
  sound-phase phase stands = record {
    config = is.config;
    numbers = is.numbers;
    expected = is.expected;
    fences = is.fences;
    legs = is.legs;
    phase = stands;
  }

  -- a note is pending, or none is
  pub sound-pending : (pending : Bool) → (pending ≡ true → s.expected ≤ 999999998) → IsSound (with_pending pending s)
  sound-pending pending below = record {
    config = is.config;
    numbers = is.numbers;
    expected = record { from = is.expected.from; to = is.expected.to; pending = below };
    fences = is.fences;
    legs = is.legs;
    phase = is.phase;
  }

  -- the expected number is another one
  pub sound-expected : (expected : ℕ) → s.current.pending ≡ false → 1 ≤ expected → expected ≤ 999999999
      → IsSound (record s { expected = expected })
  sound-expected expected heard from to = record {
    config = is.config;
    numbers = is.numbers;
    expected = record { from = from; to = to; pending = λ noted. absurd (let e = sym heard ∙ noted in cc) };
    fences = is.fences;
    legs = is.legs;
    phase = is.phase;
  }

  pub sound-disconnected : (is_over : Bool) → IsSound (disconnected is_over s)
  sound-disconnected is_over = record {
    config = is.config;
    numbers = is.numbers;
    expected = record { from = is.expected.from; to = is.expected.to; pending = λ noted. absurd cc };
    fences = is.fences;
    legs = is.legs;
    phase = stands-ended s.log s.current.fences s.current.closing_fence is_over s.phase;
  }

  -- a number is spent
  numbers-more : (entry : Entry) (logon_number : ℕ) → may_write s ≡ true → logon_number ≤ next_out s
      → NumbersStand (length (s.log ++ entry ∷ []) + 1) s.config.max_number s.settled logon_number
  numbers-more entry logon_number may sent =
      (let below : length s.log + 1 < s.config.max_number = grind (arith, nat_tests, may) in
      let more = length-append s.log (entry ∷ []) in
      let settled = is.numbers.settled_sent in
      record {
        limited = omega (arith, below, more);
        settled_sent = omega (arith, settled, more);
        logon_sent = omega (arith, sent, more);
      })

  logon_so_far : s.current.logon_number ≤ next_out s
  logon_so_far = (let sent = is.numbers.logon_sent in omega (arith, sent))

  fences-more : (entry : Entry) → AllByRecursion (IsFence s.settled (s.log ++ entry ∷ [])) s.current.fences
  fences-more entry =
      all-map (IsFence s.settled s.log) (IsFence s.settled (s.log ++ entry ∷ []))
      (λ fence old. record {
        unsettled = old.unsettled;
        admin = numbered-append fence s.log (entry ∷ []) Admin old.admin;
      })
      s.current.fences is.fences

  pub sound-spending : may_write s ≡ true → IsSound (spending s)
  sound-spending may = record {
    config = is.config;
    numbers = numbers-more Admin s.current.logon_number may logon_so_far;
    expected = is.expected;
    fences = fences-more Admin;
    legs = stand-admin s.settled s.log is.legs;
    phase = stands-admin s.phase s.log s.current.fences s.current.closing_fence is.phase;
  }

  -- a fence is written
  next_below : LegsAreBelow (next_out s) (s.log ++ Admin ∷ [])
  next_below = legs-admin (λ number leg. number < next_out s) s.log (legs_below_next s.log)

  stands-fenced :
      PhaseStands s.phase (s.log ++ Admin ∷ []) (s.current.fences ++ next_out s ∷ []) s.current.closing_fence
  stands-fenced =
      (let base = stands-admin s.phase s.log s.current.fences s.current.closing_fence is.phase in
      record {
        before_up = λ before.
            all-append (λ fence. LegsAreBelow fence (s.log ++ Admin ∷ [])) s.current.fences (next_out s ∷ [])
            (base.before_up before) (next_below, tt);
        closing = base.closing;
        logged_out = base.logged_out;
      })

  pub sound-fenced : may_write s ≡ true → IsSound (spending (fenced s))
  sound-fenced may = record {
    config = is.config;
    numbers = numbers-more Admin s.current.logon_number may logon_so_far;
    expected = is.expected;
    fences =
        all-append (IsFence s.settled (s.log ++ Admin ∷ [])) s.current.fences (next_out s ∷ []) (fences-more Admin)
        (record { unsettled = is.numbers.settled_sent; admin = numbered-next s.log Admin }, tt);
    legs = stand-admin s.settled s.log is.legs;
    phase = stands-fenced;
  }

  -- the close is asked, with its fence
  pub sound-closing : may_write s ≡ true → IsSound (spending (fenced (closing_up s)))
  sound-closing may =
      (let base = sound-fenced may in
      record {
        config = base.config;
        numbers = base.numbers;
        expected = base.expected;
        fences = base.fences;
        legs = base.legs;
        phase = record {
          before_up = λ before. elim before [ inl on ↦ absurd cc | inr on ↦ absurd cc ];
          closing = λ closing. (next_out s, refl, next_below);
          logged_out = λ out. absurd cc;
        };
      })

  -- a new connection
  pub sound-connecting : may_write s ≡ true → IsSound (connecting s)
  sound-connecting may = record {
    config = is.config;
    numbers = numbers-more Admin (next_out s) may (omega arith);
    expected = record { from = is.expected.from; to = is.expected.to; pending = λ noted. absurd cc };
    fences = tt;
    legs = stand-admin s.settled s.log is.legs;
    phase = record { before_up = λ before. tt; closing = λ closing. absurd cc; logged_out = λ out. absurd cc };
  }

  -- a leg is sent
  stands-any : (phase : Phase) (log : List Entry) (fences : List ℕ) (closing_fence : Option ℕ) → phase ≡ Up
      → PhaseStands phase log fences closing_fence
  stands-any phase log fences closing_fence up = rw up (stands-up log fences closing_fence)

  pub sound-sending : (ordinal : ℕ) (leg : Leg) → s.phase ≡ Up → may_write s ≡ true → last_ordinal s.log < ordinal
      → IsSound (sending s ordinal leg)
  sound-sending ordinal leg up may higher =
      (let added : SentLeg = record { ordinal = ordinal; id = leg.id; state = Doubt } in
      record {
        config = is.config;
        numbers = numbers-more (Sent added) s.current.logon_number may logon_so_far;
        expected = is.expected;
        fences = fences-more (Sent added);
        legs = stand-sent s.settled s.log added is.legs refl is.numbers.settled_sent higher;
        phase = stands-any s.phase (s.log ++ Sent added ∷ []) s.current.fences s.current.closing_fence up;
      })

  -- a fence is answered
  pub sound-passing : (fence : ℕ) → IsFence s.settled s.log fence → IsSound (passing fence s)
  sound-passing fence here = record {
    config = is.config;
    numbers =
        (let same = length-settled_where (λ n. nat_lt n fence) Taken 1 s.log in
        let bound = numbered-bound fence s.log Admin here.admin in
        let limited = is.numbers.limited in
        let logon = is.numbers.logon_sent in
        record {
          limited = omega (arith, same, limited);
          settled_sent = omega (arith, same, bound.1);
          logon_sent = omega (arith, same, logon);
        });
    expected = is.expected;
    fences =
        all-filter (IsFence s.settled s.log) (IsFence fence (take_below fence s.log)) (λ later. nat_lt fence later)
        (λ later old higher. record {
          unsettled = grind (arith, nat_tests, higher);
          admin = (later-take_below fence s.log).admin later old.admin;
        })
        s.current.fences is.fences;
    legs = stand-taken s.settled fence s.log is.legs here.admin;
    phase =
        (let base =
        stands-settled (λ n. nat_lt n fence) Taken (λ is. absurd cc) (λ is. absurd cc) s.phase s.log
        s.current.fences s.current.closing_fence is.phase in
        record {
          before_up = λ before.
              all-filter (λ later. LegsAreBelow later (take_below fence s.log))
              (λ later. LegsAreBelow later (take_below fence s.log))
              (λ later. nat_lt fence later) (λ later below higher. below) s.current.fences (base.before_up before);
          closing = base.closing;
          logged_out = base.logged_out;
        });
  }

  -- every leg in doubt is settled
  pub sound-settling_at : (number : ℕ) → IsSound (settling_at number s)
  sound-settling_at number =
      (let taken = take_below number s.log in
      let same : length (give_up_from number taken) ≡ length s.log =
      length-settled_where (λ n. nat_le number n) Withdrawn 1 taken ∙ length-settled_where
      (λ n. nat_lt n number) Taken 1 s.log in
      let limited = is.numbers.limited in
      let settled = is.numbers.settled_sent in
      let logon = is.numbers.logon_sent in
      record {
        config = is.config;
        numbers = record {
          limited = omega (arith, same, limited);
          settled_sent = omega (arith, same, settled);
          logon_sent = omega (arith, same, logon);
        };
        expected = is.expected;
        fences =
            all-map (IsFence s.settled s.log) (IsFence s.settled (give_up_from number taken))
            (λ fence old. record {
              unsettled = old.unsettled;
              admin =
                  (later-give_up_from number taken).admin fence ((later-take_below number s.log).admin fence old.admin);
            })
            s.current.fences is.fences;
        legs = stand-given_up s.settled number s.log is.legs;
        phase =
            stands-settled (λ n. nat_le number n) Withdrawn (λ is. absurd cc)
            (λ is. absurd cc) s.phase taken s.current.fences s.current.closing_fence
            (stands-settled (λ n. nat_lt n number) Taken (λ is. absurd cc) (λ is. absurd cc) s.phase s.log
            s.current.fences s.current.closing_fence is.phase);
      })
