-- Parts of a turn that add numbers of the session, and nothing else.
use Rattle.std.proofs.Common.{◌≡◌, ◌≤◌, ◌⊎◌, ◌+◌, ℕ, Bool, true, false, List, [], ◌∷◌, ◌++◌, length, Option, Some, None, refl, sym, ap, subst, ◌∙◌, inl, inr, append_assoc, length-append, if◌then◌else◌, arith}
use Rattle.std.proofs.lemmas.List.{append-nil}
use Rattle.leg.specs.Growing.{Grew}
use Rattle.dialect.specs.Addressed.{message_of}
use Rattle.dialect.specs.declared.content.Content.{Content}
use Rattle.dialect.specs.declared.message.Message.{Message}
use Rattle.dialect.specs.declared.content.Content.TheVariants.{Session}
use Rattle.fix_tags.specs.declared.session_body.SessionBody.TheVariants.{TestRequest, ResendRequest, GapFill}
use Rattle.resend.specs.Log.{Entry, GapFillParts, last_ordinal}
use Rattle.resend.specs.Log.Entry.{Admin}
use Rattle.resend.specs.Later.{IsLater, WithdrawsNone, withdrawn_since}
use Rattle.resend.proofs.Later.{later-refl, later-trans, later-append, later-added, withdraws_none-trans, withdraws_none-admin}
use Rattle.resend.proofs.Settled.{since-append}
use Rattle.session_core.specs.declared.phase.Phase.{Phase}
use Rattle.session_core.specs.declared.ended.Ended.{Ended}
use Rattle.session_core.specs.Session.{SessionParts, next_out, may_write}
use Rattle.session_core.specs.Turn.{Turn, quietly, with_session, with_message, spending, fence_id, fenced, asking, puts, puts_fence, writes, writes_fence, asks, fills, counts, logs_out, ends_turn, unless_ended}
use Rattle.session_core.specs.Receiving.{counts_if, asks_if, in_phase, filled_if, asks_missing, asks_anew}
use Rattle.session_core.specs.Onward.{IsOnward, KeepsLegs, IsCall, SparesLegs, SettlesAsTold, new_numbers, AreNext, SpendsNumbers}
use Rattle.session_core.proofs.Ordinals.{last-admin}
use Rattle.session_core.proofs.Told.{more-told}

-- a choice by a test has what both choices have
pub chosen : {A : Type 0} (P : A → Type 0) (b : Bool) (x y : A) → (b ≡ true → P x) → (b ≡ false → P y)
    → P (if b then x else y)
chosen P true x y on off = on refl
chosen P false x y on off = off refl

-- a log with at most one message of the session more
abbrev pub OneMore : List Entry → List Entry → Type 0
OneMore old new = (new ≡ old) ⊎ (new ≡ old ++ Admin ∷ [])

numbers_if : (b : Bool) (n : ℕ) (ns more all : List ℕ) → all ≡ ns ++ more
    → (if b then all else n ∷ all) ≡ (if b then ns else n ∷ ns) ++ more
numbers_if true n ns more all e = e
numbers_if false n ns more all e = ap (λ l. n ∷ l) e

new_numbers-append : (ms more : List Message) → new_numbers (ms ++ more) ≡ new_numbers ms ++ new_numbers more
new_numbers-append [] more = refl
new_numbers-append (m ∷ ms) more =
    numbers_if m.poss_dup m.number (new_numbers ms) (new_numbers more) (new_numbers (ms ++ more))
    (new_numbers-append ms more)

are_next-append : (a b c : ℕ) (ns ms : List ℕ) → AreNext a ns b → AreNext b ms c → AreNext a (ns ++ ms) c
are_next-append a b c [] ms first next = subst (λ n. AreNext n ms c) first next
are_next-append a b c (n ∷ ns) ms first next = (first.0, are_next-append (a + 1) b c ns ms first.1 next)

-- the numbers of what was written since
abbrev pub NumbersMore : Turn → Turn → Type 0
NumbersMore t u =
    (more : List ℕ) × (new_numbers u.step.written ≡ new_numbers t.step.written ++ more)
    × AreNext (next_out t.session) more (next_out u.session)

none_more : (t u : Turn) → new_numbers u.step.written ≡ new_numbers t.step.written → u.session.log ≡ t.session.log
    → NumbersMore t u
none_more t u written log =
    ([], written ∙ sym (append-nil (new_numbers t.step.written)), ap (λ (l : List Entry). length l + 1) log)

-- a message under the next number, which is spent on it
one_number : (t u : Turn) (m : Message) → m.number ≡ next_out t.session → m.poss_dup ≡ false
    → u.step.written ≡ t.step.written ++ m ∷ [] → u.session.log ≡ t.session.log ++ Admin ∷ [] → NumbersMore t u
one_number t u m number new written log = (
  m.number ∷ [],
  ap new_numbers written
      ∙ (new_numbers-append t.step.written (m ∷ [])
      ∙ ap (λ (b : Bool). new_numbers t.step.written ++ (if b then [] else m.number ∷ [])) new),
  (number, rw log (omega (arith, length-append t.session.log (Admin ∷ [])))),
)

-- what a part of a turn does that adds at most a message of the session
pub record Adds (t u : Turn) : Type 0 where
  pub config : u.session.config ≡ t.session.config
  pub log : OneMore t.session.log u.session.log
  pub connection : u.session.connection ≡ t.session.connection
  pub expected : t.session.expected ≤ u.session.expected
  pub close_asked : u.session.close_asked ≡ t.session.close_asked
  pub withdrawn : u.step.withdrawn ≡ t.step.withdrawn
  pub note : u.step.note ≡ t.step.note
  pub numbers : NumbersMore t u

-- where no number is spent
adds-none : (t u : Turn) → u.session.config ≡ t.session.config → u.session.log ≡ t.session.log
    → u.session.connection ≡ t.session.connection → t.session.expected ≤ u.session.expected
    → u.session.close_asked ≡ t.session.close_asked → u.step.withdrawn ≡ t.step.withdrawn → u.step.note ≡ t.step.note
    → new_numbers u.step.written ≡ new_numbers t.step.written → Adds t u
adds-none t u config log connection expected close_asked withdrawn note written = record {
  config = config;
  log = inl log;
  connection = connection;
  expected = expected;
  close_asked = close_asked;
  withdrawn = withdrawn;
  note = note;
  numbers = none_more t u written log;
}

pub adds-refl : (t : Turn) → Adds t t
adds-refl t = adds-none t t refl refl refl (omega arith) refl refl refl refl

-- a message of the session behind those that are written already
one_written : (t : Turn) (s : SessionParts) (m : Message) → s.config ≡ t.session.config
    → s.log ≡ t.session.log ++ Admin ∷ [] → s.connection ≡ t.session.connection → t.session.expected ≤ s.expected
    → s.close_asked ≡ t.session.close_asked → m.number ≡ next_out t.session → m.poss_dup ≡ false
    → Adds t (with_message m (with_session s t))
one_written t s m config log connection expected close_asked number new = record {
  config = config;
  log = inr log;
  connection = connection;
  expected = expected;
  close_asked = close_asked;
  withdrawn = refl;
  note = refl;
  numbers = one_number t (with_message m (with_session s t)) m number new refl log;
}

pub adds-puts : (content : Content) (t : Turn) → Adds t (puts content t)
adds-puts content t =
    one_written t (spending t.session) (message_of t.session.config (next_out t.session) false content)
    refl refl refl (omega arith) refl refl refl

pub adds-writes : (content : Content) (t : Turn) → Adds t (writes content t)
adds-writes content t =
    chosen (Adds t) (may_write t.session) (puts content t) t (λ may. adds-puts content t) (λ spent. adds-refl t)

pub adds-puts_fence : (t : Turn) → Adds t (puts_fence t)
adds-puts_fence t =
    one_written t (spending (fenced t.session))
    (message_of t.session.config (next_out t.session) false (Session (TestRequest (fence_id (next_out t.session)))))
    refl refl refl (omega arith) refl refl refl

pub adds-writes_fence : (t : Turn) → Adds t (writes_fence t)
adds-writes_fence t =
    chosen (Adds t) (may_write t.session) (puts_fence t) t (λ may. adds-puts_fence t) (λ spent. adds-refl t)

pub adds-asks : (t : Turn) → Adds t (asks t)
adds-asks t =
    chosen (Adds t) (may_write t.session)
    (puts (Session (ResendRequest t.session.expected 0)) (with_session (asking t.session) t)) t
    (λ may. one_written t (spending (asking t.session))
    (message_of t.session.config (next_out t.session) false (Session (ResendRequest t.session.expected 0)))
    refl refl refl (omega arith) refl refl refl)
    (λ spent. adds-refl t)

pub adds-asks_if : (b : Bool) (t : Turn) → Adds t (asks_if b t)
adds-asks_if true t = adds-asks t
adds-asks_if false t = adds-refl t

pub adds-fills : (fill : GapFillParts) (t : Turn) → Adds t (fills fill t)
adds-fills fill t =
    (let filled : Message = message_of t.session.config fill.first true (Session (GapFill fill.new_number)) in
    adds-none t (fills fill t) refl refl refl (omega arith) refl refl refl
    (new_numbers-append t.step.written (filled ∷ []) ∙ append-nil (new_numbers t.step.written)))

pub adds-filled_if : (fill : Option GapFillParts) (t : Turn) → Adds t (filled_if fill t)
adds-filled_if None t = adds-refl t
adds-filled_if (Some fill) t = adds-fills fill t

pub adds-counts : (t : Turn) → Adds t (counts t)
adds-counts t = adds-none t (counts t) refl refl refl (omega arith) refl refl refl refl

pub adds-in_phase : (phase : Phase) (t : Turn) → Adds t (in_phase phase t)
adds-in_phase phase t = adds-none t (in_phase phase t) refl refl refl (omega arith) refl refl refl refl

pub adds-ends_turn : (why : Ended) (t : Turn) → Adds t (ends_turn why t)
adds-ends_turn why t = adds-none t (ends_turn why t) refl refl refl (omega arith) refl refl refl refl

pub adds-logs_out : (s : SessionParts) → Adds (quietly s) (logs_out s)
adds-logs_out s =
    (let wrote = adds-writes _ (quietly s) in
    record {
      config = wrote.config;
      log = wrote.log;
      connection = wrote.connection;
      expected = wrote.expected;
      close_asked = wrote.close_asked;
      withdrawn = wrote.withdrawn;
      note = wrote.note;
      numbers = wrote.numbers;
    })

adds-unless_ended : (next : Turn → Turn) (t : Turn) (ended : Option Ended) → Adds t (next t)
    → Adds t (unless_ended next t ended)
adds-unless_ended next t None goes = goes
adds-unless_ended next t (Some why) goes = adds-refl t

pub adds-counts_if : (due : Bool) (t : Turn) → Adds t (counts_if due t)
adds-counts_if true t = adds-unless_ended counts t t.step.ended (adds-counts t)
adds-counts_if false t = adds-refl t

adds-asks_anew : (t : Turn) → Adds t (asks_anew t)
adds-asks_anew t = chosen (Adds t) _ t (asks t) (λ over. adds-refl t) (λ over. adds-asks t)

pub adds-asks_missing : (t : Turn) → Adds t (asks_missing t)
adds-asks_missing t = adds-unless_ended asks_anew t t.step.ended (adds-asks_anew t)

-- such a part keeps what a turn does to the session before it
later-one_more : (old new : List Entry) → OneMore old new → IsLater old new
later-one_more old new (inl same) = rw same (later-refl old)
later-one_more old new (inr more) = rw more (later-append old (Admin ∷ []))

withdraws_none-one_more : (old new : List Entry) → OneMore old new → WithdrawsNone old new
withdraws_none-one_more old new (inl same) = rw same (λ number leg is gone. is)
withdraws_none-one_more old new (inr more) = rw more (withdraws_none-admin old)

since-one_more : (first old new : List Entry) → length first ≤ length old → OneMore old new
    → withdrawn_since first new ≡ withdrawn_since first old
since-one_more first old new fits (inl same) = ap (withdrawn_since first) same
since-one_more first old new fits (inr more) =
    ap (withdrawn_since first) more ∙ since-append first old (Admin ∷ []) fits

spends_by : (s : SessionParts) (t u : Turn) → SpendsNumbers s t.step.written t.session → NumbersMore t u
    → SpendsNumbers s u.step.written u.session
spends_by s t u before more =
    rw more.1
    (are_next-append (next_out s) (next_out t.session) (next_out u.session) (new_numbers t.step.written) more.0 before
    more.2)

last-one_more : (old new : List Entry) → OneMore old new → last_ordinal new ≡ last_ordinal old
last-one_more old new (inl same) = ap last_ordinal same
last-one_more old new (inr more) = ap last_ordinal more ∙ last-admin 0 old

settles-one_more : (told : Option ℕ) (first old new : List Entry) → OneMore old new → SettlesAsTold told first old
    → SettlesAsTold told first new
settles-one_more told first old new (inl same) settles = rw same settles
settles-one_more told first old new (inr more) settles = rw more (more-told told first old settles)

-- what a turn does to the session, with whether it may withdraw legs, and which number was told; it sends none
pub record Goes (may : Bool) (told : Option ℕ) (s : SessionParts) (turn : Turn) : Type 0 where
  pub onward : IsOnward s turn.session
  pub last : last_ordinal turn.session.log ≡ last_ordinal s.log
  pub spends : SpendsNumbers s turn.step.written turn.session
  pub named : turn.step.withdrawn ≡ withdrawn_since s.log turn.session.log
  pub spares : may ≡ false → SparesLegs s turn
  pub settles : SettlesAsTold told s.log turn.session.log

pub received_by : (may : Bool) (told : Option ℕ) (s : SessionParts) (t u : Turn) → Goes may told s t → Adds t u
    → Goes may told s u
received_by may told s t u goes adds = record {
  onward = record {
    config = adds.config ∙ goes.onward.config;
    log =
        later-trans s.log t.session.log u.session.log goes.onward.log
        (later-one_more t.session.log u.session.log adds.log);
    connection = (let h = goes.onward.connection in omega (arith, adds.connection));
    expected = (let h = goes.onward.expected in omega (arith, adds.expected));
    close_asked = λ asked. adds.close_asked ∙ goes.onward.close_asked asked;
  };
  last = last-one_more t.session.log u.session.log adds.log ∙ goes.last;
  spends = spends_by s t u goes.spends adds.numbers;
  named =
      adds.withdrawn
      ∙ (goes.named ∙ sym (since-one_more s.log t.session.log u.session.log goes.onward.log.last adds.log));
  spares = λ not_now.
      (let before = goes.spares not_now in
      record {
        named = adds.withdrawn ∙ before.named;
        settled =
            withdraws_none-trans s.log t.session.log u.session.log before.settled
            (withdraws_none-one_more t.session.log u.session.log adds.log);
      });
  settles = settles-one_more told s.log t.session.log u.session.log adds.log goes.settles;
}

added-one_more : (first old new : List Entry) → Grew first old → OneMore old new → Grew first new
added-one_more first old new added (inl same) = (added.0, same ∙ added.1)
added-one_more first old new added (inr more) =
    (added.0 ++ Admin ∷ [], more ∙ (ap (λ log. log ++ Admin ∷ []) added.1 ∙ append_assoc first added.0 (Admin ∷ [])))

-- where the log has numbers added, nothing else has to be said of it
pub keeps_with : (s t : SessionParts) → t.config ≡ s.config → Grew s.log t.log → s.connection ≤ t.connection
    → s.expected ≤ t.expected → (s.close_asked ≡ true → t.close_asked ≡ true) → KeepsLegs s t
keeps_with s t config added connection expected close_asked = record {
  onward = record {
    config = config;
    log = later-added s.log t.log added;
    connection = connection;
    expected = expected;
    close_asked = close_asked;
  };
  added = added;
}

pub call_by : (s : SessionParts) (t u : Turn) → IsCall s t.step t.session → Adds t u → IsCall s u.step u.session
call_by s t u is adds = record {
  keeps = keeps_with s u.session
      (adds.config ∙ is.keeps.onward.config)
      (added-one_more s.log t.session.log u.session.log is.keeps.added adds.log)
      (let h = is.keeps.onward.connection in omega (arith, adds.connection))
      (let h = is.keeps.onward.expected in omega (arith, adds.expected))
      (λ asked. adds.close_asked ∙ is.keeps.onward.close_asked asked);
  spends = spends_by s t u is.spends adds.numbers;
  note = adds.note ∙ is.note;
  withdrawn = adds.withdrawn ∙ is.withdrawn;
}

-- a session is onward from itself, and what is onward from a session that is onward is so too
pub onward-refl : (s : SessionParts) → IsOnward s s
onward-refl s = record {
  config = refl;
  log = later-refl s.log;
  connection = omega arith;
  expected = omega arith;
  close_asked = λ asked. asked;
}

pub onward-trans : (s t u : SessionParts) → IsOnward s t → IsOnward t u → IsOnward s u
onward-trans s t u first next = record {
  config = next.config ∙ first.config;
  log = later-trans s.log t.log u.log first.log next.log;
  connection = (let h = first.connection in omega (arith, next.connection));
  expected = (let h = first.expected in omega (arith, next.expected));
  close_asked = λ asked. next.close_asked (first.close_asked asked);
}
