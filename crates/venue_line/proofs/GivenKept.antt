-- What is given to the book is kept where a message is received.
use Rattle.std.proofs.Common.{◌≡◌, ◌<◌, ◌-◌, ◌⊎◌, ℕ, suc, Bool, true, false, List, [], ◌∷◌, ◌++◌, length, Option, Some, None, refl, sym, ap, subst, ◌∙◌, inl, inr, arith, if◌then◌else◌}
use Rattle.std.specs.List.{Contains}
use Rattle.std.proofs.lemmas.List.{append-nil}
use Rattle.leg.specs.Numbered.{numbered}
use Rattle.dialect.specs.declared.note.Note.{Note}
use Rattle.dialect.specs.declared.content.Content.{Content}
use Rattle.dialect.specs.declared.message.Message.{Message}
use Rattle.resend.specs.Later.{IsLater}
use Rattle.resend.proofs.Later.{later-refl}
use Rattle.session_core.specs.Session.{SessionParts, is_connected}
use Rattle.session_core.specs.Turn.{Turn, quietly, counting, with_pending}
use Rattle.session_core.specs.Receiving.{receive, confirm, hearing}
use Rattle.session_core.proofs.Received.{receive_is_received}
use Rattle.exchange_core.specs.Acceptance.{IsGap}
use Rattle.exchange_core.specs.Keeping.{carried}
use Rattle.venue_line.specs.Line.{Line, noted, latest, after_turn, after_hearing, after_booking}
use Rattle.venue_line.specs.Copies.{IsReportOrRefusal}
use Rattle.venue_line.specs.LineInvariant.{LineInvariant}
use Rattle.venue_line.specs.Notes.{note_under, notes_under}
use Rattle.venue_line.specs.DeliveredReports.{IsPlainSaid, IsUnder, Given}
use Rattle.venue_line.proofs.Kept.{numbered_contains}
use Rattle.session_core.specs.Counting.{note_for, Quiet, Counted, stays, counted, passed, gives}
use Rattle.session_core.proofs.Counted.{connected_counted}
use Rattle.venue_line.proofs.GivenLater.{note_later, OneMore, one_more, Skipped, skips, given_of, given_same, notes_now, plain_has_no_note}

-- a message that is received
module _ (w : Line) (m : Message) (there : Contains w.from_exchange (carried w.session.connection m))
    (i : LineInvariant w) (g : Given w) where
  abbrev turn : Turn
  turn = receive w.session m

  later : IsLater w.session.log turn.session.log
  later = (receive_is_received w.session m).onward.log

  under : IsUnder w.session.log w.exchange.own (carried w.session.connection m)
  under = g.heard (carried w.session.connection m) there

  -- with another front, and no note pending
  given_by : (s : SessionParts) (waiting : Option Note) (given : List Note) (front back : List (Option Content))
      → s.log ≡ turn.session.log → w.exchange.own ≡ front ++ back → s.expected ≡ suc (length front)
      → s.current.pending ≡ false → given ≡ notes_under turn.session.log front
      → Given (record (after_turn w turn) { session = s; waiting = waiting; given = given })
  given_by s waiting given front back log whole expected pending notes =
      given_of w s w.released w.left _ waiting given front back (subst (IsLater w.session.log) (sym log) later) whole
      expected (λ is. absurd (let e = sym is ∙ pending in cc)) (notes ∙ ap (λ l. notes_under l front) (sym log)) g

  handed : w.given ≡ notes_under turn.session.log g.front
  handed = notes_now w turn.session.log later g

  -- nothing was noted
  record NoNote : Type 0 where
    none : turn.step.note ≡ None
    pending : turn.session.current.pending ≡ false
    given : (waiting : Option Note) → Given (record (after_turn w turn) { waiting = waiting; given = w.given })

  no_note : (next : ℕ) (front back : List (Option Content)) → Quiet next turn → w.exchange.own ≡ front ++ back
      → next ≡ suc (length front)
      → notes_under turn.session.log front ≡ notes_under turn.session.log g.front → NoNote
  no_note next front back q whole expected same = record {
    none = q.note;
    pending = q.pending;
    given = λ waiting.
        given_by turn.session waiting w.given front back refl whole (q.expected ∙ expected) q.pending
        (handed ∙ sym same);
  }

  -- or the note of the own number that is expected
  record HasNote : Type 0 where
    note : Note
    is : turn.step.note ≡ Some note
    pending : turn.session.current.pending ≡ true
    expected : turn.session.expected ≡ w.session.expected
    kept : numbered w.session.expected w.exchange.own ≡ Some (Some m.content)
    now : note_for turn.session.log m.content ≡ Some note

  at_front : m.number ≡ w.session.expected → m.number ≡ suc (length g.front)
  at_front due = due ∙ g.expected

  entry_here : (x : Option Content) → numbered w.session.expected w.exchange.own ≡ Some x
      → OneMore turn.session.log g.front g.back x
  entry_here x is =
      one_more turn.session.log g.front g.back x
      (subst (λ l. numbered (suc (length g.front)) l ≡ Some x) g.whole
      (subst (λ k. numbered k w.exchange.own ≡ Some x) g.expected is))

  at_expected : (x : Option Content) → m.number ≡ w.session.expected → numbered m.number w.exchange.own ≡ Some x
      → numbered w.session.expected w.exchange.own ≡ Some x
  at_expected x due is = subst (λ k. numbered k w.exchange.own ≡ Some x) due is

  counts_on : (x : Option Content) → note_under turn.session.log x ≡ [] → m.number ≡ w.session.expected
      → numbered m.number w.exchange.own ≡ Some x → Quiet (suc w.session.expected) turn → NoNote
  counts_on x none due is q =
      let more = entry_here x (at_expected x due is) in
      let count = more.count in
      let before = g.expected in
      no_note (suc w.session.expected) (g.front ++ x ∷ []) more.rest q (g.whole ∙ more.whole) (omega arith)
      (more.notes
      ∙ (ap (λ l. notes_under turn.session.log g.front ++ l) none ∙ append-nil (notes_under turn.session.log g.front)))

  note_now : (content : Content) (n : Option Note) → Contains w.exchange.own (Some content)
      → note_for w.session.log content ≡ n → note_for turn.session.log content ≡ n
  note_now content n in' is = note_later w.session.log turn.session.log content later (g.names content in') ∙ is

  kept_in : numbered m.number w.exchange.own ≡ Some (Some m.content) → Contains w.exchange.own (Some m.content)
  kept_in is = numbered_contains m.number w.exchange.own (Some m.content) is

  passes : (new_number : ℕ) → m.number ≡ w.session.expected → m.number < new_number
      → IsGap w.exchange.own m.number new_number → Quiet new_number turn → NoNote
  passes new_number due forward gap q =
      let here = at_front due in
      let skip : Skipped turn.session.log g.front g.back new_number =
      skips (new_number - suc (length g.front)) turn.session.log g.front g.back new_number (omega arith)
      (λ k low high. subst (λ l. numbered k l ≡ Some None) g.whole (gap.plain k (omega arith) high)) in
      no_note new_number skip.front' skip.back' q (g.whole ∙ skip.whole) skip.count skip.notes

  by_count : Counted (hearing w.session) m.number m.content turn → NoNote ⊎ HasNote
  by_count (stays q) = inl (no_note w.session.expected g.front g.back q g.whole g.expected refl)
  by_count (counted due none q) =
      elim under [
        | inl kept ↦
            inl (counts_on (Some m.content) (ap noted (note_now m.content None (kept_in kept) none)) due kept q)
        | inr plain ↦ inl (counts_on None refl due plain.0 q)
      ]
  by_count (passed due new_number is forward q) =
      elim under [
        | inl kept ↦ absurd (subst IsReportOrRefusal is (i.copies.own_carries m.number m.content kept))
        | inr plain ↦
            inl (passes new_number due forward
            (subst (IsPlainSaid w.session.log w.exchange.own m.number) is plain.1) q)
      ]
  by_count (gives due given is expected pending noted_is) =
      elim under [
        | inr plain ↦ absurd (plain_has_no_note w.session.log w.exchange.own m.number m.content given plain.1 is)
        | inl kept ↦
            inr (record {
              note = given;
              is = noted_is;
              pending = pending;
              expected = expected;
              kept = at_expected (Some m.content) due kept;
              now = note_now m.content (Some given) (kept_in kept) is;
            })
      ]

  module _ (on : is_connected w.session.phase ≡ true) where
    found : NoNote ⊎ HasNote
    found = by_count (connected_counted w.session m on)

    -- what is noted is booked at once
    abbrev Goal : SessionParts → Type 0
    Goal s = Given (record (after_turn w turn) { session = s })

    unconfirmed : (s : SessionParts) → s.current.pending ≡ false → confirm s ≡ s
    unconfirmed s is = rw is refl

    pub given_received : Goal (confirm turn.session)
    given_received =
        elim found [
          | inl n ↦
              subst Goal (sym (unconfirmed turn.session n.pending))
              (subst (λ l. Given (record (after_turn w turn) { given = l }))
              (sym (ap (λ o. w.given ++ noted o) n.none ∙ append-nil w.given)) (n.given w.waiting))
          | inr h ↦
              (let more = entry_here (Some m.content) h.kept in
              let count = more.count in
              let before = g.expected in
              let expected = h.expected in
              let all : w.given ++ noted turn.step.note
              ≡ notes_under turn.session.log (g.front ++ Some m.content ∷ []) =
              ap (λ n. w.given ++ noted n) h.is
              ∙ (ap (λ l. l ++ h.note ∷ []) handed
              ∙ (ap (λ n. notes_under turn.session.log g.front ++ noted n) (sym h.now) ∙ sym more.notes)) in
              let confirmed : confirm turn.session ≡ with_pending false (counting turn.session) = rw h.pending refl in
              subst Goal (sym confirmed)
              (given_by (with_pending false (counting turn.session)) w.waiting (w.given ++ noted turn.step.note)
              (g.front ++ Some m.content ∷ []) more.rest refl (g.whole ∙ more.whole) (omega arith) refl all))
        ]

    -- or it waits
    heard_on : Given (after_hearing w turn)
    heard_on =
        elim found [
          | inl n ↦ n.given (latest w.waiting turn.step.note)
          | inr h ↦
              given_of w turn.session w.released w.left _ (latest w.waiting turn.step.note) w.given g.front g.back
              later g.whole (h.expected ∙ g.expected)
              (λ pending.
              record {
                content = m.content;
                next = subst (λ k. numbered k w.exchange.own ≡ Some (Some m.content)) (sym h.expected) h.kept;
                note = ap (latest w.waiting) h.is ∙ sym h.now;
              })
              handed g
        ]

  pub given_heard : Given (after_hearing w turn)
  given_heard = by_connection (is_connected w.session.phase) refl
    where
      still : Given (after_hearing w (quietly w.session))
      still =
          given_same w w.released w.left w.session _ (later-refl w.session.log)
          (record { expected = refl; pending = λ is. is }) g

      by_connection : (on : Bool) → is_connected w.session.phase ≡ on → Given (after_hearing w turn)
      by_connection true on = heard_on on
      by_connection false off =
          let same : turn ≡ quietly w.session = rw off refl in
          subst (λ t. Given (after_hearing w t)) (sym same) still

-- the note that waits is booked, if one waits
pub given_booked : (w : Line) → Given w → Given (after_booking w)
given_booked w g = booked_if w.session.current.pending refl
  where
    booked_if : (pending : Bool) → w.session.current.pending ≡ pending
        → Given (record w {
          session = if pending then with_pending false (counting w.session) else w.session;
          given = w.given ++ (if pending then noted w.waiting else []);
        })
    booked_if false is =
        given_of w w.session w.released w.left w.to_exchange w.waiting (w.given ++ []) g.front g.back
        (later-refl w.session.log) g.whole g.expected g.waits (append-nil w.given ∙ g.given) g
    booked_if true is =
        let i = g.waits is in
        let more = one_more w.session.log g.front g.back (Some i.content)
        (subst (λ l. numbered (suc (length g.front)) l ≡ Some (Some i.content)) g.whole
        (subst (λ k. numbered k w.exchange.own ≡ Some (Some i.content)) g.expected i.next)) in
        let count = more.count in
        let before = g.expected in
        given_of w (with_pending false (counting w.session)) w.released w.left w.to_exchange w.waiting
        (w.given ++ noted w.waiting) (g.front ++ Some i.content ∷ []) more.rest (later-refl w.session.log)
        (g.whole ∙ more.whole) (omega arith) (λ pending. absurd cc)
        (ap (λ l. l ++ noted w.waiting) g.given
        ∙ (ap (λ n. notes_under w.session.log g.front ++ noted n) i.note ∙ sym more.notes)) g
