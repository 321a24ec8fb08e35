-- At each moment the bytes that the last connection took are the first ones of the frames of what was written in it.
use Rattle.std.proofs.Common.{◌≡◌, ◌<◌, ◌⊎◌, ℕ, zero, suc, false, List, [], ◌∷◌, ◌++◌, map, take, Some, None, refl, sym, ap, subst, ◌∙◌, inl, inr, append_assoc, arith}
use Rattle.std.specs.List.{concat}
use Rattle.std.proofs.lemmas.List.{append-nil, map-append}
use Rattle.std.proofs.lemmas.List.Folds.{concat-append}
use mathlib.Core.List.{IsPrefix}
use Rattle.fix_tags.specs.Stamp.{StampParts}
use Rattle.dialect.specs.declared.message.Message.{Message}
use Rattle.dialect.specs.declared.outgoing.Outgoing.{Outgoing}
use Rattle.dialect.specs.Framed.{AreFramed}
use Rattle.dialect.specs.Outgoing.{alone}
use Rattle.dialect.specs.Wording.{Encoding, Wording}
use Rattle.link.specs.Traffic.{Traffic, Tells, Dials, Takes, Stays}
use Rattle.session_core.specs.declared.phase.Phase.TheVariants.{Down}
use Rattle.session_core.specs.declared.session_call.SessionCall.{SessionCall}
use Rattle.session_core.specs.declared.session_call.SessionCall.TheVariants as call
use Rattle.session_core.specs.Calling.{broken}
use Rattle.session_core.specs.Session.{SessionParts, is_connected}
use Rattle.session_core.specs.Trial.{called, after_calls}
use Rattle.session_worker.specs.Hearing.{Said, said_with}
use Rattle.session_worker.specs.Speaking.{Wire, Reads, TakesFirst, IsGivenUp, Puts, messages_in, Speaks, Speak}
use Rattle.worker_line.specs.Wire.{AreWritten, AreFirstOf, written_with, written_after, HasWritten, wire_at, TheWritingTheorem}
use Rattle.worker_line.proofs.SameConnection.{IsWithin, called_on, called_off, broken_off}

module _ (w : Encoding) where
  -- the frames of a call, behind those before it
  call_written : (ms : List Message) (stamp : StampParts) (more : List (List ℕ)) → AreFramed w stamp (map alone ms) more
      → AreWritten w (map alone ms) more
  call_written [] stamp [] framed = tt
  call_written [] stamp (bytes ∷ more) framed = absurd framed
  call_written (m ∷ ms) stamp [] framed = absurd framed
  call_written (m ∷ ms) stamp (bytes ∷ more) framed = ((stamp, framed.0), call_written ms stamp more framed.1)

  written_more : (written more : List Outgoing) (frames others : List (List ℕ)) → AreWritten w written frames
      → AreWritten w more others → AreWritten w (written ++ more) (frames ++ others)
  written_more [] more [] others are next = next
  written_more [] more (first ∷ frames) others are next = absurd are
  written_more (out ∷ written) more [] others are next = absurd are
  written_more (out ∷ written) more (first ∷ frames) others are next =
      (are.0, written_more written more frames others are.1 next)

  -- all bytes of the frames
  pub record AreAllOf (written : List Message) (bytes : List ℕ) : Type 0 where
    pub frames : List (List ℕ)
    pub are : AreWritten w (map alone written) frames
    pub all : bytes ≡ concat frames

  first_of_all : (written : List Message) (bytes : List ℕ) → AreAllOf written bytes
      → AreFirstOf w (map alone written) bytes
  first_of_all written bytes is =
      record { frames = is.frames; are = is.are; first = ([], append-nil bytes ∙ is.all) }

  -- none was written
  all_none : AreAllOf [] []
  all_none = record { frames = []; are = tt; all = refl }

  none_first : (written : List Message) (bytes : List ℕ) → AreFirstOf w (map alone written) bytes
      → AreFirstOf w (map alone written) []
  none_first written bytes is =
      record { frames = is.frames; are = is.are; first = (concat is.frames, refl) }

  -- with the frames of a call, whole or not
  module _ (written ms : List Message) (stamp : StampParts) (frames : List (List ℕ))
      (framed : AreFramed w stamp (map alone ms) frames) where
    are_more : (before : List (List ℕ)) → AreWritten w (map alone written) before
        → AreWritten w (map alone (written ++ ms)) (before ++ frames)
    are_more before are =
        subst (λ (l : List Outgoing). AreWritten w l (before ++ frames)) (sym (map-append alone written ms))
        (written_more (map alone written) (map alone ms) before frames are (call_written ms stamp frames framed))

    all_more : (bytes : List ℕ) → AreAllOf written bytes → AreAllOf (written ++ ms) (bytes ++ concat frames)
    all_more bytes is = record {
      frames = is.frames ++ frames;
      are = are_more is.frames is.are;
      all = ap (λ (l : List ℕ). l ++ concat frames) is.all ∙ sym (concat-append is.frames frames);
    }

    first_more : (bytes first : List ℕ) → IsPrefix first (concat frames) → AreAllOf written bytes
        → AreFirstOf w (map alone (written ++ ms)) (bytes ++ first)
    first_more bytes first prefix is = record {
      frames = is.frames ++ frames;
      are = are_more is.frames is.are;
      first = (
        prefix.0,
        append_assoc bytes first prefix.0
            ∙ (ap (λ (l : List ℕ). bytes ++ l) prefix.1
            ∙ (ap (λ (l : List ℕ). l ++ concat frames) is.all ∙ sym (concat-append is.frames frames))),
      );
    }

  -- ---- on a link

  -- all of what was written went to the last connection
  abbrev pub HasAll : List Message → Wire → Type 0
  HasAll written None = Unit {0}
  HasAll written (Some []) = ⊥
  HasAll written (Some (last ∷ others)) = AreAllOf written last.written

  some_of_all : (written : List Message) (a : Wire) → HasAll written a → HasWritten w written a
  some_of_all written None has = tt
  some_of_all written (Some []) has = absurd has
  some_of_all written (Some (t ∷ ts)) has = first_of_all written t.written has

  all_read : (written : List Message) (a b : Wire) → Reads a b → HasAll written a → HasAll written b
  all_read written None None reads has = tt
  all_read written None (Some v) reads has = absurd reads
  all_read written (Some u) None reads has = absurd reads
  all_read written (Some []) (Some v) reads has = absurd has
  all_read written (Some (t ∷ ts)) (Some v) reads has =
      subst (λ (l : List Traffic). HasAll written (Some l)) (sym reads.1) has

  pub some_read : (written : List Message) (a b : Wire) → Reads a b → HasWritten w written a → HasWritten w written b
  some_read written None None reads has = tt
  some_read written None (Some v) reads has = absurd reads
  some_read written (Some u) None reads has = absurd reads
  some_read written (Some []) (Some v) reads has = absurd has
  some_read written (Some (t ∷ ts)) (Some v) reads has =
      subst (λ (l : List Traffic). HasWritten w written (Some l)) (sym reads.1) has

  all_stays : (written : List Message) (a b : Wire) → Tells a b Stays → HasAll written a → HasAll written b
  all_stays written None None stays has = tt
  all_stays written None (Some v) stays has = absurd stays
  all_stays written (Some u) None stays has = absurd stays
  all_stays written (Some u) (Some v) stays has = subst (λ (l : List Traffic). HasAll written (Some l)) (sym stays) has

  some_stays : (written : List Message) (a b : Wire) → Tells a b Stays → HasWritten w written a → HasWritten w written b
  some_stays written None None stays has = tt
  some_stays written None (Some v) stays has = absurd stays
  some_stays written (Some u) None stays has = absurd stays
  some_stays written (Some u) (Some v) stays has =
      subst (λ (l : List Traffic). HasWritten w written (Some l)) (sym stays) has

  -- a connection that is dialled has none of them
  all_dials : (a b : Wire) → Tells a b Dials → HasAll [] b
  all_dials None None dials = tt
  all_dials None (Some v) dials = absurd dials
  all_dials (Some u) None dials = absurd dials
  all_dials (Some u) (Some v) dials = subst (λ (l : List Traffic). HasAll [] (Some l)) (sym dials) all_none

  some_dials : (written : List Message) (a b : Wire) → Tells a b Dials → HasWritten w written a → HasWritten w written b
  some_dials written None None dials has = tt
  some_dials written None (Some v) dials has = absurd dials
  some_dials written (Some u) None dials has = absurd dials
  some_dials written (Some []) (Some v) dials has = absurd has
  some_dials written (Some (t ∷ ts)) (Some v) dials has =
      subst (λ (l : List Traffic). HasWritten w written (Some l)) (sym dials) (none_first written t.written has)

  -- where nothing is taken
  some_takes : (written : List Message) (bytes : List ℕ) (a b : Wire) → bytes ≡ [] → Tells a b (Takes bytes)
      → HasWritten w written a → HasWritten w written b
  some_takes written bytes None None none takes has = tt
  some_takes written bytes None (Some v) none takes has = absurd takes
  some_takes written bytes (Some u) None none takes has = absurd takes
  some_takes written bytes (Some []) (Some v) none takes has = absurd has
  some_takes written bytes (Some (t ∷ ts)) (Some v) none takes has =
      subst (λ (l : List Traffic). HasWritten w written (Some l)) (sym takes)
      (subst (λ (l : List ℕ). AreFirstOf w (map alone written) l)
      (sym (ap (λ (l : List ℕ). t.written ++ l) none ∙ append-nil t.written)) has)

  no_first : (first : List ℕ) → IsPrefix first [] → first ≡ []
  no_first [] prefix = refl
  no_first (x ∷ first) prefix = let e = prefix.1 in absurd cc

  some_takes_first : (written : List Message) (bytes : List ℕ) (a b : Wire) → bytes ≡ [] → Tells a b (TakesFirst bytes)
      → HasWritten w written a → HasWritten w written b
  some_takes_first written bytes None None none takes has = tt
  some_takes_first written bytes None (Some v) none takes has = absurd takes
  some_takes_first written bytes (Some u) None none takes has = absurd takes
  some_takes_first written bytes (Some u) (Some v) none takes has =
      some_takes written takes.0 (Some u) (Some v)
      (no_first takes.0 (subst (λ (l : List ℕ). IsPrefix takes.0 l) none takes.1)) takes.2 has

  no_frames : (ms : List Message) (stamp : StampParts) (frames : List (List ℕ))
      → AreFramed w stamp (map alone ms) frames → ms ≡ [] → frames ≡ []
  no_frames [] stamp [] framed none = refl
  no_frames [] stamp (bytes ∷ frames) framed none = absurd framed
  no_frames (m ∷ ms) stamp frames framed none = absurd cc

  -- a call that writes nothing
  puts_none : (written ms : List Message) (stamp : StampParts) (frames : List (List ℕ)) (later : List SessionCall)
      (a b : Wire) → AreFramed w stamp (map alone ms) frames → ms ≡ [] → Puts (concat frames) later a b
      → HasWritten w written a → HasWritten w (written ++ ms) b
  puts_none written ms stamp frames later a b framed none puts has =
      let empty : concat frames ≡ [] = ap concat (no_frames ms stamp frames framed none) in
      subst (λ (l : List Message). HasWritten w l b)
      (sym (ap (λ (l : List Message). written ++ l) none ∙ append-nil written))
      (elim puts [
        | inl all ↦ some_takes written (concat frames) a b empty all has
        | inr part ↦ some_takes_first written (concat frames) a b empty part.1 has
      ])

  -- a call whose frames follow whole ones
  all_takes : (written ms : List Message) (stamp : StampParts) (frames : List (List ℕ)) (a b : Wire)
      → AreFramed w stamp (map alone ms) frames → Tells a b (Takes (concat frames)) → HasAll written a
      → HasAll (written ++ ms) b
  all_takes written ms stamp frames None None framed takes has = tt
  all_takes written ms stamp frames None (Some v) framed takes has = absurd takes
  all_takes written ms stamp frames (Some u) None framed takes has = absurd takes
  all_takes written ms stamp frames (Some []) (Some v) framed takes has = absurd has
  all_takes written ms stamp frames (Some (t ∷ ts)) (Some v) framed takes has =
      subst (λ (l : List Traffic). HasAll (written ++ ms) (Some l)) (sym takes)
      (all_more written ms stamp frames framed t.written has)

  some_of_more : (written ms : List Message) (stamp : StampParts) (frames : List (List ℕ)) (a b : Wire)
      → AreFramed w stamp (map alone ms) frames → Tells a b (TakesFirst (concat frames)) → HasAll written a
      → HasWritten w (written ++ ms) b
  some_of_more written ms stamp frames None None framed takes has = tt
  some_of_more written ms stamp frames None (Some v) framed takes has = absurd takes
  some_of_more written ms stamp frames (Some u) None framed takes has = absurd takes
  some_of_more written ms stamp frames (Some []) (Some v) framed takes has = absurd has
  some_of_more written ms stamp frames (Some (t ∷ ts)) (Some v) framed takes has =
      subst (λ (l : List Traffic). HasWritten w (written ++ ms) (Some l)) (sym takes.2)
      (first_more written ms stamp frames framed t.written takes.0 takes.1 has)

  -- there is no connection, or it is given up next
  abbrev pub IsOver : SessionParts → List SessionCall → Type 0
  IsOver s later = (is_connected s.phase ≡ false) ⊎ IsGivenUp later

  -- where so many connections were begun before
  module _ (before : ℕ) where
    -- what was written is on the wire: all of it, or the first bytes of it where nothing more will be written; or no
    -- connection was begun yet
    abbrev pub OnWire : SessionParts → List Message → List SessionCall → Wire → Type 0
    OnWire s written later wire =
        HasAll written wire
        ⊎ ((IsOver s later × HasWritten w written wire) ⊎ (IsOver s later × (s.connection ≡ before)))

    pub has_written : (s : SessionParts) (written : List Message) (later : List SessionCall) (wire : Wire)
        → before < s.connection → OnWire s written later wire → HasWritten w written wire
    has_written s written later wire more (inl all) = some_of_all written wire all
    has_written s written later wire more (inr (inl some)) = some.1
    has_written s written later wire more (inr (inr none)) = absurd (let same = none.1 in omega (arith, same, more))

    puts_all : (s : SessionParts) (written ms : List Message) (stamp : StampParts) (frames : List (List ℕ))
        (later : List SessionCall) (a b : Wire) → AreFramed w stamp (map alone ms) frames
        → Puts (concat frames) later a b → HasAll written a → OnWire s (written ++ ms) later b
    puts_all s written ms stamp frames later a b framed (inl all) has =
        inl (all_takes written ms stamp frames a b framed all has)
    puts_all s written ms stamp frames later a b framed (inr part) has =
        inr (inl (inr part.0, some_of_more written ms stamp frames a b framed part.1 has))

    -- a call that writes nothing where the connection is over before it is so afterwards
    plain_step : (s t : SessionParts) (written ms : List Message) (made : SessionCall) (later : List SessionCall)
        (stamp : StampParts) (frames : List (List ℕ)) (a b c d : Wire) → OnWire s written (made ∷ later) a → Reads a b
        → Tells b c Stays → AreFramed w stamp (map alone ms) frames → Puts (concat frames) later c d
        → (IsOver s (made ∷ later) → (ms ≡ []) × IsOver t later) → t.connection ≡ s.connection
        → OnWire t (written ++ ms) later d
    plain_step s t written ms made later stamp frames a b c d (inl all) reads stays framed puts over same =
        puts_all t written ms stamp frames later c d framed puts
        (all_stays written b c stays (all_read written a b reads all))
    plain_step s t written ms made later stamp frames a b c d (inr (inl some)) reads stays framed puts over same =
        let so = over some.0 in
        inr (inl (
          so.1,
          puts_none written ms stamp frames later c d framed so.0 puts
              (some_stays written b c stays (some_read written a b reads some.1)),
        ))
    plain_step s t written ms made later stamp frames a b c d (inr (inr none)) reads stays framed puts over same =
        inr (inr ((over none.0).1, same ∙ none.1))

    connect_step : (t : SessionParts) (ms : List Message) (later : List SessionCall) (stamp : StampParts)
        (frames : List (List ℕ)) (b c d : Wire) → Tells b c Dials → AreFramed w stamp (map alone ms) frames
        → Puts (concat frames) later c d → OnWire t ms later d
    connect_step t ms later stamp frames b c d dials framed puts =
        puts_all t [] ms stamp frames later c d framed puts (all_dials b c dials)

    broken_some : (s : SessionParts) (written : List Message) (stamp : StampParts) (frames : List (List ℕ))
        (later : List SessionCall) (a b c d : Wire) → Reads a b → Tells b c Stays ⊎ ((s.phase ≡ Down) × Tells b c Dials)
        → AreFramed w stamp [] frames → Puts (concat frames) later c d → HasWritten w written a
        → HasWritten w (written ++ []) d
    broken_some s written stamp frames later a b c d reads begins framed puts has =
        let now = some_read written a b reads has in
        puts_none written [] stamp frames later c d framed refl puts
        (elim begins [
          | inl stays ↦ some_stays written b c stays now
          | inr dials ↦ some_dials written b c dials.1 now
        ])

    broken_step : (s t : SessionParts) (written : List Message) (later : List SessionCall) (stamp : StampParts)
        (frames : List (List ℕ)) (a b c d : Wire) → OnWire s written (call.Broken ∷ later) a → Reads a b
        → Tells b c Stays ⊎ ((s.phase ≡ Down) × Tells b c Dials) → AreFramed w stamp [] frames
        → Puts (concat frames) later c d → is_connected t.phase ≡ false → t.connection ≡ s.connection
        → OnWire t (written ++ []) later d
    broken_step s t written later stamp frames a b c d (inl all) reads begins framed puts off same =
        let some = some_of_all written a all in
        inr (inl (inl off, broken_some s written stamp frames later a b c d reads begins framed puts some))
    broken_step s t written later stamp frames a b c d (inr (inl some)) reads begins framed puts off same =
        inr (inl (inl off, broken_some s written stamp frames later a b c d reads begins framed puts some.1))
    broken_step s t written later stamp frames a b c d (inr (inr none)) reads begins framed puts off same =
        inr (inr (inl off, same ∙ none.1))

module _ (w : Wording) (before : ℕ) where
  over_plain : (s : SessionParts) (made : SessionCall) (later : List SessionCall) → IsWithin made
      → (IsGivenUp (made ∷ later) → ⊥) → IsOver w.encoding s (made ∷ later)
      → (messages_in (called w.decoding s made).0 ≡ []) × IsOver w.encoding (called w.decoding s made).1 later
  over_plain s made later within goes_on (inl off) =
      let none = called_off w.decoding s made within off in (none.none, inl none.off)
  over_plain s made later within goes_on (inr gone) = absurd (goes_on gone)

  over_confirm : (s : SessionParts) (later : List SessionCall) → IsOver w.encoding s (call.Confirm ∷ later)
      → (messages_in (called w.decoding s call.Confirm).0 ≡ [])
      × IsOver w.encoding (called w.decoding s call.Confirm).1 later
  over_confirm s later (inl off) = (refl, inl (called_off w.decoding s call.Confirm tt off).off)
  over_confirm s later (inr gone) = (refl, inr gone)

  -- one call
  pub on_step : (s : SessionParts) (said : Said) (written : List Message) (made : SessionCall)
      (later : List SessionCall) (wire after : Wire) → OnWire w.encoding before s written (made ∷ later) wire
      → Speaks w s said made later wire after
      → OnWire w.encoding before (called w.decoding s made).1 (written_with w.decoding s written made) later after
  on_step s said written call.Connect later wire after on one =
      connect_step w.encoding before (called w.decoding s call.Connect).1
      (messages_in (called w.decoding s call.Connect).0) later one.stamp one.frames one.heard one.ready after one.begins
      one.framed one.puts
  on_step s said written call.Broken later wire after on one =
      broken_step w.encoding before s (broken s) written later one.stamp one.frames wire one.heard one.ready after on
      one.reads one.begins one.framed one.puts (broken_off s) (called_on w.decoding s call.Broken tt)
  on_step s said written call.Confirm later wire after on one =
      plain_step w.encoding before s (called w.decoding s call.Confirm).1 written [] call.Confirm later one.stamp
      one.frames wire one.heard one.ready after on one.reads one.begins one.framed one.puts (over_confirm s later)
      (called_on w.decoding s call.Confirm tt)
  on_step s said written (call.SendLeg ordinal leg) later wire after on one =
      plain_step w.encoding before s (called w.decoding s (call.SendLeg ordinal leg)).1 written
      (messages_in (called w.decoding s (call.SendLeg ordinal leg)).0) (call.SendLeg ordinal leg) later one.stamp
      one.frames wire one.heard one.ready after on one.reads one.begins one.framed one.puts
      (over_plain s (call.SendLeg ordinal leg) later tt (λ gone. gone))
      (called_on w.decoding s (call.SendLeg ordinal leg) tt)
  on_step s said written (call.Receive envelope) later wire after on one =
      plain_step w.encoding before s (called w.decoding s (call.Receive envelope)).1 written
      (messages_in (called w.decoding s (call.Receive envelope)).0) (call.Receive envelope) later one.stamp one.frames
      wire one.heard one.ready after on one.reads one.begins one.framed one.puts
      (over_plain s (call.Receive envelope) later tt (λ gone. gone)) (called_on w.decoding s (call.Receive envelope) tt)
  on_step s said written call.Quiet later wire after on one =
      plain_step w.encoding before s (called w.decoding s call.Quiet).1 written
      (messages_in (called w.decoding s call.Quiet).0) call.Quiet later one.stamp one.frames
      wire one.heard one.ready after on one.reads one.begins one.framed one.puts
      (over_plain s call.Quiet later tt (λ gone. gone)) (called_on w.decoding s call.Quiet tt)
  on_step s said written call.Silent later wire after on one =
      plain_step w.encoding before s (called w.decoding s call.Silent).1 written
      (messages_in (called w.decoding s call.Silent).0) call.Silent later one.stamp one.frames
      wire one.heard one.ready after on one.reads one.begins one.framed one.puts
      (over_plain s call.Silent later tt (λ gone. gone)) (called_on w.decoding s call.Silent tt)
  on_step s said written call.Close later wire after on one =
      plain_step w.encoding before s (called w.decoding s call.Close).1 written
      (messages_in (called w.decoding s call.Close).0) call.Close later one.stamp one.frames
      wire one.heard one.ready after on one.reads one.begins one.framed one.puts
      (over_plain s call.Close later tt (λ gone. gone)) (called_on w.decoding s call.Close tt)
  on_step s said written call.Malformed later wire after on one =
      plain_step w.encoding before s (called w.decoding s call.Malformed).1 written
      [] call.Malformed later one.stamp one.frames
      wire one.heard one.ready after on one.reads one.begins one.framed one.puts
      (over_plain s call.Malformed later tt (λ gone. gone)) (called_on w.decoding s call.Malformed tt)
  on_step s said written call.Abandon later wire after on one =
      plain_step w.encoding before s (called w.decoding s call.Abandon).1 written
      [] call.Abandon later one.stamp one.frames
      wire one.heard one.ready after on one.reads one.begins one.framed one.puts
      (over_plain s call.Abandon later tt (λ gone. gone)) (called_on w.decoding s call.Abandon tt)

  -- all calls up to a moment
  written_at : (s : SessionParts) (said : Said) (written : List Message) (n : ℕ) (calls : List SessionCall)
      (wire after : Wire) (speak : Speak w s said calls wire after) → OnWire w.encoding before s written calls wire
      → before < (after_calls w.decoding s (take n calls)).connection
      → HasWritten w.encoding (written_after w.decoding s written (take n calls))
      (wire_at w s said n calls wire after speak)
  written_at s said written zero calls wire after speak on more =
      has_written w.encoding before s written calls wire more on
  written_at s said written (suc n) [] wire after speak on more =
      some_read w.encoding written wire after speak (has_written w.encoding before s written [] wire more on)
  written_at s said written (suc n) (made ∷ later) wire after speak on more =
      written_at (called w.decoding s made).1 (said_with said made) (written_with w.decoding s written made) n later
      speak.0 after speak.2 (on_step s said written made later wire speak.0 on speak.1) more

pub the_writing_theorem : (w : Wording) → TheWritingTheorem w
the_writing_theorem w s calls wire after off speak n more =
    written_at w s.connection s [] [] n calls wire after speak (inr (inr (inl off, refl))) more
