-- What is read of the first bytes of frames are the first of the messages that they were written of.
use Rattle.std.proofs.Common.{◌≡◌, ℕ, List, [], ◌∷◌, ◌++◌, map, Some, Ok, refl, sym, ap, subst, ◌∙◌, inl, inr}
use Rattle.std.specs.List.{AllByRecursion, concat}
use Rattle.std.proofs.lemmas.List.{append-nil, map-append}
use Rattle.fix_text.specs.Tagged.{Tagged}
use Rattle.fix_text.specs.Grammar.{IsFrame, Pass, Given, Garbled, Skipped, Passes, given_of}
use Rattle.fix_text.specs.Reading.{Stream}
use Rattle.fix_text.specs.Deciding.{IsNext}
use Rattle.fix_text.proofs.FrameTexts.{valid_frame}
use Rattle.fix_text.proofs.NextFrames.{next_is}
use Rattle.fix_text.proofs.Streams.{passes_more, passes-append, given_of-append, one_reading}
use Rattle.fix_tags.specs.Stamp.{StampParts}
use Rattle.fix_tags.specs.Reading.{envelope_read}
use Rattle.fix_tags.specs.declared.envelope.Envelope.{Envelope}
use Rattle.dialect.specs.declared.message.Message.{Message}
use Rattle.dialect.specs.declared.outgoing.Outgoing.{Outgoing}
use Rattle.dialect.specs.Framed.{IsFramed}
use Rattle.dialect.specs.Message.{decoded}
use Rattle.dialect.specs.Wording.{Decoding, Wording, IsWording}
use Rattle.dialect.specs.Writable.{IsWritable}
use Rattle.dialect.proofs.FrameBack.{agrees_of, frame_back}
use Rattle.session_worker.specs.Hearing.{Said}
use Rattle.worker_line.specs.Wire.{AreWritten, SaysFirst, messages_of, TheFramesTheorem}

-- a frame at the front of a stream is passed, and gives its message alone
record OnePassing (read : Decoding) (bytes rest : List ℕ) (m : Message) : Type 0 where
  passes : List Pass
  passed : Passes passes (bytes ++ rest) rest
  envelope : Envelope
  says : map envelope_read (given_of passes) ≡ Ok envelope ∷ []
  is : decoded read envelope ≡ m

-- bytes are passed to their end, and give these messages
record Passing (read : Decoding) (bytes : List ℕ) (messages : List Message) : Type 0 where
  passes : List Pass
  passed : Passes passes bytes []
  envelopes : List Envelope
  says : map envelope_read (given_of passes) ≡ map (λ e. Ok e) envelopes
  are : map (decoded read) envelopes ≡ messages

module _ (w : Wording) (laws : IsWording w) where
  one_passing : (stamp : StampParts) (out : Outgoing) (bytes rest : List ℕ) → IsWritable out
      → IsFramed w.encoding stamp out bytes → OnePassing w.decoding bytes rest out.message
  one_passing stamp out bytes rest can framed =
      let stream : Stream = record { rest = bytes ++ rest; skipped = 0; garbled = 0 } in
      let back = frame_back w.encoding w.decoding stamp out bytes rest stream (agrees_of w laws) can framed refl in
      let next : IsNext stream (record { frame = Some back.fields; stream = record stream { rest = rest } }) =
      subst (IsNext stream) back.next (next_is stream) in
      let last : List Pass = Given next.ends.0 back.fields ∷ [] in
      record {
        passes = next.before ++ last;
        passed = passes-append next.before last (bytes ++ rest) next.middle rest next.passes (rest, next.ends.1, refl);
        envelope = back.envelope;
        says = ap (map envelope_read)
            (given_of-append next.before last ∙ ap (λ (g : List (List Tagged)). g ++ back.fields ∷ []) next.no_valid)
            ∙ ap (λ r. r ∷ []) back.is_read;
        is = back.is_decoded;
      }

  all_passing : (written : List Outgoing) (frames : List (List ℕ)) → AllByRecursion IsWritable written
      → AreWritten w.encoding written frames → Passing w.decoding (concat frames) (messages_of written)
  all_passing [] [] can are = record { passes = []; passed = refl; envelopes = []; says = refl; are = refl }
  all_passing [] (bytes ∷ frames) can are = absurd are
  all_passing (out ∷ written) [] can are = absurd are
  all_passing (out ∷ written) (bytes ∷ frames) can are =
      let one = one_passing are.0.0 out bytes (concat frames) can.0 are.0.1 in
      let more = all_passing written frames can.1 are.1 in
      let said : Said = map envelope_read (given_of more.passes) in
      record {
        passes = one.passes ++ more.passes;
        passed =
            passes-append one.passes more.passes (bytes ++ concat frames) (concat frames) [] one.passed more.passed;
        envelopes = one.envelope ∷ more.envelopes;
        says = ap (map envelope_read) (given_of-append one.passes more.passes)
            ∙ (map-append envelope_read (given_of one.passes) (given_of more.passes)
            ∙ (ap (λ (l : Said). l ++ said) one.says ∙ ap (λ (l : Said). Ok one.envelope ∷ l) more.says));
        are = λ k. one.is k ∷ more.are k;
      }

-- nothing is passed where no byte is
abbrev HasNone : List ℕ → Type 0
HasNone [] = Unit {0}
HasNone (byte ∷ bytes) = ⊥

no_frame : (text rest : List ℕ) → IsFrame text → [] ≡ text ++ rest → ⊥
no_frame text rest is none = subst HasNone (none ∙ ap (λ (l : List ℕ). l ++ rest) is.bytes_are) tt

none_passed : (passes : List Pass) (rest : List ℕ) → Passes passes [] rest → passes ≡ []
none_passed [] rest p = refl
none_passed (Given text fields ∷ passes) rest p = absurd (no_frame text p.0 (valid_frame text fields p.1.1) p.1.0)
none_passed (Garbled text ∷ passes) rest p = absurd (no_frame text p.0 p.1.1 p.1.0)
none_passed (Skipped byte ∷ passes) rest p = absurd (subst HasNone p.1.0 tt)

-- the first of some messages
record OkFirst (said : Said) (envelopes : List Envelope) : Type 0 where
  first : List Envelope
  says : said ≡ map (λ e. Ok e) first
  others : List Envelope
  all : first ++ others ≡ envelopes

ok_first : (said more : Said) (envelopes : List Envelope) → said ++ more ≡ map (λ e. Ok e) envelopes
    → OkFirst said envelopes
ok_first [] more envelopes is = record { first = []; says = refl; others = envelopes; all = refl }
ok_first (one ∷ said) more [] is = absurd cc
ok_first (one ∷ said) more (e ∷ envelopes) is =
    let head : one ≡ Ok e = cc in
    let tail : said ++ more ≡ map (λ e. Ok e) envelopes = cc in
    let rest = ok_first said more envelopes tail in
    record {
      first = e ∷ rest.first;
      says = λ k. head k ∷ rest.says k;
      others = rest.others;
      all = λ k. e ∷ rest.all k;
    }

-- a part of the way
part_says : (read : Decoding) (bytes : List ℕ) (messages : List Message) (all : Passing read bytes messages)
    (passes more : List Pass) (said : Said) → passes ++ more ≡ all.passes → map envelope_read (given_of passes) ≡ said
    → SaysFirst read messages said
part_says read bytes messages all passes more said parts says =
    let last : Said = map envelope_read (given_of more) in
    let whole : said ++ last ≡ map (λ e. Ok e) all.envelopes =
    ap (λ (l : Said). l ++ last) (sym says)
    ∙ (sym (map-append envelope_read (given_of passes) (given_of more))
    ∙ (ap (map envelope_read) (sym (given_of-append passes more) ∙ ap given_of parts) ∙ all.says)) in
    let found = ok_first said last all.envelopes whole in
    record {
      envelopes = found.first;
      says = found.says;
      first = (
        map (decoded read) found.others,
        sym (map-append (decoded read) found.first found.others) ∙ (ap (map (decoded read)) found.all ∙ all.are),
      );
    }

pub the_frames_theorem : (w : Wording) → IsWording w → TheFramesTheorem w
the_frames_theorem w laws written bytes said can first heard =
    let all = all_passing w laws written first.frames can first.are in
    let passes : List Pass = heard.first.passes in
    let left : List ℕ = heard.stream.rest ++ first.first.0 in
    let passed : Passes passes (concat first.frames) left =
    subst (λ (b : List ℕ). Passes passes b left) first.first.1
    (passes_more passes bytes heard.stream.rest first.first.0 heard.first.passed) in
    let says : map envelope_read (given_of passes) ≡ said =
    ap (map envelope_read) heard.first.given ∙ heard.says in
    elim (one_reading passes all.passes (concat first.frames) left [] passed all.passed) [
      | inl front ↦
          part_says w.decoding (concat first.frames) (messages_of written) all passes front.0 said front.1 says
      | inr back ↦ part_says w.decoding (concat first.frames) (messages_of written) all passes [] said
          (append-nil passes ∙ (sym back.1 ∙ (ap (λ (l : List Pass). all.passes ++ l) (none_passed back.0 left back.2)
          ∙ append-nil all.passes))) says
    ]
