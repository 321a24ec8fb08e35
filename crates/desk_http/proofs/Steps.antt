-- A step of reading, over what a server's read says.
use Rattle.std.proofs.Common.{◌≡◌, ◌≢◌, ℕ, ◌<◌, ◌≤◌, Bool, not, ◌&&◌, List, [], ◌∷◌, ◌++◌, length, map, take, drop, Some, Ok, append_assoc, ap, refl, subst, subst₂, sym, ◌∙◌, arith, nat_lt, ◌==◌}
use Rattle.std.proofs.lemmas.List.{append-nil, length-append, length-drop, length-map, length-take}
use Rattle.httparse.specs.Grammar.{Field, IsRequestHead, ReadsRequest, RequestHead, print_blank, print_end, print_request, print_section, print_version}
use Rattle.httparse.specs.Spans.{AreFieldsAt, header_bytes, name_and_value, span_bytes}
use Rattle.httparse.specs.declared.spans.HeaderSpan.{HeaderSpan}
use Rattle.httparse.specs.declared.spans.RequestSpans.{RequestSpans}
use Rattle.httparse.specs.declared.spans.Span.{Span}
use Rattle.httparse.proofs.GrammarLemmas.{ReadsRequest-append, request_unique}
use Rattle.http1.specs.declared.conn.Event.{Event}
use Rattle.http1.specs.declared.conn.Event.TheVariants.{NeedMore, Head, Informational, Data, End, Paused, Upgraded, Closed}
use Rattle.http1.specs.declared.conn.Limits.{Limits}
use Rattle.http1.specs.declared.conn.Progress.{Progress}
use Rattle.http1.specs.declared.conn.Reading.{Reading}
use Rattle.http1.specs.declared.conn.Reading.TheVariants as Reads
use Rattle.http1.specs.declared.conn.Writing.{Writing}
use Rattle.http1.specs.declared.conn.Writing.TheVariants as Writes
use Rattle.http1.specs.declared.decode.Decoder.{Decoder}
use Rattle.http1.specs.declared.decode.Decoder.TheVariants.{Length, Chunked, UntilClose}
use Rattle.http1.specs.declared.error.ReadError.{ReadError}
use Rattle.http1.specs.declared.framing.Framing.{Framing}
use Rattle.http1.specs.declared.framing.Framing.TheVariants as Framed
use Rattle.http1.specs.declared.server.Server.{Server}
use Rattle.http1.specs.Conn.{ReadsPiece, is_read}
use Rattle.http1.specs.Decoder.{Completes, Runs, decoder_for}
use Rattle.http1.specs.Fields.{known_fields}
use Rattle.http1.specs.Framing.{method_kind, request_framing}
use Rattle.http1.specs.Message.{AcceptsRequest, ReadsRequestMessage, known_of}
use Rattle.http1.specs.Server.{ReadsAt, ReadsHead, RefusesAt, ServerReads, ServerRefuses, TakesHead, after_piece, cycle_at}
use Rattle.http1.proofs.FramingFacts.{request_has_an_end}
use Rattle.http1.proofs.OneParse.{body_from_completes, completes_from_body}
use Rattle.desk_http.specs.declared.reading.Draft.{Draft}
use Rattle.desk_http.specs.declared.reading.Step.{Step}
use Rattle.desk_http.specs.Reading.{Asked, Came, Drafts, GoesOn, IsDraft, IsDue, IsNone, IsPart, IsReading, IsRemainder, IsRequest, IsSame, IsWhole, Keeps, Unread, asked_by, asked_of, limits, unread_of, with_body}

-- a server that has written nothing, once a piece was read
pieced : Writing → Server → List ℕ → Reading → Server
pieced writing s input next =
    let waits = s.request.expects_continue && ((length input == 0) && not (is_read next)) in
    cycle_at writing (record s { reading = next; request = record (s.request) { expects_continue = waits } })

reading_after : (s : Server) (input : List ℕ) (next : Reading) → s.writing ≡ Writes.Head
    → (after_piece s input next).reading ≡ next
unfolding pieced
reading_after s input next e = ap (λ w. (pieced w s input next).reading) e

writing_after : (s : Server) (input : List ℕ) (next : Reading) → s.writing ≡ Writes.Head
    → (after_piece s input next).writing ≡ Writes.Head
unfolding pieced
writing_after s input next e = ap (λ w. (pieced w s input next).writing) e ∙ e

limits_after : (s : Server) (input : List ℕ) (next : Reading) → s.writing ≡ Writes.Head
    → (after_piece s input next).limits ≡ s.limits
unfolding pieced
limits_after s input next e = ap (λ w. (pieced w s input next).limits) e

reading_next : (s new : Server) (input : List ℕ) (next : Reading) (kept : Asked) → s.limits ≡ limits
    → s.writing ≡ Writes.Head → new ≡ after_piece s input next → IsDue next → length kept.body ≤ 65536
    → IsReading new kept
reading_next s new input next kept bounds unanswered is due small = record {
  limits_are = ap (λ (x : Server). x.limits) is ∙ limits_after s input next unanswered ∙ bounds;
  unanswered = ap (λ (x : Server). x.writing) is ∙ writing_after s input next unanswered;
  due = subst IsDue (sym (ap (λ (x : Server). x.reading) is ∙ reading_after s input next unanswered)) due;
  small = small;
}

-- what was read of a request, where the reading is written out
abbrev pub at : Reading → Asked → Bool → List ℕ → Unread
at reading kept stays input = record { reading = reading; kept = kept; stays = stays; input = input }

shorter : (input : List ℕ) (len : ℕ) → 0 < len → len ≤ length input → length (drop len input) < length input
shorter input len some within = let left = length-drop len input in omega (arith, left, some, within)

-- a decoder that has an end keeps it
still : (d new : Decoder) (input : List ℕ) (len : ℕ) (piece : List ℕ) → d ≢ UntilClose → Runs d input new len piece
    → new ≢ UntilClose
still (Length left) new input len piece ends runs = λ bad. cc
still (Chunked chunks most) new input len piece ends runs = λ bad. let is = runs.1 in cc
still UntilClose new input len piece ends runs = absurd (ends refl)

few : (input : List ℕ) (spans : List HeaderSpan) (count : ℕ) (fields : List Field) → length spans ≤ 64
    → AreFieldsAt input spans count fields → length fields ≤ 64
few input spans count fields room covered =
    let all = ap length covered in
    let spanned = length-map (take count spans) (header_bytes input) in
    let named = length-map fields name_and_value in
    let taken = length-take count spans in
    omega (arith, all, spanned, named, taken, room)

-- of a body more is needed
body_starves : (d : Decoder) (s new : Server) (input : List ℕ) (spans : List HeaderSpan) (len : ℕ) (kept : Asked)
    (stays : Bool) (next : Reading) → s.writing ≡ Writes.Head → s.limits ≡ limits → length kept.body ≤ 65536
    → d ≢ UntilClose → ReadsPiece {H = RequestSpans} d input spans next len NeedMore → new ≡ after_piece s input next
    → IsSame (at (Reads.Body d) kept stays input) (unread_of new kept stays (drop len input))
    × IsPart (at (Reads.Body d) kept stays input) × IsReading new kept
body_starves d s new input spans len kept stays next unanswered bounds small ends found is =
    let there = ap (λ (x : Server). x.reading) is ∙ reading_after s input next unanswered ∙ found.1 in (
      record {
        back = λ more asked last rest goes.
            let r = subst (λ r. GoesOn r kept stays (drop len input ++ more) asked last rest) there goes in
            record {
              body = r.body;
              completes = found.2.continues.back more r.body rest r.completes;
              few_trailers = r.few_trailers;
              asked_is = r.asked_is;
              small = r.small;
              stays_is = r.stays_is;
            };
        forth = λ more asked last rest r.
            let next_body = found.2.continues.forth more r.body rest r.completes in
            subst (λ r. GoesOn r kept stays (drop len input ++ more) asked last rest) (sym there) (record {
              body = next_body.0;
              completes = next_body.2;
              few_trailers = subst (λ b. length b.trailers ≤ 64) next_body.1 r.few_trailers;
              asked_is = r.asked_is ∙ ap (λ b. with_body kept b.bytes) next_body.1;
              small = r.small;
              stays_is = r.stays_is;
            });
      },
      λ asked last rest r. found.2.unfinished ends r.body rest
          (subst (λ l. Completes d l r.body rest) (append-nil input) r.completes),
      reading_next s new input next kept bounds unanswered is (subst IsDue (sym found.1) (still d found.0 input len [] ends found.2.continues.runs)) small,
    )

more_body : (kept : Asked) (piece bytes : List ℕ)
    → with_body (with_body kept piece) bytes ≡ with_body kept (piece ++ bytes)
more_body kept piece bytes = ap (λ b. record kept { body = b }) (append_assoc kept.body piece bytes)

-- a piece of a body was read
body_piece : (d : Decoder) (s new : Server) (input : List ℕ) (spans : List HeaderSpan) (len : ℕ) (kept : Asked)
    (stays : Bool) (next : Reading) (piece : Span) → s.writing ≡ Writes.Head → s.limits ≡ limits → d ≢ UntilClose
    → length (with_body kept (span_bytes input piece)).body ≤ 65536
    → ReadsPiece {H = RequestSpans} d input spans next len (Data piece) → new ≡ after_piece s input next
    → IsSame (at (Reads.Body d) kept stays input)
    (unread_of new (with_body kept (span_bytes input piece)) stays (drop len input))
    × (length (drop len input) < length input)
    × IsReading new (with_body kept (span_bytes input piece))
body_piece d s new input spans len kept stays next piece unanswered bounds ends small found is =
    let bytes = span_bytes input piece in
    let there = ap (λ (x : Server). x.reading) is ∙ reading_after s input next unanswered ∙ found.1 in
    let back_at = sym found.2 in (
      record {
        back = λ more asked last rest goes.
            let r = subst₂ (λ r n. GoesOn r (with_body kept bytes) stays (drop n input ++ more) asked last rest) there
            found.2 goes in
            record {
              body = record { bytes = bytes ++ r.body.bytes; trailers = r.body.trailers };
              completes = found.4.back more r.body rest r.completes;
              few_trailers = r.few_trailers;
              asked_is = r.asked_is ∙ more_body kept bytes r.body.bytes;
              small = r.small;
              stays_is = r.stays_is;
            };
        forth = λ more asked last rest r.
            let next_body = found.4.forth more r.body rest r.completes in
            subst₂ (λ r n. GoesOn r (with_body kept bytes) stays (drop n input ++ more) asked last rest) (sym there)
            back_at (record {
              body = next_body.0;
              completes = next_body.2;
              few_trailers = subst (λ b. length b.trailers ≤ 64) next_body.1 r.few_trailers;
              asked_is = r.asked_is ∙ ap (λ b. with_body kept b.bytes) next_body.1
                  ∙ sym (more_body kept bytes next_body.0.bytes);
              small = r.small;
              stays_is = r.stays_is;
            });
      },
      shorter input len (let some = found.3 in let end = found.2 in omega (arith, some, end))
          (let within = found.4.within in let end = found.2 in omega (arith, within, end)),
      reading_next s new input next (with_body kept bytes) bounds unanswered is
          (subst IsDue (sym found.1) (still d found.0 input piece.end bytes ends found.4.runs)) small,
    )

-- a piece of a body is too much
body_too_large : (d : Decoder) (input : List ℕ) (spans : List HeaderSpan) (len : ℕ) (kept : Asked)
    (stays : Bool) (next : Reading) (piece : Span)
    → 65536 < length (with_body kept (span_bytes input piece)).body
    → ReadsPiece {H = RequestSpans} d input spans next len (Data piece)
    → IsNone (at (Reads.Body d) kept stays input)
body_too_large d input spans len kept stays next piece large found more asked last rest r =
    let next_body = found.4.forth more r.body rest r.completes in
    let all = ap length (ap (λ (x : Asked). x.body) (r.asked_is ∙ ap (λ b. with_body kept b.bytes) next_body.1
    ∙ sym (more_body kept (span_bytes input piece) next_body.0.bytes))) in
    let longer = length-append (kept.body ++ span_bytes input piece) next_body.0.bytes in
    let small = r.small in
    omega (arith, all, longer, small, large)

none_behind : (kept : Asked) → kept ≡ with_body kept []
none_behind kept = ap (λ b. record kept { body = b }) (sym (append-nil kept.body))

-- a body was read to its end
body_end : (d : Decoder) (input : List ℕ) (spans : List HeaderSpan) (len count : ℕ) (kept : Asked) (stays : Bool)
    (next : Reading) → length kept.body ≤ 65536 → length spans ≤ 64
    → ReadsPiece {H = RequestSpans} d input spans next len (End count)
    → (more : List ℕ) → IsRemainder d kept stays (input ++ more) kept stays (drop len input ++ more)
body_end d input spans len count kept stays next small room found more = record {
  body = record { bytes = []; trailers = found.1.trailers };
  completes = found.1.completes more;
  few_trailers = few input spans count found.1.trailers room found.1.covered;
  asked_is = none_behind kept;
  small = small;
  stays_is = refl;
}

framed_ends : (limits : Limits) (framing : Framing) → framing ≢ Framed.UntilClose
    → decoder_for limits framing ≢ UntilClose
framed_ends limits Framed.NoBody ends = λ bad. cc
framed_ends limits (Framed.Length len) ends = λ bad. cc
framed_ends limits Framed.Chunked ends = λ bad. cc
framed_ends limits Framed.UntilClose ends = absurd (ends refl)

-- a head that was accepted has a framing with an end
accepted_ends : (h : RequestHead) (framing : Framing)
    → request_framing (method_kind h.method) h.minor (known_of h.fields) ≡ Ok framing → framing ≢ Framed.UntilClose
accepted_ends h framing framed =
    λ bad. request_has_an_end (method_kind h.method) h.minor (map name_and_value h.fields) (framed ∙ ap Ok bad)

request_long : (h : RequestHead) → IsRequestHead h → 0 < length (print_request h)
unfolding print_request
request_long h is =
    let some = is.method.0 in
    let text : length (print_request h)
    ≡ length (print_blank h.blank
    ++ h.method ++ 32 ∷ h.target ++ 32 ∷ print_version h.minor ++ print_end h.line_end
    ++ print_section h.fields h.last) = refl in
    grind (arith, length-append, some, text)

module _ (s new : Server) (input : List ℕ) (spans : List HeaderSpan) (len : ℕ) (r : RequestSpans)
    (taken : TakesHead s input spans new len r) where
  -- the head of a request that the stream begins with is the one that was read
  same_head : (more : List ℕ) (asked : Asked) (last : Bool) (rest : List ℕ)
      → (q : IsRequest (input ++ more) asked last rest)
      → (taken.head ≡ q.message.head) × (drop len input ++ more ≡ q.reads.after_head)
  same_head more asked last rest q =
      request_unique (input ++ more) taken.head q.message.head (drop len input ++ more) q.reads.after_head
      (ReadsRequest-append input taken.head (drop len input) more taken.accepts.reads) q.reads.head.reads

  -- so it is what was drafted
  drafted : (more : List ℕ) (asked : Asked) (last : Bool) (rest : List ℕ)
      → (q : IsRequest (input ++ more) asked last rest)
      → IsDraft (span_bytes input r.method) (span_bytes input r.path) r.version
      (map (header_bytes input) (take r.headers spans)) q.kept last
  drafted more asked last rest q =
      let there : IsDraft q.message.head.method q.message.head.target q.message.head.minor
      (map name_and_value q.message.head.fields) q.kept last =
      record { one_length = q.one_length; kept_is = q.kept_is; stays_is = q.stays_is } in
      let here = subst (λ k. IsDraft k.method k.target k.minor (map name_and_value k.fields) q.kept last)
      (sym (same_head more asked last rest q).0) there in
      subst (λ m. IsDraft m (span_bytes input r.path) r.version (map (header_bytes input) (take r.headers spans)) q.kept last)
      (sym taken.covered.method)
      (subst (λ t. IsDraft taken.head.method t r.version (map (header_bytes input) (take r.headers spans)) q.kept last)
      (sym taken.covered.path)
      (subst (λ v. IsDraft taken.head.method taken.head.target v (map (header_bytes input) (take r.headers spans)) q.kept last)
      (sym taken.covered.version)
      (subst (λ hs. IsDraft taken.head.method taken.head.target taken.head.minor hs q.kept last)
      (sym taken.covered.fields) here)))

  head_none : (kept : Asked) (stays : Bool)
      → ((next : Asked) (next_stays : Bool) → ¬ (IsDraft (span_bytes input r.method) (span_bytes input r.path) r.version
      (map (header_bytes input) (take r.headers spans)) next next_stays))
      → IsNone (at Reads.Head kept stays input)
  head_none kept stays none more asked last rest q = none q.kept last (drafted more asked last rest q)

  head_back : (kept : Asked) (stays : Bool) → s.limits ≡ limits → length spans ≤ 64
      → IsDraft (span_bytes input r.method) (span_bytes input r.path) r.version
      (map (header_bytes input) (take r.headers spans)) kept stays
      → (more : List ℕ) (asked : Asked) (last : Bool) (rest : List ℕ)
      → GoesOn new.reading kept stays (drop len input ++ more) asked last rest
      → IsRequest (input ++ more) asked last rest
  head_back kept stays bounds room draft more asked last rest goes =
      let h = taken.head in
      let fields = taken.covered.fields in
      let there = ap (λ (x : Server). x.reading) taken.next in
      let g = subst (λ r. GoesOn r kept stays (drop len input ++ more) asked last rest) there goes in
      record {
        message = record { head = h; body = g.body };
        reads = subst (λ b. ReadsRequestMessage b (input ++ more) (record { head = h; body = g.body }) rest) bounds
            (record {
              framing = taken.framing;
              after_head = drop len input ++ more;
              head = record {
                reads = ReadsRequest-append input h (drop len input) more taken.accepts.reads;
                strict = taken.accepts.strict;
                host = taken.accepts.host;
                framed = taken.accepts.framed;
              };
              body = body_from_completes s.limits taken.framing _ g.body rest g.completes;
            });
        few_fields = few input spans r.headers h.fields room fields;
        few_trailers = g.few_trailers;
        one_length = subst (λ hs. (known_fields hs).framing_fields ≤ 1) fields draft.one_length;
        kept = kept;
        kept_is = sym (λ i. asked_by (taken.covered.method i) (taken.covered.path i) (fields i)) ∙ draft.kept_is;
        asked_is = g.asked_is;
        small = g.small;
        stays_is = g.stays_is ∙ draft.stays_is
            ∙ (λ i. nat_lt 0 (taken.covered.version i) && not (known_fields (fields i)).close);
      }

  head_forth : (kept : Asked) (stays : Bool) → s.limits ≡ limits
      → IsDraft (span_bytes input r.method) (span_bytes input r.path) r.version
      (map (header_bytes input) (take r.headers spans)) kept stays
      → (more : List ℕ) (asked : Asked) (last : Bool) (rest : List ℕ)
      → IsRequest (input ++ more) asked last rest
      → GoesOn new.reading kept stays (drop len input ++ more) asked last rest
  head_forth kept stays bounds draft more asked last rest q =
      let there = ap (λ (x : Server). x.reading) taken.next in
      let same = same_head more asked last rest q in
      let other = drafted more asked last rest q in
      let kept_both : Some kept ≡ Some q.kept = sym draft.kept_is ∙ other.kept_is in
      let kept_same : q.kept ≡ kept = cc in
      let framed : Ok taken.framing ≡ Ok q.reads.framing = sym taken.accepts.framed
      ∙ ap (λ h. request_framing (method_kind h.method) h.minor (known_of h.fields)) same.0
      ∙ q.reads.head.framed in
      let framing : q.reads.framing ≡ taken.framing = cc in
      let completes = completes_from_body limits q.reads.framing q.reads.after_head q.message.body rest q.reads.body in
      let here = subst₂ (λ f l. Completes (decoder_for limits f) l q.message.body rest) framing (sym same.1) completes in
      subst (λ r. GoesOn r kept stays (drop len input ++ more) asked last rest) (sym there) (record {
        body = q.message.body;
        completes = subst (λ b. Completes (decoder_for b taken.framing) (drop len input ++ more) q.message.body rest)
            (sym bounds) here;
        few_trailers = q.few_trailers;
        asked_is = q.asked_is ∙ ap (λ k. with_body k q.message.body.bytes) kept_same;
        small = q.small;
        stays_is = other.stays_is ∙ sym draft.stays_is;
      })

  head_taken : (kept : Asked) (stays : Bool) → s.limits ≡ limits → s.writing ≡ Writes.Head → length spans ≤ 64
      → (old_kept : Asked) (old_stays : Bool)
      → IsDraft (span_bytes input r.method) (span_bytes input r.path) r.version
      (map (header_bytes input) (take r.headers spans)) kept stays
      → kept.body ≡ []
      → IsSame (at Reads.Head old_kept old_stays input) (unread_of new kept stays (drop len input))
      × (length (drop len input) < length input) × IsReading new kept
  head_taken kept stays bounds unanswered room old_kept old_stays draft unbegun =
      let there = ap (λ (x : Server). x.reading) taken.next in
      let long = request_long taken.head taken.accepts.reads.0 in
      let whole = taken.covered.len in
      let count = taken.consumed in (
        record {
          back = head_back kept stays bounds room draft;
          forth = head_forth kept stays bounds draft;
        },
        shorter input len (omega (arith, long, whole, count))
            (let fits = taken.within.section.len_fits in omega (arith, fits, count)),
        record {
          limits_are = ap (λ (x : Server). x.limits) taken.next ∙ bounds;
          unanswered = ap (λ (x : Server). x.writing) taken.next ∙ unanswered;
          due = subst IsDue (sym there) (framed_ends s.limits taken.framing
              (accepted_ends taken.head taken.framing taken.accepts.framed));
          small = let none = ap length unbegun in omega (arith, none);
        },
      )

-- what a read of the server found in the input
abbrev pub FoundAt : Reading → List ℕ → List HeaderSpan → Server → ℕ → Asked → Bool → Event RequestSpans → Type 0
FoundAt reading input spans new len kept stays NeedMore =
    IsSame (at reading kept stays input) (unread_of new kept stays (drop len input))
    × IsPart (at reading kept stays input) × IsReading new kept
FoundAt reading input spans new len kept stays (Head r) =
    ((next : Asked) (next_stays : Bool)
    → IsDraft (span_bytes input r.method) (span_bytes input r.path) r.version
    (map (header_bytes input) (take r.headers spans)) next next_stays
    → next.body ≡ []
    → IsSame (at reading kept stays input) (unread_of new next next_stays (drop len input))
    × (length (drop len input) < length input) × IsReading new next)
    × (((next : Asked) (next_stays : Bool) → ¬ (IsDraft (span_bytes input r.method) (span_bytes input r.path) r.version
    (map (header_bytes input) (take r.headers spans)) next next_stays))
    → IsNone (at reading kept stays input))
FoundAt reading input spans new len kept stays (Informational r) = ⊥
FoundAt reading input spans new len kept stays (Data piece) =
    (length (with_body kept (span_bytes input piece)).body ≤ 65536
    → IsSame (at reading kept stays input)
    (unread_of new (with_body kept (span_bytes input piece)) stays (drop len input))
    × (length (drop len input) < length input) × IsReading new (with_body kept (span_bytes input piece)))
    × (65536 < length (with_body kept (span_bytes input piece)).body → IsNone (at reading kept stays input))
FoundAt reading input spans new len kept stays (End count) =
    IsWhole (at reading kept stays input) (unread_of new kept stays (drop len input))
FoundAt reading input spans new len kept stays Paused = ⊥
FoundAt reading input spans new len kept stays Upgraded = ⊥
FoundAt reading input spans new len kept stays Closed = ⊥

no_head : (s new : Server) (input : List ℕ) (len : ℕ) (kept : Asked) (stays : Bool) → s.reading ≡ Reads.Head
    → len ≡ 0 → new ≡ s
    → IsSame (at Reads.Head kept stays input) (unread_of new kept stays (drop len input))
no_head s new input len kept stays reading none is =
    subst₂ (λ (x : Server) (n : ℕ). IsSame (at Reads.Head kept stays input) (unread_of x kept stays (drop n input)))
    (sym is) (sym none)
    (subst (λ r. IsSame (at Reads.Head kept stays input) (at r kept stays input)) (sym reading)
    (record { back = λ more asked last rest goes. goes; forth = λ more asked last rest goes. goes }))

head_found : (s new : Server) (input : List ℕ) (spans : List HeaderSpan) (len : ℕ) (kept : Asked) (stays : Bool)
    (event : Event RequestSpans) → s.reading ≡ Reads.Head → length spans ≤ 64
    → IsReading s kept → ReadsHead s input spans new len event → FoundAt Reads.Head input spans new len kept stays event
head_found s new input spans len kept stays NeedMore reading room is found = (
  no_head s new input len kept stays reading found.0 found.1,
  λ asked last rest q. found.2 q.message.head q.reads.after_head
      (subst (λ l. ReadsRequest l q.message.head q.reads.after_head) (append-nil input) q.reads.head.reads),
  subst (λ (x : Server). IsReading x kept) (sym found.1) is,
)
head_found s new input spans len kept stays (Head r) reading room is found = (
  λ next next_stays draft unbegun. head_taken s new input spans len r found next next_stays is.limits_are is.unanswered
      room kept stays draft unbegun,
  λ none. head_none s new input spans len r found kept stays none,
)
head_found s new input spans len kept stays (Informational r) reading room is found = absurd found
head_found s new input spans len kept stays (Data piece) reading room is found = absurd found
head_found s new input spans len kept stays (End count) reading room is found = absurd found
head_found s new input spans len kept stays Paused reading room is found = absurd found
head_found s new input spans len kept stays Upgraded reading room is found = absurd found
head_found s new input spans len kept stays Closed reading room is found = absurd found

body_found : (d : Decoder) (s new : Server) (input : List ℕ) (spans : List HeaderSpan) (len : ℕ) (kept : Asked)
    (stays : Bool) (next : Reading) (event : Event RequestSpans) → IsReading s kept → length spans ≤ 64
    → d ≢ UntilClose → ReadsPiece d input spans next len event → new ≡ after_piece s input next
    → FoundAt (Reads.Body d) input spans new len kept stays event
body_found d s new input spans len kept stays next NeedMore was room ends found is =
    body_starves d s new input spans len kept stays next was.unanswered was.limits_are was.small ends found is
body_found d s new input spans len kept stays next (Head r) was room ends found is = absurd found
body_found d s new input spans len kept stays next (Informational r) was room ends found is = absurd found
body_found d s new input spans len kept stays next (Data piece) was room ends found is = (
  λ fits. body_piece d s new input spans len kept stays next piece was.unanswered was.limits_are ends fits found is,
  λ large. body_too_large d input spans len kept stays next piece large found,
)
body_found d s new input spans len kept stays next (End count) was room ends found is =
    λ more. body_end d input spans len count kept stays next was.small room found more
body_found d s new input spans len kept stays next Paused was room ends found is = absurd found
body_found d s new input spans len kept stays next Upgraded was room ends found is = absurd found
body_found d s new input spans len kept stays next Closed was room ends found is = absurd found

found_at : (r : Reading) (s new : Server) (input : List ℕ) (spans : List HeaderSpan) (read : Progress RequestSpans)
    (kept : Asked) (stays : Bool) → s.reading ≡ r → length spans ≤ 64 → IsReading s kept → IsDue r
    → ReadsAt r s input spans new read → FoundAt r input spans new read.consumed kept stays read.event
found_at Reads.Head s new input spans read kept stays reading room is due found =
    head_found s new input spans read.consumed kept stays read.event reading room is found
found_at (Reads.Body d) s new input spans read kept stays reading room is due found =
    body_found d s new input spans read.consumed kept stays found.0 read.event is room due found.1 found.2
found_at Reads.Done s new input spans read kept stays reading room is due found = absurd due
found_at Reads.Upgraded s new input spans read kept stays reading room is due found = absurd due
found_at Reads.Closed s new input spans read kept stays reading room is due found = absurd due
found_at (Reads.Failed e) s new input spans read kept stays reading room is due found = absurd due

pub step_found : (s new : Server) (input : List ℕ) (spans : List HeaderSpan) (read : Progress RequestSpans)
    (kept : Asked) (stays : Bool) → length spans ≤ 64 → IsReading s kept → ServerReads s input spans new read
    → FoundAt s.reading input spans new read.consumed kept stays read.event
step_found s new input spans read kept stays room is found =
    found_at s.reading s new input spans read kept stays refl room is is.due found

refused_at : (r : Reading) (bounds : Limits) (input : List ℕ) (room : ℕ) (e : ReadError) (kept : Asked)
    (stays : Bool) → bounds ≡ limits → 64 ≤ room → IsDue r → RefusesAt r bounds input room e
    → IsNone (at r kept stays input)
refused_at Reads.Head bounds input room e kept stays are wide due found more asked last rest q =
    let long = found.0 more q.message.head q.reads.framing q.reads.after_head
    (subst (λ b. AcceptsRequest b (input ++ more) q.message.head q.reads.framing q.reads.after_head) (sym are)
    q.reads.head) in
    let low = q.few_fields in
    omega (arith, long, low, wide)
refused_at (Reads.Body d) bounds input room e kept stays are wide due found more asked last rest q =
    let long = found.0 more q.body rest q.completes in
    let low = q.few_trailers in
    omega (arith, long, low, wide)
refused_at Reads.Done bounds input room e kept stays are wide due found more asked last rest q = absurd due
refused_at Reads.Upgraded bounds input room e kept stays are wide due found more asked last rest q = absurd due
refused_at Reads.Closed bounds input room e kept stays are wide due found more asked last rest q = absurd due
refused_at (Reads.Failed earlier) bounds input room e kept stays are wide due found more asked last rest q = absurd due

-- where a server refuses what it reads there is no request, whatever comes
pub refused_none : (s : Server) (input : List ℕ) (room : ℕ) (e : ReadError) (kept : Asked) (stays : Bool)
    → IsReading s kept → 64 ≤ room → ServerRefuses s input room e → IsNone (unread_of s kept stays input)
refused_none s input room e kept stays is wide refuses =
    refused_at s.reading s.limits input room e kept stays is.limits_are wide is.due refuses

-- what a head came to
pub head_came : (s new : Server) (input : List ℕ) (spans : List HeaderSpan) (len : ℕ) (r : RequestSpans) (kept : Asked)
    (stays : Bool) (draft : Draft) (step : Step) → FoundAt s.reading input spans new len kept stays (Head r)
    → Drafts (span_bytes input r.method) (span_bytes input r.path) r.version
    (map (header_bytes input) (take r.headers spans)) draft step
    → Came (unread_of s kept stays input)
    (unread_of new (asked_of draft.request) draft.stays (drop len input)) (IsReading new (asked_of draft.request))
    step
head_came s new input spans len r kept stays draft Step.More found drafts = absurd drafts
head_came s new input spans len r kept stays draft Step.On found drafts =
    found.0 (asked_of draft.request) draft.stays drafts.0 drafts.1
head_came s new input spans len r kept stays draft Step.Whole found drafts = absurd drafts
head_came s new input spans len r kept stays draft (Step.Refused refused) found drafts = found.1 drafts

-- what a piece of a body came to
pub piece_came : (s new : Server) (input : List ℕ) (spans : List HeaderSpan) (len : ℕ) (piece : Span)
    (old draft : Draft) (step : Step)
    → FoundAt s.reading input spans new len (asked_of old.request) old.stays (Data piece)
    → Keeps old (span_bytes input piece) draft step
    → Came (unread_of s (asked_of old.request) old.stays input)
    (unread_of new (asked_of draft.request) draft.stays (drop len input)) (IsReading new (asked_of draft.request))
    step
piece_came s new input spans len piece old draft Step.More found keeps = absurd keeps
piece_came s new input spans len piece old draft Step.On found keeps =
    subst₂ (λ k b. IsSame (unread_of s (asked_of old.request) old.stays input) (unread_of new k b (drop len input))
    × (length (drop len input) < length input) × IsReading new k)
    (sym keeps.0) (sym keeps.1) (found.0 keeps.2)
piece_came s new input spans len piece old draft Step.Whole found keeps = absurd keeps
piece_came s new input spans len piece old draft (Step.Refused refused) found keeps = found.1 keeps

-- what a step came to, seen from an earlier state
pub came_after : (first old new : Unread) (goes_on : Type 0) (step : Step) → IsSame first old
    → step ≢ Step.On → Came old new goes_on step → Came first new goes_on step
came_after first old new goes_on Step.More earlier ends came = (
  record {
    back = λ more asked stays rest goes. earlier.back more asked stays rest (came.0.back more asked stays rest goes);
    forth = λ more asked stays rest goes. came.0.forth more asked stays rest (earlier.forth more asked stays rest goes);
  },
  λ asked stays rest goes. came.1 asked stays rest (earlier.forth [] asked stays rest goes),
  came.2,
)
came_after first old new goes_on Step.On earlier ends came = absurd (ends refl)
came_after first old new goes_on Step.Whole earlier ends came =
    λ more. earlier.back more new.kept new.stays (new.input ++ more) (came more)
came_after first old new goes_on (Step.Refused refused) earlier ends came =
    λ more asked stays rest goes. came more asked stays rest (earlier.forth more asked stays rest goes)

-- one step more
pub same_after : (first old new : Unread) → IsSame first old → IsSame old new → IsSame first new
same_after first old new earlier later = record {
  back = λ more asked stays rest goes. earlier.back more asked stays rest (later.back more asked stays rest goes);
  forth = λ more asked stays rest goes. later.forth more asked stays rest (earlier.forth more asked stays rest goes);
}
