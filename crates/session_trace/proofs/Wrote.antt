-- What a log shows is what the calls behind it write.
use Rattle.std.proofs.Common.{◌≡◌, ℕ, List, [], ◌∷◌, ◌++◌, map, refl, sym, ap, subst, ◌∙◌}
use Rattle.std.proofs.lemmas.List.{append-nil, append_assoc}
use Rattle.std.specs.Prelude.{Option, Some, None, option_to_list}
use Rattle.fix_tags.specs.Config.{ConfigParts}
use Rattle.fix_tags.specs.Stamp.{StampParts}
use Rattle.dialect.specs.declared.message.Message.{Message}
use Rattle.dialect.specs.Framed.{AreFramed}
use Rattle.dialect.specs.Outgoing.{alone}
use Rattle.dialect.specs.Wording.{Decoding, Wording}
use Rattle.session_core.specs.declared.session_call.SessionCall.{SessionCall}
use Rattle.session_core.specs.declared.session_call.SessionCall.TheVariants as call
use Rattle.session_core.specs.Session.{SessionParts, new_session}
use Rattle.session_core.specs.Turn.{StepParts}
use Rattle.session_core.specs.Trial.{called, after_calls, steps_of}
use Rattle.session_core.proofs.CallsMade.{after-append}
use Rattle.session_trace.specs.declared.shown.Shown.{Shown}
use Rattle.session_trace.specs.declared.shown.Shown.TheVariants.{Sent, Received}
use Rattle.session_trace.specs.Shows.{TraceParts, Makes, Shows, messages_in}
use Rattle.session_trace.specs.Shows.Shows.{begins, sends, receives, hears, passes, calls_own, breaks}
use Rattle.session_trace.specs.Written.{written_in, AreShown, IsPart, sent_in, frame_sent, IsWritten}
use Rattle.session_trace.specs.Written.IsPart.{ends, keeps, leaves_out}

-- ---- what a call writes comes behind what calls wrote

written-last : (step : Option StepParts) → written_in (option_to_list step ++ []) ≡ messages_in step
written-last None = refl
written-last (Some step) = append-nil step.written

written-first : (step : Option StepParts) (longer shorter : List StepParts) (last : List Message)
    → written_in longer ≡ written_in shorter ++ last
    → written_in (option_to_list step ++ longer) ≡ written_in (option_to_list step ++ shorter) ++ last
written-first None longer shorter last same = same
written-first (Some step) longer shorter last same =
    ap (λ (rest : List Message). step.written ++ rest) same ∙ sym (append_assoc step.written (written_in shorter) last)

written-more : (read : Decoding) (s : SessionParts) (calls : List SessionCall) (made : SessionCall)
    → written_in (steps_of read s (calls ++ made ∷ []))
    ≡ written_in (steps_of read s calls) ++ messages_in (called read (after_calls read s calls) made).0
written-more read s [] made = written-last (called read s made).0
written-more read s (call ∷ calls) made =
    written-first (called read s call).0 (steps_of read (called read s call).1 (calls ++ made ∷ []))
    (steps_of read (called read s call).1 calls)
    (messages_in (called read (after_calls read (called read s call).1 calls) made).0)
    (written-more read (called read s call).1 calls made)

-- ---- frames of one moment are shown

framed-shown : (w : Wording) (stamp : StampParts) (messages : List Message) (frames : List (List ℕ))
    → AreFramed w.encoding stamp (map alone messages) frames → AreShown w messages frames
framed-shown w stamp [] [] framed = tt
framed-shown w stamp [] (frame ∷ frames) framed = absurd framed
framed-shown w stamp (m ∷ messages) [] framed = absurd framed
framed-shown w stamp (m ∷ messages) (frame ∷ frames) framed =
    (record { stamp = stamp; framed = framed.0 }, framed-shown w stamp messages frames framed.1)

shown-append : (w : Wording) (first then : List Message) (xs ys : List (List ℕ)) → AreShown w first xs
    → AreShown w then ys → AreShown w (first ++ then) (xs ++ ys)
shown-append w [] then [] ys here later = later
shown-append w [] then (x ∷ xs) ys here later = absurd here
shown-append w (m ∷ first) then [] ys here later = absurd here
shown-append w (m ∷ first) then (x ∷ xs) ys here later = (here.0, shown-append w first then xs ys here.1 later)

-- ---- parts of lists

part-same : {X : Type 0} (xs : List X) → IsPart xs xs
part-same [] = ends
part-same (x ∷ xs) = keeps x xs xs (part-same xs)

part-append : {X : Type 0} {part all : List X} → IsPart part all → (more : List X) → IsPart (part ++ more) (all ++ more)
part-append ends more = part-same more
part-append (keeps x part all is) more = keeps x (part ++ more) (all ++ more) (part-append is more)
part-append (leaves_out x part all is) more = leaves_out x (part ++ more) (all ++ more) (part-append is more)

part-none : {X : Type 0} (all : List X) → IsPart [] all
part-none [] = ends
part-none (x ∷ all) = leaves_out x [] all (part-none all)

-- less of what is kept
kept-less : {X : Type 0} {part all : List X} → IsPart part all → (first lost : List X) → part ≡ first ++ lost
    → IsPart first all
kept-less ends [] lost same = ends
kept-less ends (f ∷ first) lost same = absurd cc
kept-less (keeps x part all is) [] lost same = part-none (x ∷ all)
kept-less {X = X} (keeps x part all is) (f ∷ first) lost same =
    let heads : x ≡ f = cc in
    let tails : part ≡ first ++ lost = cc in
    subst (λ (y : X). IsPart (y ∷ first) (x ∷ all)) heads (keeps x first all (kept-less is first lost tails))
kept-less (leaves_out x part all is) first lost same = leaves_out x first all (kept-less is first lost same)

part-less : {X : Type 0} (first lost : List X) {all : List X} → IsPart (first ++ lost) all → IsPart first all
part-less first lost is = kept-less is first lost refl

sent-more : (log : List Shown) (line : Shown) → sent_in (log ++ line ∷ []) ≡ sent_in log ++ frame_sent line
sent-more [] line = append-nil (frame_sent line)
sent-more (first ∷ log) line =
    ap (λ (rest : List (List ℕ)). frame_sent first ++ rest) (sent-more log line)
    ∙ sym (append_assoc (frame_sent first) (sent_in log) (frame_sent line))

-- ---- each way in which a log goes on

module _ (w : Wording) (config : ConfigParts) where
  abbrev after : List SessionCall → SessionParts
  after calls = after_calls w.decoding (new_session config) calls

  after-more : (calls : List SessionCall) (made : SessionCall) (s t : SessionParts)
      → t ≡ (called w.decoding s made).1 → s ≡ after calls → t ≡ after (calls ++ made ∷ [])
  after-more calls made s t is same =
      is ∙ (ap (λ (x : SessionParts). (called w.decoding x made).1) same
      ∙ sym (after-append w.decoding (new_session config) calls (made ∷ [])))

  written_made : (log : List Shown) (calls : List SessionCall) (t before now : TraceParts) (made : SessionCall)
      → IsWritten w config log calls t → before.session ≡ t.session → before.due ≡ t.due → Makes w before made now
      → IsWritten w config log (calls ++ made ∷ []) now
  written_made log calls t before now made is session due makes = record {
    session = after-more calls made before.session now.session makes.session (session ∙ is.session);
    frames = is.frames ++ makes.frames;
    shown = subst (λ (m : List Message). AreShown w m (is.frames ++ makes.frames))
        (sym (written-more w.decoding (new_session config) calls made))
        (shown-append w (written_in (steps_of w.decoding (new_session config) calls))
        (messages_in (called w.decoding (after calls) made).0) is.frames makes.frames is.shown
        (framed-shown w makes.stamp (messages_in (called w.decoding (after calls) made).0) makes.frames
        (subst (λ (s : SessionParts). AreFramed w.encoding makes.stamp (map alone (messages_in (called w.decoding s made).0)) makes.frames)
        (session ∙ is.session) makes.framed)));
    part = subst (λ (p : List (List ℕ)). IsPart p (is.frames ++ makes.frames))
        (append_assoc (sent_in log) t.due makes.frames
        ∙ ap (λ (d : List (List ℕ)). sent_in log ++ d)
        (sym (makes.due ∙ ap (λ (d : List (List ℕ)). d ++ makes.frames) due)))
        (part-append is.part makes.frames);
  }

  written_broken : (log : List Shown) (calls : List SessionCall) (t now : TraceParts) → IsWritten w config log calls t
      → now.session ≡ (called w.decoding t.session call.Broken).1 → now.due ≡ []
      → IsWritten w config log (calls ++ call.Broken ∷ []) now
  written_broken log calls t now is session due = record {
    session = after-more calls call.Broken t.session now.session session is.session;
    frames = is.frames;
    shown = subst (λ (m : List Message). AreShown w m is.frames)
        (sym (written-more w.decoding (new_session config) calls call.Broken
        ∙ append-nil (written_in (steps_of w.decoding (new_session config) calls)))) is.shown;
    part = subst (λ (p : List (List ℕ)). IsPart p is.frames)
        (sym (ap (λ (d : List (List ℕ)). sent_in log ++ d) due ∙ append-nil (sent_in log)))
        (part-less (sent_in log) t.due is.part);
  }

  written_as : (log later : List Shown) (calls : List SessionCall) (t now : TraceParts) → IsWritten w config log calls t
      → now.session ≡ t.session → sent_in log ++ t.due ≡ sent_in later ++ now.due
      → IsWritten w config later calls now
  written_as log later calls t now is session same = record {
    session = session ∙ is.session;
    frames = is.frames;
    shown = is.shown;
    part = subst (λ (p : List (List ℕ)). IsPart p is.frames) same is.part;
  }

-- what a log shows is written
pub wrote : (w : Wording) (config : ConfigParts) {log : List Shown} {calls : List SessionCall} {t : TraceParts}
    → Shows w config log calls t → IsWritten w config log calls t
wrote w config begins = record { session = refl; frames = []; shown = tt; part = ends }
wrote w config (sends log calls t frame due shows is) =
    written_as w config log (log ++ Sent frame ∷ []) calls t (record t { due = due }) (wrote w config shows) refl
    (ap (λ (d : List (List ℕ)). sent_in log ++ d) is
    ∙ (sym (append_assoc (sent_in log) (frame.items ∷ []) due)
    ∙ ap (λ (s : List (List ℕ)). s ++ due) (sym (sent-more log (Sent frame)))))
wrote w config (receives log calls t frame shows) =
    written_as w config log (log ++ Received frame ∷ []) calls t (record t { unheard = t.unheard ++ frame.items ∷ [] })
    (wrote w config shows) refl
    (ap (λ (s : List (List ℕ)). s ++ t.due) (sym (sent-more log (Received frame) ∙ append-nil (sent_in log))))
wrote w config (hears log calls t after frame unheard made shows is said makes) =
    written_made w config log calls t (record t { unheard = unheard }) after made (wrote w config shows) refl refl makes
wrote w config (passes log calls t frame unheard shows is said) =
    written_as w config log log calls t (record t { unheard = unheard }) (wrote w config shows) refl refl
wrote w config (calls_own log calls t after made shows own makes) =
    written_made w config log calls t t after made (wrote w config shows) refl refl makes
wrote w config (breaks log calls t after shows session due unheard) =
    written_broken w config log calls t after (wrote w config shows) session due
