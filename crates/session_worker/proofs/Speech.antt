-- What goes over a link, one call of the session after another.
use Rattle.std.proofs.Common.{◌≡◌, ℕ, List, [], ◌∷◌, ◌++◌, Some, None, map, refl, sym, ap, subst, ◌∙◌, inl, inr, append_assoc}
use Rattle.std.specs.List.{concat}
use Rattle.std.proofs.lemmas.List.{append-nil}
use Rattle.fix_tags.specs.Stamp.{StampParts}
use Rattle.dialect.specs.declared.message.Message.{Message}
use Rattle.dialect.specs.Framed.{AreFramed}
use Rattle.dialect.specs.Wording.{Wording}
use Rattle.dialect.specs.Outgoing.{alone}
use Rattle.link.specs.Traffic.{Traffic, Tells, Takes, TakesPart, GivesBytes, Stays}
use Rattle.link.proofs.Taking.{tells_nothing}
use Rattle.session_core.specs.declared.session_call.SessionCall.{SessionCall}
use Rattle.session_core.specs.declared.session_call.SessionCall.TheVariants as call
use Rattle.session_core.specs.Session.{SessionParts}
use Rattle.session_core.specs.Trial.{called, after_calls}
use Rattle.session_worker.specs.Hearing.{Said, said_with, said_after, Hears}
use Rattle.session_worker.specs.Speaking.{Wire, Reads, TakesFirst, IsGivenUp, Puts, Begins, messages_in, Speaks, Speak}
use Rattle.session_worker.specs.Linking.{IsPlain}
use Rattle.session_worker.proofs.Spoken.{stays_last, stays_here}

pub stays_first : (R : List Traffic → List Traffic → Type 0) (a b c : Wire) → Tells a b Stays → Tells b c R → Tells a c R
stays_first R None None None p q = tt
stays_first R None None (Some w) p q = absurd q
stays_first R None (Some v) c p q = absurd p
stays_first R (Some u) None c p q = absurd p
stays_first R (Some u) (Some v) None p q = absurd q
stays_first R (Some u) (Some v) (Some w) p q = subst (λ (x : List Traffic). R x w) p q

pub stays_on : (a b c : Wire) → Tells a b Stays → Tells b c Stays → Tells a c Stays
stays_on a b c p q = stays_last Stays a b c p q

pub stays_same : (a b : Wire) → b ≡ a → Tells a b Stays
stays_same a b same = subst (λ (c : Wire). Tells a c Stays) (sym same) (stays_here a)

-- no byte was written, or none read
pub takes_none : (a b : Wire) → Tells a b Stays → Tells a b (Takes [])
takes_none a b stays = stays_last (Takes []) a a b (tells_nothing a) stays

gives_nothing : (w : List Traffic) → GivesBytes [] w w
gives_nothing [] = (refl, refl)
gives_nothing (t ∷ ts) = ap (λ (l : List ℕ). record { written = t.written; read = l } ∷ ts) (sym (append-nil t.read))

reads_here : (a : Wire) → Reads a a
reads_here None = tt
reads_here (Some w) = ([], gives_nothing w)

pub reads_none : (a b : Wire) → Tells a b Stays → Reads a b
reads_none a b stays =
    stays_last (λ (w v : List Traffic). (bytes : List ℕ) × GivesBytes bytes w v) a a b (reads_here a) stays

pub reads_bytes : (bytes : List ℕ) (a b : Wire) → Tells a b (GivesBytes bytes) → Reads a b
reads_bytes bytes None None p = tt
reads_bytes bytes None (Some v) p = absurd p
reads_bytes bytes (Some w) None p = absurd p
reads_bytes bytes (Some w) (Some v) p = (bytes, p)

gives_more : (xs ys : List ℕ) (u v w : List Traffic) → GivesBytes xs u v → GivesBytes ys v w → GivesBytes (xs ++ ys) u w
gives_more xs ys [] v w p q =
    let last : (ys ≡ []) × (w ≡ []) = rw p.1 at q in
    (rw p.0 last.0, last.1)
gives_more xs ys (t ∷ ts) v w p q =
    let last : w ≡ record { written = t.written; read = (t.read ++ xs) ++ ys } ∷ ts = rw p at q in
    last ∙ ap (λ (l : List ℕ). record { written = t.written; read = l } ∷ ts) (append_assoc t.read xs ys)

pub reads_on : (a b c : Wire) → Reads a b → Reads b c → Reads a c
reads_on None None None p q = tt
reads_on None None (Some w) p q = absurd q
reads_on None (Some v) c p q = absurd p
reads_on (Some u) None c p q = absurd p
reads_on (Some u) (Some v) None p q = absurd q
reads_on (Some u) (Some v) (Some w) p q = (p.0 ++ q.0, gives_more p.0 q.0 u v w p.1 q.1)

-- the first of some bytes, or none of them
pub takes_first : (bytes : List ℕ) (a b : Wire) → Tells a b (TakesPart bytes) → Tells a b (TakesFirst bytes)
takes_first bytes None None p = tt
takes_first bytes None (Some v) p = absurd p
takes_first bytes (Some w) None p = absurd p
takes_first bytes (Some w) (Some v) p = (p.0, p.1, p.3)

takes_start : (bytes : List ℕ) (a : Wire) → Tells a a (Takes []) → Tells a a (TakesFirst bytes)
takes_start bytes None p = tt
takes_start bytes (Some w) p = ([], (bytes, refl), p)

pub takes_no_first : (bytes : List ℕ) (a b : Wire) → Tells a b Stays → Tells a b (TakesFirst bytes)
takes_no_first bytes a b stays = stays_last (TakesFirst bytes) a a b (takes_start bytes a (tells_nothing a)) stays

-- a connection that was given up was, whatever follows
given_up_more : (first more : List SessionCall) → IsGivenUp first → IsGivenUp (first ++ more)
given_up_more [] more gone = absurd gone
given_up_more (call.Broken ∷ first) more gone = tt
given_up_more (call.Confirm ∷ first) more gone = given_up_more first more gone
given_up_more (call.Connect ∷ first) more gone = absurd gone
given_up_more (call.SendLeg ordinal leg ∷ first) more gone = absurd gone
given_up_more (call.Receive envelope ∷ first) more gone = absurd gone
given_up_more (call.Quiet ∷ first) more gone = absurd gone
given_up_more (call.Silent ∷ first) more gone = absurd gone
given_up_more (call.Close ∷ first) more gone = absurd gone
given_up_more (call.Malformed ∷ first) more gone = absurd gone
given_up_more (call.Abandon ∷ first) more gone = absurd gone

puts_more : (bytes : List ℕ) (first more : List SessionCall) (a b : Wire) → Puts bytes first a b → Puts bytes (first ++ more) a b
puts_more bytes first more a b (inl all) = inl all
puts_more bytes first more a b (inr part) = inr (given_up_more first more part.0, part.1)

speaks_more : (w : Wording) (s : SessionParts) (said : Said) (made : SessionCall) (first more : List SessionCall)
    (a b : Wire) → Speaks w s said made first a b → Speaks w s said made (first ++ more) a b
speaks_more w s said made first more a b one = record {
  heard = one.heard;
  reads = one.reads;
  hears = one.hears;
  ready = one.ready;
  begins = one.begins;
  stamp = one.stamp;
  frames = one.frames;
  framed = one.framed;
  puts = puts_more (concat one.frames) first more one.ready b one.puts;
}

-- bytes that were read before
speaks_read : (w : Wording) (s : SessionParts) (said : Said) (made : SessionCall) (later : List SessionCall)
    (a b c : Wire) → Reads a b → Speaks w s said made later b c → Speaks w s said made later a c
speaks_read w s said made later a b c reads one = record {
  heard = one.heard;
  reads = reads_on a b one.heard reads one.reads;
  hears = one.hears;
  ready = one.ready;
  begins = one.begins;
  stamp = one.stamp;
  frames = one.frames;
  framed = one.framed;
  puts = one.puts;
}

pub speak_read : (w : Wording) (s : SessionParts) (said : Said) (calls : List SessionCall) (a b c : Wire)
    → Reads a b → Speak w s said calls b c → Speak w s said calls a c
speak_read w s said [] a b c reads rest = reads_on a b c reads rest
speak_read w s said (made ∷ later) a b c reads rest =
    (rest.0, speaks_read w s said made later a b rest.0 reads rest.1, rest.2)

-- calls and then others
pub speak_on : (w : Wording) (s : SessionParts) (said : Said) (first more : List SessionCall) (a b c : Wire)
    → Speak w s said first a b → Speak w (after_calls w.decoding s first) (said_after said first) more b c
    → Speak w s said (first ++ more) a c
speak_on w s said [] more a b c one next = speak_read w s said more a b c one next
speak_on w s said (made ∷ first) more a b c one next = (
  one.0,
  speaks_more w s said made first more a one.0 one.1,
  speak_on w (called w.decoding s made).1 (said_with said made) first more one.0 b c one.2 next,
)

-- no call
pub speak_none : (w : Wording) (s : SessionParts) (said : Said) (a b : Wire) → Tells a b Stays
    → Speak w s said [] a b
speak_none w s said a b stays = reads_none a b stays

-- one call, whose messages were written with a stamp
pub speak_made : (w : Wording) (s : SessionParts) (said : Said) (made : SessionCall) (later : List SessionCall)
    (stamp : StampParts) (frames : List (List ℕ)) (a b c d : Wire) → Hears said made a → Begins s made a b
    → AreFramed w.encoding stamp (map alone (messages_in (called w.decoding s made).0)) frames → Puts (concat frames) later b c
    → Speak w (called w.decoding s made).1 (said_with said made) later c d → Speak w s said (made ∷ later) a d
speak_made w s said made later stamp frames a b c d hears begins framed puts rest = (
  c,
  record {
    heard = a;
    reads = reads_none a a (stays_here a);
    hears = hears;
    ready = b;
    begins = begins;
    stamp = stamp;
    frames = frames;
    framed = framed;
    puts = puts;
  },
  rest,
)

abbrev no_stamp : StampParts
no_stamp = record { year = 0; month = 0; day = 0; hour = 0; minute = 0; second = 0; milli = 0 }

-- one call, which has no message
pub speak_silent : (w : Wording) (s : SessionParts) (said : Said) (made : SessionCall) (later : List SessionCall)
    (a b c : Wire) → Hears said made a → Begins s made a b → messages_in (called w.decoding s made).0 ≡ []
    → Speak w (called w.decoding s made).1 (said_with said made) later b c → Speak w s said (made ∷ later) a c
speak_silent w s said made later a b c hears begins none rest =
    speak_made w s said made later no_stamp [] a b b c hears begins
    (subst (λ (messages : List Message). AreFramed w.encoding no_stamp (map alone messages) []) (sym none) tt)
    (inl (takes_none b b (stays_here b))) rest

pub begins_plain : (s : SessionParts) (made : SessionCall) (a b : Wire) → IsPlain made → Tells a b Stays → Begins s made a b
begins_plain s call.Connect a b plain stays = absurd plain
begins_plain s (call.SendLeg ordinal leg) a b plain stays = absurd plain
begins_plain s call.Broken a b plain stays = absurd plain
begins_plain s (call.Receive envelope) a b plain stays = stays
begins_plain s call.Confirm a b plain stays = stays
begins_plain s call.Quiet a b plain stays = stays
begins_plain s call.Silent a b plain stays = stays
begins_plain s call.Close a b plain stays = stays
begins_plain s call.Malformed a b plain stays = stays
begins_plain s call.Abandon a b plain stays = stays

-- the one frame of a call's message
pub concat_one : (frame : List ℕ) → concat (frame ∷ []) ≡ frame
concat_one frame = append-nil frame

-- the connection is given up
pub speak_broken : (w : Wording) (s : SessionParts) (said : Said) (a b : Wire) → Tells a b Stays
    → Speak w s said (call.Broken ∷ []) a b
speak_broken w s said a b stays =
    speak_silent w s said call.Broken [] a b b tt (inl stays) refl
    (speak_none w (called w.decoding s call.Broken).1 said b b (stays_here b))
