-- What a reader gave of the bytes read on a connection.
use Rattle.std.proofs.Common.{◌≡◌, ℕ, List, [], ◌∷◌, ◌++◌, map, Option, Some, None, refl, sym, ap, subst, ◌∙◌, append_assoc}
use Rattle.std.proofs.lemmas.List.{append-nil, map-append}
use Rattle.fix_text.specs.Tagged.{Tagged}
use Rattle.fix_text.specs.Reading.{Stream, next_read, fed}
use Rattle.fix_text.specs.Deciding.{IsNext}
use Rattle.fix_text.specs.Calls.{Called, Fed, FeedRefused, Gave, Waits, NextRefused, CallsLead, new_stream, bytes_fed, frames_given, AreFirst}
use Rattle.fix_text.proofs.NextFrames.{next_is}
use Rattle.fix_text.proofs.Replays.{calls_first}
use Rattle.fix_tags.specs.Reading.{envelope_read}
use Rattle.link.specs.Traffic.{Traffic, Tells, Dials, Takes, GivesBytes, Stays}
use Rattle.session_worker.specs.Hearing.{Said, AreFirstSaid, AreHeard, ReaderAt, ReaderOn}

-- calls and then others
leads-append : (first more : List Called) (x y z : Stream) → CallsLead first x y → CallsLead more y z → CallsLead (first ++ more) x z
leads-append [] more x y z p q = subst (λ (s : Stream). CallsLead more s z) (sym p) q
leads-append (call ∷ first) more x y z p q = (p.0, p.1, leads-append first more p.0 y z p.2 q)

fed-append : (first more : List Called) → bytes_fed (first ++ more) ≡ bytes_fed first ++ bytes_fed more
fed-append [] more = refl
fed-append (Fed bytes ∷ first) more =
    ap (λ (l : List ℕ). bytes ++ l) (fed-append first more) ∙ sym (append_assoc bytes (bytes_fed first) (bytes_fed more))
fed-append (FeedRefused bytes ∷ first) more = fed-append first more
fed-append (Gave fields ∷ first) more = fed-append first more
fed-append (Waits ∷ first) more = fed-append first more
fed-append (NextRefused ∷ first) more = fed-append first more

given-append : (first more : List Called) → frames_given (first ++ more) ≡ frames_given first ++ frames_given more
given-append [] more = refl
given-append (Fed bytes ∷ first) more = given-append first more
given-append (FeedRefused bytes ∷ first) more = given-append first more
given-append (Gave fields ∷ first) more = ap (λ (l : List (List Tagged)). fields ∷ l) (given-append first more)
given-append (Waits ∷ first) more = given-append first more
given-append (NextRefused ∷ first) more = given-append first more

-- one call more
reader_call : (bytes more : List ℕ) (said then : Said) (x y : Stream) (call : Called) → ReaderAt bytes said x
    → (CallsLead (call ∷ []) x y) → bytes_fed (call ∷ []) ≡ more → map envelope_read (frames_given (call ∷ [])) ≡ then
    → ReaderAt (bytes ++ more) (said ++ then) y
reader_call bytes more said then x y call at leads fed says = record {
  calls = at.calls ++ call ∷ [];
  leads = leads-append at.calls (call ∷ []) new_stream x y at.leads leads;
  fed = fed-append at.calls (call ∷ []) ∙ (ap (λ (l : List ℕ). l ++ bytes_fed (call ∷ [])) at.fed ∙ ap (λ (l : List ℕ). bytes ++ l) fed);
  says = ap (map envelope_read) (given-append at.calls (call ∷ []))
      ∙ (map-append envelope_read (frames_given at.calls) (frames_given (call ∷ []))
      ∙ (ap (λ (l : Said). l ++ map envelope_read (frames_given (call ∷ []))) at.says ∙ ap (λ (l : Said). said ++ l) says));
}

reader_fed : (bytes more : List ℕ) (said : Said) (x : Stream) → ReaderAt bytes said x → ReaderAt (bytes ++ more) said (fed x more)
reader_fed bytes more said x at =
    subst (λ (l : Said). ReaderAt (bytes ++ more) l (fed x more)) (append-nil said)
    (reader_call bytes more said [] x (fed x more) (Fed more) at (fed x more, refl, refl) (append-nil more) refl)

is_next : (x y : Stream) (frame : Option (List Tagged)) → (next_read x).frame ≡ frame → y ≡ (next_read x).stream
    → IsNext x (record { frame = frame; stream = y })
is_next x y frame found is =
    subst (λ (s : Stream). IsNext x (record { frame = frame; stream = s })) (sym is)
    (subst (λ (f : Option (List Tagged)). IsNext x (record { frame = f; stream = (next_read x).stream })) found (next_is x))

reader_waits : (bytes : List ℕ) (said : Said) (x y : Stream) → ReaderAt bytes said x → (next_read x).frame ≡ None
    → y ≡ (next_read x).stream → ReaderAt bytes said y
reader_waits bytes said x y at found is =
    subst (λ (b : List ℕ). ReaderAt b said y) (append-nil bytes)
    (subst (λ (l : Said). ReaderAt (bytes ++ []) l y) (append-nil said)
    (reader_call bytes [] said [] x y Waits at (y, is_next x y None found is, refl) refl refl))

reader_gave : (bytes : List ℕ) (said : Said) (fields : List Tagged) (x y : Stream) → ReaderAt bytes said x
    → (next_read x).frame ≡ Some fields → y ≡ (next_read x).stream → ReaderAt bytes (said ++ envelope_read fields ∷ []) y
reader_gave bytes said fields x y at found is =
    subst (λ (b : List ℕ). ReaderAt b (said ++ envelope_read fields ∷ []) y) (append-nil bytes)
    (reader_call bytes [] said (envelope_read fields ∷ []) x y (Gave fields) at (y, is_next x y (Some fields) found is, refl) refl refl)

reader_new : ReaderAt [] [] new_stream
reader_new = record { calls = []; leads = refl; fed = refl; says = refl }

-- what it gave are the first messages
reader_first : (bytes : List ℕ) (said : Said) (x : Stream) → ReaderAt bytes said x → AreFirstSaid bytes said
reader_first bytes said x at = record {
  frames = frames_given at.calls;
  stream = x;
  first = subst (λ (b : List ℕ). AreFirst b (frames_given at.calls) x) at.fed (calls_first at.calls x at.leads);
  says = at.says;
}

-- ---- on a link

pub on_first : (said : Said) (a : Option (List Traffic)) (x : Stream) → ReaderOn said a x → AreHeard said a
on_first said None x at = tt
on_first said (Some []) x at = at
on_first said (Some (t ∷ ts)) x at = reader_first t.read said x at

pub on_waits : (said : Said) (a : Option (List Traffic)) (x y : Stream) → ReaderOn said a x → (next_read x).frame ≡ None
    → y ≡ (next_read x).stream → ReaderOn said a y
on_waits said None x y at found is = tt
on_waits said (Some []) x y at found is = at
on_waits said (Some (t ∷ ts)) x y at found is = reader_waits t.read said x y at found is

pub on_gave : (said : Said) (fields : List Tagged) (a : Option (List Traffic)) (x y : Stream) → ReaderOn said a x
    → (next_read x).frame ≡ Some fields → y ≡ (next_read x).stream → ReaderOn (said ++ envelope_read fields ∷ []) a y
on_gave said fields None x y at found is = tt
on_gave said fields (Some []) x y at found is = at
on_gave said fields (Some (t ∷ ts)) x y at found is = reader_gave t.read said fields x y at found is

pub on_stays : (said : Said) (a b : Option (List Traffic)) (x : Stream) → ReaderOn said a x → Tells a b Stays → ReaderOn said b x
on_stays said None None x at stays = tt
on_stays said None (Some v) x at stays = absurd stays
on_stays said (Some u) None x at stays = absurd stays
on_stays said (Some u) (Some v) x at stays = subst (λ (w : List Traffic). ReaderOn said (Some w) x) (sym stays) at

pub on_fed : (said : Said) (bytes : List ℕ) (a b : Option (List Traffic)) (x : Stream) → ReaderOn said a x
    → Tells a b (GivesBytes bytes) → ReaderOn said b (fed x bytes)
on_fed said bytes None None x at gives = tt
on_fed said bytes None (Some v) x at gives = absurd gives
on_fed said bytes (Some u) None x at gives = absurd gives
on_fed said bytes (Some []) (Some v) x at gives = absurd at
on_fed said bytes (Some (t ∷ ts)) (Some v) x at gives =
    subst (λ (w : List Traffic). ReaderOn said (Some w) (fed x bytes)) (sym gives) (reader_fed t.read bytes said x at)

pub on_takes : (said : Said) (bytes : List ℕ) (a b : Option (List Traffic)) (x : Stream) → ReaderOn said a x
    → Tells a b (Takes bytes) → ReaderOn said b x
on_takes said bytes None None x at takes = tt
on_takes said bytes None (Some v) x at takes = absurd takes
on_takes said bytes (Some u) None x at takes = absurd takes
on_takes said bytes (Some []) (Some v) x at takes = absurd at
on_takes said bytes (Some (t ∷ ts)) (Some v) x at takes =
    subst (λ (w : List Traffic). ReaderOn said (Some w) x) (sym takes) at

pub on_dials : (a b : Option (List Traffic)) → Tells a b Dials → ReaderOn [] b new_stream
on_dials None None dials = tt
on_dials None (Some v) dials = absurd dials
on_dials (Some u) None dials = absurd dials
on_dials (Some u) (Some v) dials = subst (λ (w : List Traffic). ReaderOn [] (Some w) new_stream) (sym dials) reader_new
