-- Frames behind one another.
use Rattle.std.proofs.Common.{◌≡◌, ℕ, suc, arith, All, List, [], ◌∷◌, ◌++◌, sym, ap, ◌∙◌, append_assoc}
use Rattle.std.proofs.lemmas.List.{append-nil}
use Rattle.std.proofs.lemmas.List.Elements.{All-nil, All-cons}
use Rattle.dialect.specs.Writable.{IsWritable}
use Rattle.std.specs.Global.{Vec}
use Rattle.fix_tags.specs.Stamp.{StampParts}
use Rattle.dialect.specs.Framed.{IsFramed, AreFramed}
use Rattle.dialect.specs.Wording.{Encoding}
use Rattle.dialect.specs.declared.outgoing.Outgoing.{Outgoing}
use Rattle.exchange_core.specs.Frames.{bytes_of, Writes}

-- frames of two lists of messages, one behind the other
pub framed_both : (w : Encoding) (stamp : StampParts) (first second : List Outgoing) (a b : List (Vec ℕ)) → AreFramed w stamp first (bytes_of a) → AreFramed w stamp second (bytes_of b) → AreFramed w stamp (first ++ second) (bytes_of (a ++ b))
framed_both w stamp [] second [] b one two = two
framed_both w stamp [] second (frame ∷ a) b one two = absurd one
framed_both w stamp (out ∷ first) second [] b one two = absurd one
framed_both w stamp (out ∷ first) second (frame ∷ a) b one two = (one.0, framed_both w stamp first second a b one.1 two)

pub writes_none : (w : Encoding) (stamp : StampParts) (frames : List (Vec ℕ)) → Writes w stamp [] frames frames
writes_none w stamp frames = record { frames = []; added = sym (append-nil frames); framed = tt }

pub writes_both : (w : Encoding) (stamp : StampParts) (first second : List Outgoing) (a b c : List (Vec ℕ)) → Writes w stamp first a b → Writes w stamp second b c → Writes w stamp (first ++ second) a c
writes_both w stamp first second a b c one two = record {
  frames = one.frames ++ two.frames;
  added = two.added ∙ (ap (λ l. l ++ two.frames) one.added ∙ append_assoc a one.frames two.frames);
  framed = framed_both w stamp first second one.frames two.frames one.framed two.framed;
}

-- one frame more
pub writes_one : (w : Encoding) (stamp : StampParts) (out : Outgoing) (frame : Vec ℕ) (a b : List (Vec ℕ)) → IsFramed w stamp out frame.items → b ≡ a ++ frame ∷ [] → Writes w stamp (out ∷ []) a b
writes_one w stamp out frame a b is added = record { frames = frame ∷ []; added = added; framed = (is, tt) }

-- what is written of a list that can be
pub writable_first : (out : Outgoing) (more : List Outgoing) → All IsWritable (out ∷ more) → IsWritable out
writable_first out more all = all 0 out (omega arith)

pub writable_second : (out second : Outgoing) (more : List Outgoing) → All IsWritable (out ∷ second ∷ more) → IsWritable second
writable_second out second more all = all 1 second (omega arith)

pub writable_front : (xs ys : List Outgoing) → All IsWritable (xs ++ ys) → All IsWritable xs
writable_front [] ys all = All-nil IsWritable
writable_front (x ∷ xs) ys all = All-cons IsWritable x xs (all 0 x (omega arith)) (writable_front xs ys (λ k d inside. all (suc k) d (omega (arith, inside))))

pub writable_back : (xs ys : List Outgoing) → All IsWritable (xs ++ ys) → All IsWritable ys
writable_back [] ys all = all
writable_back (x ∷ xs) ys all = writable_back xs ys (λ k d inside. all (suc k) d (omega (arith, inside)))

pub writable_last : (xs : List Outgoing) (out : Outgoing) → All IsWritable (xs ++ out ∷ []) → IsWritable out
writable_last xs out all = writable_first out [] (writable_back xs (out ∷ []) all)
