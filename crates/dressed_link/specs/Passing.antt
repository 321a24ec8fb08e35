-- What goes over the link below a dressed one: the frames that were taken, each dressed, in order.
use Rattle.std.specs.Prelude.{◌≡◌, Bool, true, false, ℕ, List, [], ◌∷◌, ◌++◌, Option, Some, None}
use Rattle.std.specs.List.{All, flat_map}
use Rattle.fix_text.specs.Tagged.{Tagged}
use Rattle.fix_text.specs.Grammar.{IsValidFrame}
use Rattle.fix_tags.specs.Dress.{Dress}
use Rattle.link.specs.Traffic.{Traffic, Tells}
use Rattle.dressed_link.specs.Dressing.{dressed_frame}

-- a frame that was taken, and its fields
pub record Taken : Type 0 where
  pub text : List ℕ
  pub fields : List Tagged

abbrev pub IsTaken : Taken → Type 0
IsTaken taken = IsValidFrame taken.text taken.fields

-- bytes that are valid frames, one behind the other, and the same frames dressed
pub record IsDressing (d : Dress) (bytes dressed : List ℕ) : Type 0 where
  pub frames : List Taken
  pub valid : All IsTaken frames
  pub bytes_are : bytes ≡ flat_map (λ frame. frame.text) frames
  pub dressed_are : dressed ≡ flat_map (λ frame. dressed_frame d frame.fields) frames

-- a connection as its caller sees it, the same below, and what is yet to be written there: what the caller wrote is
-- dressed, and what is read is handed on as it comes
pub record IsPassed (d : Dress) (told below : Traffic) (pending : List ℕ) : Type 0 where
  pub written : IsDressing d told.written (below.written ++ pending)
  pub read : told.read ≡ below.read

-- a connection that ended: what was yet to be written is lost
abbrev pub WasPassed : Dress → Traffic → Traffic → Type 0
WasPassed d told below = (lost : List ℕ) × IsPassed d told below lost

-- connections that ended
abbrev pub WerePassed : Dress → List Traffic → List Traffic → Type 0
WerePassed d [] [] = Unit {0}
WerePassed d [] (below ∷ belows) = ⊥
WerePassed d (told ∷ tolds) [] = ⊥
WerePassed d (told ∷ tolds) (below ∷ belows) = WasPassed d told below × WerePassed d tolds belows

-- all connections, the last dialled first, where that one is up; and where none is, with nothing to be written
abbrev pub ArePassed : Dress → Bool → List ℕ → List Traffic → List Traffic → Type 0
ArePassed d false pending tolds belows = (pending ≡ []) × WerePassed d tolds belows
ArePassed d true pending [] belows = ⊥
ArePassed d true pending (told ∷ tolds) [] = ⊥
ArePassed d true pending (told ∷ tolds) (below ∷ belows) = IsPassed d told below pending × WerePassed d tolds belows

-- the same above a link that may tell its traffic; one that tells none claims nothing
abbrev pub Passes : Dress → Bool → List ℕ → List Traffic → Option (List Traffic) → Type 0
Passes d is_up pending tolds None = Unit {0}
Passes d is_up pending tolds (Some belows) = ArePassed d is_up pending tolds belows

-- a link tells its traffic after a call, if it did so before
abbrev pub TellsOn : Option (List Traffic) → Option (List Traffic) → Type 0
TellsOn before after = Tells before after (λ _ _. Unit {0})

-- what a dressed link tells of its traffic
abbrev pub told_over : List Traffic → Option (List Traffic) → Option (List Traffic)
told_over tolds None = None
told_over tolds (Some belows) = Some tolds
