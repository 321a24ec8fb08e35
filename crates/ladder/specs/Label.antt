-- What is written at a frame.
use Rattle.std.specs.Prelude.{ℕ, List, ◌++◌, codes, decimal}

-- as `3: 34=3 35=D order S1L1`: the frame's number, its message's (34) and kind (35), the kind's name, and what the
-- message speaks of
abbrev pub label_text : ℕ → List ℕ → List ℕ → List ℕ → List ℕ → List ℕ
label_text number sequence kind name about =
    (decimal number ++ codes ": 34=") ++ sequence ++ codes " 35=" ++ kind ++ name ++ about
