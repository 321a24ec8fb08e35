-- A fault as a line of JSON (RFC 8259).
use Rattle.std.specs.Prelude.{ℕ, List, [], ◌∷◌, ◌++◌, codes, decimal, Option, Some, None, option_map}
use Rattle.day_check.specs.Json.{json_string}
use Rattle.day_check.specs.declared.told_fault.ToldFault.{ToldFault}

abbrev pub text_member : List ℕ → List ℕ → List ℕ
text_member name text = json_string name ++ 58 ∷ json_string text

-- a member before others, if it is there
abbrev pub text_before : List ℕ → Option (List ℕ) → List ℕ
text_before name None = []
text_before name (Some text) = text_member name text ++ 44 ∷ []

abbrev pub number_before : List ℕ → Option ℕ → List ℕ
number_before name None = []
number_before name (Some number) = json_string name ++ 58 ∷ decimal number ++ 44 ∷ []

-- a member behind others, if it is there
abbrev pub text_behind : List ℕ → Option (List ℕ) → List ℕ
text_behind name None = []
text_behind name (Some text) = 44 ∷ text_member name text

-- an object with the log and the line that are at fault, where they are known, the fault, and what to do, where
-- there is something
abbrev pub fault_line : Option (List ℕ) → Option ℕ → List ℕ → Option (List ℕ) → List ℕ
fault_line log line text advice =
    123 ∷ text_before (codes "log") log ++ number_before (codes "bad_line") line ++ text_member (codes "fault") text
    ++ text_behind (codes "advice") advice ++ codes "}\n"

abbrev pub fault_json : ToldFault → List ℕ
fault_json told =
    fault_line (option_map (λ log. log.now) told.log) told.line told.text.now
    (option_map (λ advice. advice.now) told.advice)
