-- Where words lie that are kept one behind the other in one text.
use Rattle.std.specs.Prelude.{ℕ, ◌+◌, ◌≤◌, List, ◌++◌, length, take, drop, map}
use Rattle.report_words.specs.declared.placed.Part.{Part}
use Rattle.report_words.specs.declared.placed.Placed.{Placed}
use Rattle.report_words.specs.declared.report_words.ReportWords.{ReportWords}
use Rattle.report_words.specs.Words.{Words}

-- so many bytes of a text, from one on
abbrev pub piece : List ℕ → ℕ → ℕ → List ℕ
piece bytes start count = take count (drop start bytes)

-- the words that lie there
abbrev pub part_at : List ℕ → ℕ → Part → Words
part_at bytes start part = record { text = piece bytes start part.len; is_cut = part.is_cut }

-- where each part begins: behind the one before
abbrev pub exec_type_at : Placed → ℕ
exec_type_at p = p.start + p.id.len

abbrev pub order_at : Placed → ℕ
order_at p = exec_type_at p + p.exec_type.len

abbrev pub shares_at : Placed → ℕ
shares_at p = order_at p + p.order.len

abbrev pub price_at : Placed → ℕ
price_at p = shares_at p + p.shares.len

abbrev pub time_at : Placed → ℕ
time_at p = price_at p + p.price.len

abbrev pub text_at : Placed → ℕ
text_at p = time_at p + p.time.len

abbrev pub reason_at : Placed → ℕ
reason_at p = text_at p + p.text.len

abbrev pub refused_at : Placed → ℕ
refused_at p = reason_at p + p.reason.len

abbrev pub message_at : Placed → ℕ
message_at p = refused_at p + p.refused.len

abbrev pub end_of : Placed → ℕ
end_of p = message_at p + p.message.len

-- the words that lie at these places
abbrev pub words_at : List ℕ → Placed → ReportWords
words_at bytes p = record {
  id = part_at bytes p.start p.id;
  exec_type = part_at bytes (exec_type_at p) p.exec_type;
  order = part_at bytes (order_at p) p.order;
  shares = part_at bytes (shares_at p) p.shares;
  price = part_at bytes (price_at p) p.price;
  time = part_at bytes (time_at p) p.time;
  text = part_at bytes (text_at p) p.text;
  reason = part_at bytes (reason_at p) p.reason;
  refused = part_at bytes (refused_at p) p.refused;
  message = part_at bytes (message_at p) p.message;
}

-- places in a text of so many bytes, each part of at most as many as are kept of it
pub record IsPlaced (count : ℕ) (p : Placed) : Type 0 where
  pub within : end_of p ≤ count
  pub id : p.id.len ≤ 64
  pub exec_type : p.exec_type.len ≤ 8
  pub order : p.order.len ≤ 64
  pub shares : p.shares.len ≤ 24
  pub price : p.price.len ≤ 32
  pub time : p.time.len ≤ 32
  pub text : p.text.len ≤ 200
  pub reason : p.reason.len ≤ 16
  pub refused : p.refused.len ≤ 8
  pub message : p.message.len ≤ 8

-- all bytes of words, in order
abbrev pub bytes_of : ReportWords → List ℕ
bytes_of w =
    w.id.text ++ (w.exec_type.text ++ (w.order.text ++ (w.shares.text ++ (w.price.text
    ++ (w.time.text ++ (w.text.text ++ (w.reason.text ++ (w.refused.text ++ w.message.text))))))))

-- the words that lie at places, in order
abbrev pub all_at : List ℕ → List Placed → List ReportWords
all_at bytes places = map (words_at bytes) places

-- a part of these words, and where the parts of words lie that begin here
abbrev pub part_of : Words → Part
part_of words = record { len = length words.text; is_cut = words.is_cut }

abbrev pub placed_at : ℕ → ReportWords → Placed
placed_at start w = record {
  start = start;
  id = part_of w.id;
  exec_type = part_of w.exec_type;
  order = part_of w.order;
  shares = part_of w.shares;
  price = part_of w.price;
  time = part_of w.time;
  text = part_of w.text;
  reason = part_of w.reason;
  refused = part_of w.refused;
  message = part_of w.message;
}
