-- How far a reader has come in its text.
use Rattle.std.specs.Prelude.{◌≡◌, ℕ, ◌+◌, ◌<◌, List, length, drop, Some, None, Ok, Err, Option, Result}
use Rattle.records.specs.declared.body.Taken.{Taken}
use Rattle.records.specs.declared.fault.TextFault.{TextFault}
use Rattle.records.specs.declared.reader.Reader.{Reader}

-- what is left of the text, and the number of its first line
abbrev pub left : Reader → List ℕ
left r = drop r.bytes r.text.now

abbrev pub line_at : Reader → ℕ
line_at r = r.lines + 1

-- what an answer leaves of a text, and the number of the first line of that
abbrev pub left_after : Result (Option Taken) TextFault → List ℕ → List ℕ
left_after (Ok (Some x)) t = drop x.bytes t
left_after (Ok None) t = t
left_after (Err e) t = t

abbrev pub line_after : Result (Option Taken) TextFault → ℕ → ℕ
line_after (Ok (Some x)) n = n + x.lines
line_after (Ok None) n = n
line_after (Err e) n = n

-- after a record less is left
abbrev pub Less : Result (Option Taken) TextFault → List ℕ → List ℕ → Type 0
Less (Ok (Some x)) t t' = length t' < length t
Less (Ok None) t t' = Unit {0}
Less (Err e) t t' = Unit {0}

pub record Begun (text : List ℕ) (r : Reader) : Type 0 where
  pub whole : left r ≡ text
  pub first : line_at r ≡ 1

-- the reader moves by just what it took, and stays at a fault and at the end
pub record Moved (o : Result (Option Taken) TextFault) (r r' : Reader) : Type 0 where
  pub rest : left r' ≡ left_after o (left r)
  pub number : line_at r' ≡ line_after o (line_at r)
  pub less : Less o (left r) (left r')
