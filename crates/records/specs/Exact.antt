-- The reader takes just the texts of records, and no two records have one text.
use Rattle.std.specs.Prelude.{◌≡◌, ℕ, List, [], ◌++◌, drop, Some, None, Ok, Err, Option, Result, ◌≢◌}
use Rattle.records.specs.Format.{written, Writable}
use Rattle.records.specs.Outcome.{taken}
use Rattle.records.specs.Refused.{Refused}
use Rattle.records.specs.declared.body.Taken.{Taken}
use Rattle.records.specs.declared.fault.TextFault.{TextFault}
use Rattle.records.specs.declared.kind.Record.{Record}

-- the text begins with the text of what was read, and just that is taken; or nothing is left
abbrev pub Accepted : List ℕ → ℕ → Result (Option Taken) TextFault → Type 0
Accepted t n (Ok (Some x)) = (x ≡ taken n x.read) × Writable x.read × (t ≡ written x.read ++ drop x.bytes t)
Accepted t n (Ok None) = t ≡ []
Accepted t n (Err e) = Unit {0}

-- what is refused has its ground
abbrev pub Grounded : List ℕ → ℕ → Result (Option Taken) TextFault → Type 0
Grounded t n (Ok x) = Unit {0}
Grounded t n (Err e) = (t ≢ []) × Refused t n e

-- what is accepted is the text of a record, and the text of each record is accepted as that record;
-- what is refused has its ground, and each ground is refused, unless nothing is left
pub record Exactly (t : List ℕ) (n : ℕ) (o : Result (Option Taken) TextFault) : Type 0 where
  pub accepts : (r : Record) (rest : List ℕ) → Writable r → t ≡ written r ++ rest → o ≡ Ok (Some (taken n r))
  pub accepted : Accepted t n o
  pub refused : Grounded t n o
  pub refuses : (e : TextFault) → (t ≢ []) → Refused t n e → o ≡ Err e

pub record Apart : Type 0 where
  -- two records of which each one's text begins one and the same text are one
  pub one_front : (r s : Record) (a b : List ℕ) → Writable r → Writable s → written r ++ a ≡ written s ++ b → r ≡ s
  -- so two records never have the same text
  pub one_text : (r s : Record) → Writable r → Writable s → written r ≡ written s → r ≡ s
  -- and none's text is the front of another's: what follows it is nothing
  pub no_front : (r s : Record) (more : List ℕ) → Writable r → Writable s → written r ++ more ≡ written s → (r ≡ s) × (more ≡ [])
