-- Worked examples: what the definitions say of some texts.
use Rattle.std.specs.Prelude.{◌≡◌, ℕ, List, [], ◌∷◌, ◌++◌, pos, negsuc, Some, None, Ok, Err, codes}
use Rattle.records.specs.Numbers.{number_of}
use Rattle.records.specs.Format.{written}
use Rattle.records.specs.Outcome.{next_of}
use Rattle.records.specs.declared.fault.TextFault.TheVariants.{WrongKey, UnknownKind, MalformedValue}
use Rattle.records.specs.declared.kind.Record.TheVariants as rec

-- a text with the end of its line
abbrev pub nl : List ℕ → List ℕ
nl t = t ++ 10 ∷ []

pub record Examples : Type 0 where
  pub minus_zero : number_of (codes "-0") ≡ None
  pub plus : number_of (codes "+1") ≡ None
  pub leading_zero : number_of (codes "01") ≡ None
  pub twelve_digits : number_of (codes "100000000000") ≡ None
  pub eleven_digits : number_of (codes "-99999999999") ≡ Some (negsuc 99999999998)
  pub entry_text : written (rec.EntryMeasurement (pos 3) (pos 0) (negsuc 6)) ≡ nl (codes "kind=E") ++ (nl (codes "day=3") ++ (nl (codes "entry=0") ++ nl (codes "quantity=-7")))
  pub close_read : next_of (nl (codes "kind=C") ++ codes "kind=E") 4 ≡ Ok (Some (record { read = rec.CloseDay; line = 4; bytes = 7; lines = 1 }))
  pub no_equals : next_of (nl (codes "kind")) 9 ≡ Err (WrongKey 9)
  pub two_letters : next_of (nl (codes "kind=EE")) 9 ≡ Err (UnknownKind 9)
  pub missing : next_of (nl (codes "kind=E") ++ (nl (codes "day=3") ++ codes "entry=4")) 1 ≡ Err (WrongKey 3)
  pub keys_first : next_of (nl (codes "kind=E") ++ (nl (codes "day=03") ++ (nl (codes "entry=0") ++ nl (codes "quantities=7")))) 1 ≡ Err (WrongKey 4)
  pub first_value : next_of (nl (codes "kind=E") ++ (nl (codes "day=3") ++ (nl (codes "entry=x") ++ nl (codes "quantity=")))) 5 ≡ Err (MalformedValue 7)
