-- What each refusal means: which line is bad or missing, in words about the lines of the text.
use Rattle.std.specs.Prelude.{◌≡◌, ℕ, zero, suc, ◌+◌, ◌<◌, false, ◌⊎◌, List, [], length, ℤ, codes, ◌≢◌, slice_index_or}
use Rattle.records.specs.Text.{has, after}
use Rattle.records.specs.Numbers.{decimal, Short}
use Rattle.records.specs.Format.{keys, letter, line}
use Rattle.records.specs.Lines.{value_in}
use Rattle.records.specs.declared.fault.TextFault.{TextFault}
use Rattle.records.specs.declared.fault.TextFault.TheVariants.{WrongKey, UnknownKind, MalformedValue}
use Rattle.records.specs.declared.kind.Kind.{Kind}

-- the text begins with a whole line of this key and value
pub record Begins (key value t : List ℕ) : Type 0 where
  pub bare : has 10 value ≡ false
  pub rest : List ℕ
  pub is : t ≡ line key value rest

-- the text begins with a whole line of this key
pub record KeyedLine (key t : List ℕ) : Type 0 where
  pub value : List ℕ
  pub begins : Begins key value t

-- the text from its line i on, where the first line is 0
abbrev pub from_line : ℕ → List ℕ → List ℕ
from_line zero t = t
from_line (suc i) t = from_line i (after 10 t)

-- of lines for these keys, line j is the first that is missing or has another key
pub record FirstWrong (ks : List (List ℕ)) (t : List ℕ) (j : ℕ) : Type 0 where
  pub inside : j < length ks
  pub wrong : KeyedLine (slice_index_or ks j []) (from_line j t) → ⊥
  pub before : (i : ℕ) → i < j → KeyedLine (slice_index_or ks i []) (from_line i t)

-- a value that is the text of a number
abbrev pub NumberText : List ℕ → Type 0
NumberText v = (z : ℤ) × Short z × (v ≡ decimal z)

-- each line has its key, and line j is the first whose value is no number's text
pub record FirstMalformed (ks : List (List ℕ)) (t : List ℕ) (j : ℕ) : Type 0 where
  pub inside : j < length ks
  pub keyed : (i : ℕ) → i < length ks → KeyedLine (slice_index_or ks i []) (from_line i t)
  pub malformed : NumberText (value_in (from_line j t)) → ⊥
  pub before : (i : ℕ) → i < j → NumberText (value_in (from_line i t))

-- the ground of each refusal, at a text whose first line has the number n
abbrev pub Refused : List ℕ → ℕ → TextFault → Type 0
Refused t n (WrongKey m) = ((m ≡ n) × (KeyedLine (codes "kind") t → ⊥)) ⊎ ((k : Kind) × Begins (codes "kind") (letter k) t × ((j : ℕ) × (m ≡ n + 1 + j) × FirstWrong (keys k) (after 10 t) j))
Refused t n (UnknownKind m) = (m ≡ n) × ((v : List ℕ) × Begins (codes "kind") v t × ((k : Kind) → v ≢ letter k))
Refused t n (MalformedValue m) = (k : Kind) × Begins (codes "kind") (letter k) t × ((j : ℕ) × (m ≡ n + 1 + j) × FirstMalformed (keys k) (after 10 t) j)
