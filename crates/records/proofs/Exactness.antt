-- The reader takes just the texts of records, and refuses each other text on its ground.
use Rattle.std.proofs.Common.{◌≡◌, ℕ, List, [], ◌∷◌, length, Ok, Err, Option, Result, sym, refl, ap, subst, arith}
use Rattle.records.specs.Exact.{Exactly, Grounded}
use Rattle.records.specs.Outcome.{outcome, some, next_of}
use Rattle.records.specs.declared.body.Taken.{Taken}
use Rattle.records.specs.declared.fault.TextFault.{TextFault}
use Rattle.records.proofs.Answered.{accepted, read_parts}
use Rattle.records.proofs.Refusals.{refused, refuses}

grounded : (c : ℕ) (t : List ℕ) (n : ℕ) (o : Result Taken TextFault) → outcome (c ∷ t) n ≡ o → Grounded (c ∷ t) n (some o)
grounded c t n (Ok x) h = tt
grounded c t n (Err e) h = (λ z. let l = ap length z in omega arith, refused (c ∷ t) n e h)

next_exactly : (t : List ℕ) (n : ℕ) → Exactly t n (next_of t n)
next_exactly [] n = record { accepts = λ r rest s e. let l = ap length e in absurd (omega arith); accepted = refl; refused = tt; refuses = λ e h r. absurd (h refl) }
next_exactly (c ∷ t) n = record { accepts = λ r rest s e. ap some (read_parts r (c ∷ t) rest n s e); accepted = accepted (c ∷ t) n (outcome (c ∷ t) n) refl; refused = grounded c t n (outcome (c ∷ t) n) refl; refuses = λ e h r. ap some (refuses (c ∷ t) n e r) }

pub exactly : (t : List ℕ) (n : ℕ) (o : Result (Option Taken) TextFault) → o ≡ next_of t n → Exactly t n o
exactly t n o h = subst (Exactly t n) (sym h) (next_exactly t n)
