-- Grounds for refusing, one after another: a call answers the first that is met, and accepts if none is.
use Rattle.std.specs.Prelude.{ℕ, zero, suc, Bool, true, false, ◌&&◌, Some, None, Ok, Err, Option, Result}

-- what is demanded, or the fault
abbrev pub demand : {Y F : Type 0} → Bool → F → Result Y F → Result Y F
demand true e r = r
demand false e r = Err e

-- what is asked for goes on to the next question, or the fault
abbrev pub ask : {X Y F : Type 0} → Option X → F → (X → Result Y F) → Result Y F
ask (Some x) e k = k x
ask None e k = Err e

-- the answer alone, without what was resolved on the way
abbrev pub told : {Y F : Type 0} → Result Y F → Result (Unit {0}) F
told (Ok y) = Ok tt
told (Err e) = Err e

-- what a call leaves: what it makes of what was accepted, or all as it was
abbrev pub on_ok : {Y F S : Type 0} → Result Y F → (Y → S) → S → S
on_ok (Ok y) f s = f y
on_ok (Err e) f s = s

-- a test of each number below n
abbrev pub all_to : ℕ → (ℕ → Bool) → Bool
all_to zero p = true
all_to (suc n) p = all_to n p && p n
