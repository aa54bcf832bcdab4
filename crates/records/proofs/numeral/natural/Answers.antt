use Rattle.std.proofs.Common.{◌≡◌, ℕ, ◌+◌, ◌*◌, ◌^◌, ◌<◌, ◌≤◌, List, length, get_or, take, decimal, sym, ap, ◌∙◌, subst, arith, rules}
use Rattle.std.specs.Char.{digit_value}
use Rattle.std.specs.Str.Parse.{digits_value, AllDigits}
use Rattle.std.proofs.lemmas.List.{length-take-le, take_all}
use Rattle.std.proofs.lemmas.Int.Digits.{digits_value_more, digits_more}
use Rattle.std.proofs.lemmas.Bool.Decides.{nat_tests}
use Rattle.std.proofs.lemmas.Str.{digit_value_digit}
use Rattle.records.proofs.Decimals.{long, digit_in, no_zero, natural_some, value_under}
use Rattle.records.proofs.numeral.natural.Goals as goal
use Rattle.records.proofs.numeral.natural.Goals.{then-digits-lt2, else-digits-lt2+in_default-1}

pub returns-then-is_empty : goal.returns-then-is_empty
returns-then-is_empty c n s e = let l = long c.args.digits.now n s e in grind (arith, nat_tests)

pub returns-in-48 : goal.returns-in-48
returns-in-48 c n s e = let l = no_zero c.args.digits.now n s e (omega arith) in omega arith

under : (ds : List ℕ) (i n : ℕ) → i < length ds → length ds ≤ 11 → AllDigits 10 (take i ds) × (n ≡ digits_value 10 (take i ds)) → n < 10 ^ 10
under ds i n l s h = let t = length-take-le i ds (omega arith) in let v = value_under (take i ds) 10 h.0 (omega arith) in omega arith

pub overflow_mul-n : goal.overflow_mul-n
overflow_mul-n c = let l = under c.args.digits.now c.loop-d.d-index c.loop-d.n (omega arith) (omega arith) c.loop-d.invariant in search rules

pub overflow_add-n : goal.overflow_add-n
overflow_add-n c = let l = under c.args.digits.now c.loop-d.d-index c.loop-d.n (omega arith) (omega arith) c.loop-d.invariant in search rules

pub returns-in_err-to_digit : goal.returns-in_err-to_digit
returns-in_err-to_digit c =
    rw c.from_residual.ensures (λ n s e.
    let l = digit_in c.args.digits.now n s e c.loop-d.d-index (omega arith) in
    c.in_err-to_digit.ensures.value (omega (arith, digit_value_digit c.from.result (omega arith, omega arith))))

more : (ds : List ℕ) (i n c d : ℕ) → i < length ds → AllDigits 10 (take i ds) × (n ≡ digits_value 10 (take i ds)) → c ≡ get_or ds i 0 → (digit_value c < 10) × (d ≡ digit_value c) → AllDigits 10 (take (i + 1) ds) × (n * 10 + d ≡ digits_value 10 (take (i + 1) ds))
more ds i n c d l h e v =
    let w = rw e at v in
    let q = digits_value_more 10 ds i l in
    (digits_more 10 ds i l h.0 w.0, omega arith)

pub loop-d-preserved : goal.loop-d-preserved
loop-d-preserved c = more c.args.digits.now c.loop-d.d-index c.loop-d.n c.from.result c.from-in-loop-d.result (omega arith) c.loop-d.invariant (omega arith) (rw c.from-in-loop-d.ensures c.in_ok-to_digit.ensures.value)

whole : (ds : List ℕ) (i n : ℕ) → length ds ≤ i → 0 < length ds → length ds ≤ 11 → (get_or ds 0 0 ≡ 48 → length ds ≡ 1) → AllDigits 10 (take i ds) × (n ≡ digits_value 10 (take i ds)) → (n < 10 ^ 11) × (ds ≡ decimal n)
whole ds i n l some short z h =
    let t = take_all i ds l in
    let r = natural_some ds (subst (AllDigits 10) t h.0) some short z in
    let v : n ≡ digits_value 10 ds = h.1 ∙ ap (digits_value 10) t in
    (omega arith, r.1 ∙ ap decimal (sym v))

pub returns : goal.returns
returns c =
    whole c.args.digits.now c.loop-d.d-index c.loop-d.n (omega arith) (grind (arith, nat_tests)) (omega arith) (λ h.
    elim c.if-digits-lt2.branch [ then-digits-lt2 w ↦ grind (arith, nat_tests) | else-digits-lt2+in_default-1 w ↦ omega arith ]) c.loop-d.invariant
