-- The texts of numbers, and what they are read as.
use Rattle.std.proofs.Common.{◌≡◌, ℕ, zero, suc, ◌^◌, ◌<◌, ◌≤◌, Bool, true, false, cond, eqb, List, [], ◌∷◌, length, get_or, drop, ℤ, pos, negsuc, neg_ℤ, nat_abs, Some, None, Option, sym, refl, ap, ◌∙◌, subst, ⊎_elim, arith}
use Rattle.std.specs.Str.Parse.{digits_value, AllDigits}
use Rattle.std.specs.Int.{IsInRange}
use Rattle.std.specs.Fmt as written
use Rattle.std.proofs.lemmas.List.{drop_more}
use Rattle.std.proofs.lemmas.Bool.{ne_eqb, and_parts, and_from, lt-ltb, ltb-true, cases_eq}
use Rattle.std.proofs.lemmas.Slice.Eq.{bytes_eq-Decides}
use Rattle.std.proofs.lemmas.Str.Parse.{IsNumeralModel, numerals_by_value, tells_digits, digit_at, digit_from_value, digits_value_short}
use Rattle.std.proofs.lemmas.Fmt.{decimal_nonempty, length-decimal-le, first_decimal, digits_decimal, digits_value-decimal, decimal-digits_value, decimal_injective, decimal_digit}
use Rattle.records.specs.Numbers.{decimal, Short, Exact, Natural, reading, proper, number_of}

own : IsNumeralModel (AllDigits 10) (digits_value 10)
own = numerals_by_value (AllDigits 10) tells_digits

-- what the text of a number of at most eleven digits is like
module _ (ds : List ℕ) (n : ℕ) (small : n < 10 ^ 11) (e : ds ≡ written.decimal n) where
  pub long : (0 < length ds) × (length ds ≤ 11)
  long = let a = decimal_nonempty n (omega arith) in let b = length-decimal-le 11 n (omega arith) small (omega arith) in let l = ap length e in (omega arith, omega arith)

  pub all_digits : AllDigits 10 ds
  all_digits = subst (AllDigits 10) (sym e) (digits_decimal own n (omega arith))

  pub digit_in : (i : ℕ) → i < length ds → IsInRange 48 57 (get_or ds i 0)
  digit_in i l = digit_at ds i all_digits l

  pub no_zero : get_or ds 0 0 ≡ 48 → length ds ≡ 1
  no_zero h = ⊎_elim (λ z. ap length (e ∙ (ap written.decimal z ∙ decimal_digit 0 (omega arith)))) (λ nz. let f = first_decimal n (omega arith) (omega arith) in let g : get_or ds 0 0 ≡ get_or (written.decimal n) 0 0 = ap (λ x. get_or x 0 0) e in absurd (omega arith)) (cases_eq n 0)

-- digits without a leading zero are the text of their value
pub natural_some : (ds : List ℕ) → AllDigits 10 ds → 0 < length ds → length ds ≤ 11 → (get_or ds 0 0 ≡ 48 → length ds ≡ 1) → (digits_value 10 ds < 10 ^ 11) × (ds ≡ written.decimal (digits_value 10 ds))
natural_some ds d some short z =
    let s : digits_value 10 ds < 10 ^ 11 = digits_value_short own ds 11 d short in
    (s, sym (decimal-digits_value own ds d some z (omega arith)))

pub value_under : (ds : List ℕ) (k : ℕ) → AllDigits 10 ds → length ds ≤ k → digits_value 10 ds < 10 ^ k
value_under ds k d l = digits_value_short own ds k d l

module _ (v : List ℕ) (some : 0 < length v) (minus : get_or v 0 0 ≡ 45) where
  after_sign : v ≡ 45 ∷ drop 1 v
  after_sign = drop_more v 0 0 some ∙ ap (λ c. c ∷ drop 1 v) minus

  not_plain : (n : ℕ) → n < 10 ^ 11 → v ≡ written.decimal n → ⊥
  not_plain n s e = let d = digit_in v n s e 0 some in omega arith

  pub minus_none : Natural (drop 1 v) None → Exact v None
  minus_none h (pos n) s e = not_plain n s e
  minus_none h (negsuc n) s e = h (suc n) s (ap (drop 1) e)

  pub minus_zero : Natural (drop 1 v) (Some 0) → Exact v None
  minus_zero h (pos n) s e = not_plain n s e
  minus_zero h (negsuc n) s e = let q = decimal_injective (suc n) 0 (omega arith) (omega arith) (sym (ap (drop 1) e) ∙ h.1) in omega arith

  pub minus_some : (n : ℕ) → 0 < n → Natural (drop 1 v) (Some n) → Exact v (Some (neg_ℤ (pos n)))
  minus_some zero p h = absurd (omega arith)
  minus_some (suc n) p h = (h.0, after_sign ∙ ap (λ x. 45 ∷ x) h.1)

-- what is read back
plain_reading : (ds : List ℕ) → AllDigits 10 ds → reading ds ≡ pos (digits_value 10 ds)
plain_reading [] d = refl
plain_reading (c ∷ cs) d =
    let i = digit_from_value c d.0 in
    let f : eqb c 45 ≡ false = ne_eqb c 45 (λ h. omega arith) in
    simp f

pub reads_back : (z : ℤ) → Short z → reading (decimal z) ≡ z
reads_back (pos n) s = plain_reading (written.decimal n) (digits_decimal own n (omega arith)) ∙ ap pos (digits_value-decimal own n (omega arith))
reads_back (negsuc n) s = ap (λ m. neg_ℤ (pos m)) (digits_value-decimal own (suc n) (omega arith))

pub proper_decimal : (z : ℤ) → Short z → proper (decimal z) ≡ true
proper_decimal z s =
    let e = reads_back z s in
    and_from _ _ (lt-ltb _ _ (subst (λ x. nat_abs x < 10 ^ 11) (sym e) s)) ((bytes_eq-Decides (decimal z) (decimal (reading (decimal z)))).1 (ap decimal (sym e)))

pub proper_is : (v : List ℕ) → proper v ≡ true → Short (reading v) × (v ≡ decimal (reading v))
proper_is v h = let p = and_parts _ _ h in (ltb-true _ _ p.0, (bytes_eq-Decides v (decimal (reading v))).0 p.1)

exact_answer : (v : List ℕ) (r : Option ℤ) → Exact v r → r ≡ number_of v
exact_answer v (Some z) h =
    let e = reads_back z h.0 in
    let p = proper_decimal z h.0 in
    let q : number_of (decimal z) ≡ Some z = simp p (ap Some e) in
    sym (ap number_of h.1 ∙ q)
exact_answer v None h = go (proper v) refl
  where
    go : (t : Bool) → proper v ≡ t → ◌≡◌ {A = Option ℤ} None (cond t (Some (reading v)) None)
    go true e = let p = proper_is v e in absurd (h (reading v) p.0 p.1)
    go false e = refl

pub answered : (v : List ℕ) (r : Option ℤ) → Exact v r → record { exact : Exact v r; answer : r ≡ number_of v }
answered v r x = record { exact = x; answer = exact_answer v r x }
