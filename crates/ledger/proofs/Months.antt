-- How long months are, and how many lie wholly inside a span.
use Rattle.std.proofs.Common.{◌≡◌, ℕ, zero, suc, ◌+◌, ◌-◌, ◌*◌, ◌<◌, ◌≤◌, Bool, true, false, cond, ◌||◌, eqb, leb, length, sym, refl, ap, ◌∙◌, subst, ⊎_elim, le_trans, tests, arith}
use Rattle.std.specs.List.{filter, range_with_len}
use Rattle.std.proofs.lemmas.List.Sums.{length-filter, sum-map}
use Rattle.std.proofs.lemmas.Bool.{cases_lt, cond_both, cond-true, cond-false, le-leb, lt-leb, leb-true}
use Rattle.ledger.specs.Calendar.{is_leap, month_days, length_of, year_of, month_of, first_day, whole_to, whole_months}
use Rattle.ledger.specs.Sums.{sum_to}
use Rattle.ledger.specs.GroundsLemmas.{all_at}
use Rattle.ledger.proofs.Sums.{sum_of_range, sum_at_most}

-- a month has at least 30 days, and February 28
least : ℕ → ℕ
least month = cond (eqb month 2) 28 30

month_least : (year month : ℕ) → least month ≤ month_days year month
unfolding least
month_least year month = go (eqb month 2)
  where
    go : (t : Bool) → cond t 28 30 ≤ cond t (cond (is_leap year) 29 28) (cond (eqb month 4 || (eqb month 6 || (eqb month 9 || eqb month 11))) 30 31)
    go true = cond_both (is_leap year) 29 28 (λ n. 28 ≤ n) (λ y. omega arith) (λ n. omega arith)
    go false = cond_both (eqb month 4 || (eqb month 6 || (eqb month 9 || eqb month 11))) 30 31 (λ n. 30 ≤ n) (λ y. omega arith) (λ n. omega arith)

month_within : (year month : ℕ) → (28 ≤ month_days year month) × (month_days year month ≤ 31)
month_within year month = grind (arith, tests)

-- so m months have 28 to 31 days each
pub first_within : (year month m : ℕ) → (28 * m ≤ first_day year month m) × (first_day year month m ≤ 31 * m)
first_within year month zero = (omega arith, omega arith)
first_within year month (suc m) =
    let (a, b) = first_within year month m in
    let (l, u) = month_within (year_of year month m) (month_of month m) in
    (omega arith, omega arith)

-- so fourteen months have more than 400 days, whichever is the first
enough : ℕ → Bool
enough month = leb 401 (sum_to 14 (λ m. least (month_of month m)))

fourteen : (year month : ℕ) → month ≤ 12 → 400 < first_day year month 14
unfolding enough least
fourteen year month h =
    let a = leb-true 401 _ (all_at enough 13 month refl (omega arith)) in
    let b = sum_at_most 14 (λ m. least (month_of month m)) (length_of year month) (λ m l. month_least (year_of year month m) (month_of month m)) in
    le_trans a b

first_rises : (year month m k : ℕ) → first_day year month m ≤ first_day year month (m + k)
first_rises year month m zero =
    let e : m ≡ m + zero = omega arith in
    subst (λ n. first_day year month m ≤ first_day year month n) e (omega arith)
first_rises year month m (suc k) =
    let e : suc (m + k) ≡ m + suc k = omega arith in
    subst (λ n. first_day year month m ≤ first_day year month n) e (omega (arith, first_rises year month m k))

-- the months that end within the days are the first ones
module _ (year month days : ℕ) where
  pub record Counted (n count : ℕ) : Type 0 where
    pub few : count ≤ n
    pub last : first_day year month count ≤ days
    pub next : count < n → days < first_day year month (suc count)

  counted_more : (n count : ℕ) → Counted n count → Counted (suc n) (count + cond (leb (first_day year month (suc n)) days) 1 0)
  counted_more n count h = ⊎_elim past within (cases_lt days (first_day year month (suc n)))
    where
      past : days < first_day year month (suc n) → Counted (suc n) (count + cond (leb (first_day year month (suc n)) days) 1 0)
      past l =
          let e : count + cond (leb (first_day year month (suc n)) days) 1 0 ≡ count = ap (λ x. count + x) (cond-false {A = ℕ} (leb (first_day year month (suc n)) days) 1 0 (lt-leb _ _ l)) ∙ omega arith in
          subst (Counted (suc n)) (sym e)
          (record { few = omega (arith, h.few); last = h.last; next = λ b. ⊎_elim h.next (λ o. let s : n ≡ count = omega (arith, h.few) in subst (λ x. days < first_day year month (suc x)) s l) (cases_lt count n) })

      within : first_day year month (suc n) ≤ days → Counted (suc n) (count + cond (leb (first_day year month (suc n)) days) 1 0)
      within o =
          let s : count ≡ n = ⊎_elim (λ l. absurd (still l)) (λ b. omega (arith, h.few)) (cases_lt count n) in
          let e : suc n ≡ count + cond (leb (first_day year month (suc n)) days) 1 0 = omega (arith, s, cond-true {A = ℕ} (leb (first_day year month (suc n)) days) 1 0 (le-leb _ _ o)) in
          subst (Counted (suc n)) e
          (record { few = omega arith; last = o; next = λ b. absurd (omega arith) })
        where
          still : count < n → ⊥
          still l =
              let k : (j : ℕ) × (suc count + j ≡ suc n) = (n - count, omega arith) in
              let r = subst (λ x. first_day year month (suc count) ≤ first_day year month x) k.1 (first_rises year month (suc count) k.0) in
              let q = h.next l in
              omega arith

  counted : (n : ℕ) → Counted n (whole_to n year month days)
  counted zero = record { few = omega arith; last = omega arith; next = λ b. absurd (omega arith) }
  counted (suc n) = counted_more n (whole_to n year month days) (counted n)

-- the count of those of the first fourteen months that end within the days
pub whole_is : (year month days : ℕ) → length (filter (λ m. leb (first_day year month (suc m)) days) (range_with_len 0 14)) ≡ whole_months year month days
unfolding whole_months
whole_is year month days =
    let ends : ℕ → Bool = λ m. leb (first_day year month (suc m)) days in
    length-filter ends (range_with_len 0 14) ∙ sym (sum-map (λ m. cond (ends m) 1 0) (range_with_len 0 14)) ∙ sum_of_range 14 (λ m. cond (ends m) 1 0)

pub whole_last : (year month days : ℕ) → first_day year month (whole_months year month days) ≤ days
unfolding whole_months
whole_last year month days = (counted year month days 14).last

-- at most 400 days have fewer than fourteen months
pub whole_few : (year month days : ℕ) → month ≤ 12 → days ≤ 400 → whole_months year month days ≤ 13
unfolding whole_months
whole_few year month days m h = ⊎_elim (λ l. omega arith) (λ o. absurd (past o)) (cases_lt (whole_to 14 year month days) 14)
  where
    past : 14 ≤ whole_to 14 year month days → ⊥
    past o =
        let e : whole_to 14 year month days ≡ 14 = omega (arith, (counted year month days 14).few) in
        let l = subst (λ n. first_day year month n ≤ days) e (counted year month days 14).last in
        omega (arith, fourteen year month m, l)

pub whole_next : (year month days : ℕ) → month ≤ 12 → days ≤ 400 → days < first_day year month (suc (whole_months year month days))
unfolding whole_months
whole_next year month days m h = let l = whole_few year month days m h in (counted year month days 14).next (omega (arith, l))
