-- The running rule keeps the laws, and what a loop over the rows does is what it means.
use Rattle.std.specs.Prelude.{◌≡◌, ℕ, zero, suc, ◌+◌, ◌-◌, ◌*◌, ◌/◌, ◌<◌, ◌≤◌, max, List, [], ◌∷◌, ◌++◌, map, length, take, drop, ℤ, sum, slice_index, slice_set, unsigned_abs, refl}
use Rattle.std.proofs.Common.{sym, ap, ◌∙◌, arith, mul-add, add-zero, zero-add, zero-mul, mul-zero, mul-div_cancel, div-add-mod', mod-lt, add-mul, div-mul-le_self}
use Rattle.std.proofs.Math.Nat.{zero-div, div-zero}
use Rattle.std.proofs.lemmas.List.{append-nil, append_assoc, take_all, take_more_set, drop_all, drop_more}
use Rattle.std.proofs.lemmas.List.Sums.{sum_by-cons}
use Rattle.std.proofs.lemmas.Nat.{le-div}
use Rattle.ledger.specs.Laws.{Lawful, nothing_to_share_by}
use Rattle.ledger.specs.Running.{running, growths}
use Rattle.ledger.specs.Signs.{signed}
use Rattle.ledger.specs.Limits.{Divisible}
use Rattle.ledger.specs.SignsLemmas.{Near, lawful_parts}

-- ---- the growths
pub length_growths : (s w c : ℕ) (xs : List ℕ) → length (growths s w c xs) ≡ length xs
length_growths s w c [] = refl
length_growths s w c (x ∷ xs) = ap suc (length_growths s w (c + x) xs)

pub rises : (s w c x : ℕ) → s * c / w ≤ s * (c + x) / w
rises s zero c x = omega (arith, div-zero (s * c))
rises s (suc w) c x = le-div _ _ _ (omega arith) (omega (arith, div-mul-le_self (s * c) (suc w), mul-add s c x))

sum_growths : (s w c : ℕ) (xs : List ℕ) → s * c / w + sum (growths s w c xs) ≡ s * (c + sum xs) / w
sum_growths s w c [] = add-zero _ ∙ ap (λ n. s * n / w) (sym (add-zero c))
sum_growths s w c (x ∷ xs) =
    let e : c + x + sum xs ≡ c + sum (x ∷ xs) = omega (arith, sum_by-cons (λ n. n) x xs) in
    let r : s * (c + x + sum xs) / w ≡ s * (c + sum (x ∷ xs)) / w = ap (λ n. s * n / w) e in
    omega (arith, r, sum_by-cons (λ n. n) (s * (c + x) / w - s * c / w) (growths s w (c + x) xs), sum_growths s w (c + x) xs, rises s w c x)

whole : (s w : ℕ) → (w ≡ 0 → s ≡ 0) → s * w / w ≡ s
whole s zero h = sym (h refl ∙ sym (ap (λ n. n * 0 / 0) (h refl)))
whole s (suc w) h = mul-div_cancel s (omega arith)

near_growth : (s w c x : ℕ) → 0 < w → Near s w x (s * (c + x) / w - s * c / w)
near_growth s w c x h =
    let q = s * c / w in
    let d = s * (c + x) / w - s * c / w in
    let e : s * (c + x) / w ≡ q + d = omega (arith, rises s w c x) in
    let p : s * (c + x) / w * w ≡ q * w + d * w = ap (λ n. n * w) e ∙ add-mul q d w in
    let above = div-add-mod' (s * (c + x)) w in
    let below = div-add-mod' (s * c) w in
    let ra = mod-lt (s * (c + x)) h in
    let rb = mod-lt (s * c) h in
    let m = mul-add s c x in
    (omega arith, omega arith)

near_growths : (s w c : ℕ) (xs : List ℕ) (k : ℕ) → 0 < w → k < length xs → Near s w (slice_index xs k) (slice_index (growths s w c xs) k)
near_growths s w c [] k h l = absurd (omega arith)
near_growths s w c (x ∷ xs) zero h l = near_growth s w c x h
near_growths s w c (x ∷ xs) (suc k) h l = near_growths s w (c + x) xs k h (omega arith)

none_growths : (s w c : ℕ) (xs : List ℕ) (k : ℕ) → k < length xs → slice_index xs k ≡ 0 → slice_index (growths s w c xs) k ≡ 0
none_growths s w c [] k l e = absurd (omega arith)
none_growths s w c (x ∷ xs) zero l e =
    let r : s * (c + x) / w ≡ s * c / w = ap (λ n. s * n / w) (omega arith) in omega (arith, r)
none_growths s w c (x ∷ xs) (suc k) l e = none_growths s w (c + x) xs k (omega arith) e

pub running_lawful : Lawful nothing_to_share_by running
running_lawful = lawful_parts {parts = λ s ws. growths s (sum ws) 0 ws} (record {
  one_each = λ s ws. length_growths s (sum ws) 0 ws;
  adds_up = λ s ws d.
      let w = sum ws in
      omega (arith, sum_growths s w 0 ws, ap (λ n. s * n / w) (zero-add w), whole s w d, ap (λ n. n / w) (mul-zero s), zero-div w);
  near = λ s ws k h l. near_growths s (sum ws) 0 ws k h l;
  none = λ s ws k _ l e. none_growths s (sum ws) 0 ws k l e;
})

-- ---- what a loop over the rows does
-- without weight there is nothing to divide, by whatever divisor
any_divisor : (w v c : ℕ) (xs : List ℕ) → growths 0 w c xs ≡ growths 0 v c xs
any_divisor w v c [] = refl
any_divisor w v c (x ∷ xs) =
    let e : 0 * (c + x) / w - 0 * c / w ≡ 0 * (c + x) / v - 0 * c / v = simp (zero-mul, zero-div) in
    ap (λ n. n ∷ growths 0 w (c + x) xs) e ∙ ap (λ ns. (0 * (c + x) / v - 0 * c / v) ∷ ns) (any_divisor w v (c + x) xs)

safe_divisor : (s w c : ℕ) (xs : List ℕ) → (w ≡ 0 → s ≡ 0) → growths s (max w 1) c xs ≡ growths s w c xs
safe_divisor s zero c xs h = rw (h refl) (any_divisor (max 0 1) 0 c xs)
safe_divisor s (suc w) c xs h = ap (λ d. growths s d c xs) (omega arith)

-- one row more is written
pub running_more : (t : ℤ) (s d r g : ℕ) (ws : List ℕ) (out : List ℤ) (i : ℕ) (y : ℤ) (all : List ℤ) → i < length ws → i < length out → g ≡ s * r / d → y ≡ signed t (s * (r + slice_index ws i) / d - g) → take i out ++ map (signed t) (growths s d r (drop i ws)) ≡ all → take (i + 1) (slice_set out i y) ++ map (signed t) (growths s d (r + slice_index ws i) (drop (i + 1) ws)) ≡ all
running_more t s d r g ws out i y all l l' eg ey h =
    let rest = map (signed t) (growths s d (r + slice_index ws i) (drop (i + 1) ws)) in
    let part : y ≡ signed t (s * (r + slice_index ws i) / d - s * r / d) = ey ∙ ap (λ n. signed t (s * (r + slice_index ws i) / d - n)) eg in
    ap (λ o. o ++ rest) (take_more_set out i y l') ∙ append_assoc (take i out) (y ∷ []) rest ∙ ap (λ v. take i out ++ (v ∷ rest)) part ∙ sym (ap (λ ds. take i out ++ map (signed t) (growths s d r ds)) (drop_more ws i 0 l)) ∙ h

-- all rows are written
pub running_all : (t t' : ℤ) (s d r : ℕ) (ws : List ℕ) (out : List ℤ) (i : ℕ) → t' ≡ t → length ws ≤ i → length out ≡ length ws → s ≡ unsigned_abs t → d ≡ max (sum ws) 1 → Divisible t ws → take i out ++ map (signed t') (growths s d r (drop i ws)) ≡ map (signed t') (growths s d 0 ws) → out ≡ running t ws
running_all t t' s d r ws out i et l el es ed div h =
    let l' : length out ≤ i = omega arith in
    let none : take i out ++ map (signed t') (growths s d r (drop i ws)) ≡ out = ap (λ ds. take i out ++ map (signed t') (growths s d r ds)) (drop_all i ws l) ∙ append-nil (take i out) ∙ take_all i out l' in
    let goal : map (signed t') (growths s d 0 ws) ≡ running t ws = simp (et, es, ed) (ap (map (signed t)) (safe_divisor (unsigned_abs t) (sum ws) 0 ws (λ e. ap unsigned_abs (div e)))) in
    sym none ∙ h ∙ goal
