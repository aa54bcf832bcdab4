-- The largest-remainder rule keeps the laws, and what a loop over the rows does is what it means.
use Rattle.std.specs.Prelude.{◌≡◌, ℕ, zero, suc, ◌+◌, ◌-◌, ◌*◌, ◌/◌, ◌%◌, ◌<◌, ◌≤◌, max, ltb, leb, List, [], ◌∷◌, ◌++◌, map, length, take, drop, ℤ, pos, sum, count_by, nat_le, nat_lt, slice_index, slice_index_or, slice_set, unsigned_abs, refl}
use Rattle.std.proofs.Common.{sym, ap, ◌∙◌, arith, mul-add, add-mul, zero-mul, mul-zero, div-add-mod', mod-lt, le_of_mul-le-mul_right, mul-le-mul, add-one}
use Rattle.std.proofs.Math.Nat.{zero-div, zero-mod}
use Rattle.std.proofs.lemmas.List.{length-map, length-take, length-drop, get_or-map, map_more, take-map, drop-map, take_all, take_more, take_more_set}
use Rattle.std.proofs.lemmas.List.Sums.{sum_by-cons, sum_by_push, sum_by-take-le, sum_by-take-drop, get_or-le-sum_by, count_by-le-length}
use Rattle.std.proofs.lemmas.Bool.Decides.{nat_tests}
use Rattle.ledger.specs.Laws.{Lawful, nothing_to_share_by}
use Rattle.ledger.specs.Largest.{Small, largest, portions, floors, remainders, extras, row_by_row}
use Rattle.ledger.specs.Signs.{signed}
use Rattle.ledger.specs.Ranks.{above, one_if, sum_extras, length_extras, extra_le, extra_none, extra_at}
use Rattle.ledger.specs.Limits.{Divisible}
use Rattle.ledger.specs.SignsLemmas.{Parts, lawful_parts}

-- ---- row by row
length_rows : (xs ys : List ℕ) → length xs ≡ length ys → length (row_by_row xs ys) ≡ length xs
length_rows [] ys e = refl
length_rows (x ∷ xs) [] e = absurd (omega arith)
length_rows (x ∷ xs) (y ∷ ys) e = ap suc (length_rows xs ys (omega arith))

sum_rows : (xs ys : List ℕ) → length xs ≡ length ys → sum (row_by_row xs ys) ≡ sum xs + sum ys
sum_rows [] [] e = refl
sum_rows [] (y ∷ ys) e = absurd (omega arith)
sum_rows (x ∷ xs) [] e = absurd (omega arith)
sum_rows (x ∷ xs) (y ∷ ys) e =
    omega (arith, sum_by-cons (λ n. n) (x + y) (row_by_row xs ys), sum_by-cons (λ n. n) x xs, sum_by-cons (λ n. n) y ys, sum_rows xs ys (omega arith))

pub row_at : (xs ys : List ℕ) (k : ℕ) → length xs ≡ length ys → k < length xs → slice_index (row_by_row xs ys) k ≡ slice_index xs k + slice_index ys k
row_at [] ys k e l = absurd (omega arith)
row_at (x ∷ xs) [] k e l = absurd (omega arith)
row_at (x ∷ xs) (y ∷ ys) zero e l = refl
row_at (x ∷ xs) (y ∷ ys) (suc k) e l = row_at xs ys k (omega arith) (omega arith)

-- ---- floors and remainders
split : (s w : ℕ) (ws : List ℕ) → sum (floors s w ws) * w + sum (remainders s w ws) ≡ s * sum ws
split s w [] = omega (arith, mul-zero s)
split s w (x ∷ xs) =
    let a : sum (floors s w (x ∷ xs)) * w ≡ s * x / w * w + sum (floors s w xs) * w = ap (λ n. n * w) (sum_by-cons (λ n. n) (s * x / w) (floors s w xs)) ∙ add-mul _ _ w in
    let b : s * sum (x ∷ xs) ≡ s * x + s * sum xs = ap (λ n. s * n) (sum_by-cons (λ n. n) x xs) ∙ mul-add s x (sum xs) in
    omega (arith, sum_by-cons (λ n. n) (s * x % w) (remainders s w xs), div-add-mod' (s * x) w, split s w xs)

-- remainders below w add up to at most w for each that is not 0
few : (s w : ℕ) (ws : List ℕ) → 0 < w → sum (remainders s w ws) ≤ above 0 (remainders s w ws) * w
few s w [] h = omega arith
few s w (x ∷ xs) h =
    let r = s * x % w in
    let rest = above 0 (remainders s w xs) in
    let a : above 0 (remainders s w (x ∷ xs)) * w ≡ one_if (nat_lt 0 r) * w + rest * w = ap (λ n. n * w) (sum_by-cons (λ n. one_if (nat_lt 0 n)) r (remainders s w xs)) ∙ add-mul _ _ w in
    let b : r ≤ one_if (nat_lt 0 r) * w = one r (mod-lt (s * x) h) in
    omega (arith, sum_by-cons (λ n. n) r (remainders s w xs), few s w xs h)
  where
    one : (r : ℕ) → r < w → r ≤ one_if (nat_lt 0 r) * w
    one zero l = omega arith
    one (suc r) l = let o : one_if (nat_lt 0 (suc r)) ≡ 1 = grind (arith, nat_tests) in omega (arith, ap (λ n. n * w) o)

no_floors : (w : ℕ) (ws : List ℕ) → sum (floors 0 w ws) ≡ 0
no_floors w [] = refl
no_floors w (x ∷ xs) =
    let z : 0 * x / w ≡ 0 = simp (zero-mul, zero-div) in
    omega (arith, sum_by-cons (λ n. n) (0 * x / w) (floors 0 w xs), no_floors w xs)

abbrev left_over : (s w : ℕ) (ws : List ℕ) → ℕ
left_over s w ws = s - sum (floors s w ws)

-- the floors give no more than there is
pub floors_le : (s w : ℕ) (ws : List ℕ) → sum ws ≡ w → (w ≡ 0 → s ≡ 0) → sum (floors s w ws) ≤ s
floors_le s zero ws e d = rw (d refl) (omega (arith, no_floors 0 ws))
floors_le s (suc w) ws e d = le_of_mul-le-mul_right {k = suc w} (omega (arith, split s (suc w) ws, ap (λ n. s * n) e)) (omega arith)

-- what they leave is no more than the rows with a remainder
enough : (s w : ℕ) (ws : List ℕ) → sum ws ≡ w → (w ≡ 0 → s ≡ 0) → left_over s w ws ≤ above 0 (remainders s w ws)
enough s zero ws e d = omega (arith, d refl)
enough s (suc w) ws e d =
    let f = floors_le s (suc w) ws e d in
    let l = left_over s (suc w) ws in
    let a : s * suc w ≡ l * suc w + sum (floors s (suc w) ws) * suc w = ap (λ n. n * suc w) (omega arith) ∙ add-mul l (sum (floors s (suc w) ws)) (suc w) in
    le_of_mul-le-mul_right {k = suc w} (omega (arith, split s (suc w) ws, ap (λ n. s * n) e, few s (suc w) ws (omega arith), a)) (omega arith)

same_length : (s w : ℕ) (ws : List ℕ) → length (floors s w ws) ≡ length (extras (left_over s w ws) [] (remainders s w ws))
same_length s w ws = length-map ws _ ∙ sym (length_extras (left_over s w ws) [] (remainders s w ws) ∙ length-map ws _)

pub portion_at : (s w : ℕ) (ws : List ℕ) (k : ℕ) → k < length ws → slice_index (portions s w ws) k ≡ s * slice_index ws k / w + slice_index (extras (left_over s w ws) [] (remainders s w ws)) k
portion_at s w ws k l =
    let f : slice_index_or (floors s w ws) k 0 ≡ s * slice_index ws k / w = get_or-map (λ x. s * x / w) ws k 0 0 l in
    row_at (floors s w ws) _ k (same_length s w ws) (omega (arith, length-map ws (λ x. s * x / w))) ∙ ap (λ n. n + slice_index (extras (left_over s w ws) [] (remainders s w ws)) k) f

no_extra : (s w : ℕ) (ws : List ℕ) (k : ℕ) → sum ws ≡ w → (w ≡ 0 → s ≡ 0) → k < length ws → s * slice_index ws k % w ≡ 0 → slice_index (extras (left_over s w ws) [] (remainders s w ws)) k ≡ 0
no_extra s w ws k e d l z =
    extra_none _ [] (remainders s w ws) k (omega (arith, enough s w ws e d)) (omega (arith, length-map ws (λ x. s * x % w))) (get_or-map (λ x. s * x % w) ws k 0 0 l ∙ z)

near_portion : (p w f r e : ℕ) → f * w + r ≡ p → r < w → e ≤ 1 → (r ≡ 0 → e ≡ 0) → ((f + e) * w < p + w) × (p < (f + e) * w + w)
near_portion p w f r zero h l b z = let m = add-mul f 0 w in (omega arith, omega arith)
near_portion p w f zero (suc e) h l b z = absurd (omega (arith, z refl))
near_portion p w f (suc r) (suc zero) h l b z = let m = add-mul f 1 w in (omega arith, omega arith)
near_portion p w f (suc r) (suc (suc e)) h l b z = absurd (omega arith)

pub largest_parts : Parts (λ s ws. portions s (sum ws) ws)
largest_parts = record {
  one_each = λ s ws. length_rows _ _ (same_length s (sum ws) ws) ∙ length-map ws _;
  adds_up = λ s ws d.
      let w = sum ws in
      let rs = remainders s w ws in
      let l : left_over s w ws ≤ length rs = omega (arith, enough s w ws refl d, count_by-le-length (λ n. ltb 0 n) rs) in
      omega (arith, sum_rows _ _ (same_length s w ws), sum_extras (left_over s w ws) rs l, floors_le s w ws refl d);
  near = λ s ws k h l.
      let w = sum ws in
      let d : w ≡ 0 → s ≡ 0 = λ z. absurd (omega arith) in
      rw (portion_at s w ws k l) (near_portion (s * slice_index ws k) w _ _ _ (div-add-mod' (s * slice_index ws k) w) (mod-lt (s * slice_index ws k) h) (extra_le (left_over s w ws) [] (remainders s w ws) k) (no_extra s w ws k refl d l));
  none = λ s ws k d l e.
      let w = sum ws in
      let p : s * slice_index ws k ≡ 0 = ap (λ n. s * n) e ∙ mul-zero s in
      let z : s * slice_index ws k % w ≡ 0 = ap (λ n. n % w) p ∙ zero-mod w in
      let q : s * slice_index ws k / w ≡ 0 = ap (λ n. n / w) p ∙ zero-div w in
      omega (arith, portion_at s w ws k l, no_extra s w ws k refl d l z);
}

pub largest_lawful : Lawful nothing_to_share_by largest
largest_lawful = lawful_parts largest_parts

-- ---- what the code divides by
map_same : (f g : ℕ → ℕ) (ws : List ℕ) → ((x : ℕ) → f x ≡ g x) → map f ws ≡ map g ws
map_same f g [] h = refl
map_same f g (x ∷ xs) h = ap (λ n. n ∷ map f xs) (h x) ∙ ap (λ ns. g x ∷ ns) (map_same f g xs h)

pub safe_portions : (s w : ℕ) (ws : List ℕ) → (w ≡ 0 → s ≡ 0) → portions s (max w 1) ws ≡ portions s w ws
safe_portions s zero ws d =
    let f : floors 0 (max 0 1) ws ≡ floors 0 0 ws = map_same _ _ ws (λ x. simp (zero-mul, zero-div)) in
    let r : remainders 0 (max 0 1) ws ≡ remainders 0 0 ws = map_same _ _ ws (λ x. simp (zero-mul, zero-mod)) in
    rw (d refl) (ap (λ fs. row_by_row fs (extras (0 - sum fs) [] (remainders 0 (max 0 1) ws))) f ∙ ap (λ rs. row_by_row (floors 0 0 ws) (extras (0 - sum (floors 0 0 ws)) [] rs)) r)
safe_portions s (suc w) ws d = ap (λ n. portions s n ws) (omega arith)

-- ---- the loops' steps
pub count_more : (s d bar : ℕ) (ws : List ℕ) (i : ℕ) → i < length ws → count_by (λ r. leb bar r) (remainders s d (take (i + 1) ws)) ≡ count_by (λ r. leb bar r) (remainders s d (take i ws)) + one_if (nat_le bar (s * slice_index ws i % d))
count_more s d bar ws i l = ap (count_by (λ r. leb bar r)) (map_more (λ x. s * x % d) ws i 0 l) ∙ sum_by_push (λ r. one_if (nat_le bar r)) (remainders s d (take i ws)) _

pub count_yes : (s d bar : ℕ) (ws : List ℕ) (i : ℕ) → i < length ws → bar ≤ s * slice_index ws i % d → count_by (λ r. leb bar r) (remainders s d (take i ws)) + 1 ≡ count_by (λ r. leb bar r) (remainders s d (take (i + 1) ws))
count_yes s d bar ws i l h = let o : one_if (nat_le bar (s * slice_index ws i % d)) ≡ 1 = grind (arith, nat_tests) in omega (arith, count_more s d bar ws i l)

pub count_no : (s d bar : ℕ) (ws : List ℕ) (i : ℕ) → i < length ws → s * slice_index ws i % d < bar → count_by (λ r. leb bar r) (remainders s d (take i ws)) ≡ count_by (λ r. leb bar r) (remainders s d (take (i + 1) ws))
count_no s d bar ws i l h = let o : one_if (nat_le bar (s * slice_index ws i % d)) ≡ 0 = grind (arith, nat_tests) in omega (arith, count_more s d bar ws i l)

pub floors_more : (s d : ℕ) (ws : List ℕ) (i : ℕ) → i < length ws → sum (floors s d (take (i + 1) ws)) ≡ sum (floors s d (take i ws)) + s * slice_index ws i / d
floors_more s d ws i l = ap sum (map_more (λ x. s * x / d) ws i 0 l) ∙ sum_by_push (λ r. r) (floors s d (take i ws)) _

pub floors_front : (s d : ℕ) (ws : List ℕ) (i : ℕ) → sum (floors s d (take i ws)) ≤ sum (floors s d ws)
floors_front s d ws i = omega (arith, ap sum (take-map (λ x. s * x / d) i ws), sum_by-take-le (λ x. x) (floors s d ws) i)

pub floors_back : (s d : ℕ) (ws : List ℕ) (i : ℕ) → sum (floors s d (drop i ws)) ≤ sum (floors s d ws)
floors_back s d ws i = omega (arith, ap sum (drop-map (λ x. s * x / d) i ws), sum_by-take-drop (λ x. x) (floors s d ws) i)

-- a product stays small
pub small_product : {s d : ℕ} {ws : List ℕ} → Small s d ws → (i : ℕ) → i < length ws → s * slice_index ws i ≤ 4392000000000000000
small_product {s} {d} {ws} h i l =
    let b : slice_index_or ws i 0 ≤ 87840000000 = omega (arith, h.weights_small, get_or-le-sum_by (λ x. x) ws i 0 l) in
    mul-le-mul h.size_small b

pub small_front : {s d : ℕ} {ws : List ℕ} → Small s d ws → (i : ℕ) → Small s d (take i ws)
small_front {s} {d} {ws} h i = record {
  size_small = h.size_small;
  weights_few = simp length-take (omega (arith, h.weights_few));
  weights_small = omega (arith, h.weights_small, sum_by-take-le (λ x. x) ws i);
  divides = h.divides;
}

pub small_back : {s d : ℕ} {ws : List ℕ} → Small s d ws → (i : ℕ) → Small s d (drop i ws)
small_back {s} {d} {ws} h i = record {
  size_small = h.size_small;
  weights_few = simp length-drop (omega (arith, h.weights_few));
  weights_small = omega (arith, h.weights_small, sum_by-take-drop (λ x. x) ws i);
  divides = h.divides;
}

-- the code's two counts are how many rows are ahead
pub portion_is : (s d : ℕ) (ws : List ℕ) (i a b l : ℕ) → i < length ws → l ≡ s - sum (floors s d ws) → a ≡ count_by (λ r. leb (s * slice_index ws i % d) r) (remainders s d (take i ws)) → b ≡ count_by (λ r. leb (s * slice_index ws i % d + 1) r) (remainders s d (drop (i + 1) ws)) → slice_index (portions s d ws) i ≡ s * slice_index ws i / d + one_if (nat_lt (a + b) l)
portion_is s d ws i a b l h el ea eb =
    let rs = remainders s d ws in
    let r = s * slice_index ws i % d in
    let here : slice_index_or rs i 0 ≡ r = get_or-map (λ x. s * x % d) ws i 0 0 h in
    let front : take i rs ≡ remainders s d (take i ws) = take-map (λ x. s * x % d) i ws in
    let back : drop (suc i) rs ≡ remainders s d (drop (i + 1) ws) = drop-map (λ x. s * x % d) (suc i) ws ∙ ap (λ n. remainders s d (drop n ws)) (sym (add-one i)) in
    let later : count_by (λ n. leb (r + 1) n) (remainders s d (drop (i + 1) ws)) ≡ above r (remainders s d (drop (i + 1) ws)) = ap (λ q. count_by (λ n. leb q n) (remainders s d (drop (i + 1) ws))) (add-one r) in
    let at = extra_at (left_over s d ws) [] rs i (omega (arith, length-map ws (λ x. s * x % d))) in
    let counts : count_by (λ n. leb (slice_index rs i) n) [] + count_by (λ n. leb (slice_index rs i) n) (take i rs) + above (slice_index rs i) (drop (suc i) rs) ≡ a + b =
    simp (here, front, back) (omega (arith, ea, eb, later)) in
    portion_at s d ws i h ∙ ap (λ n. s * slice_index ws i / d + n) (at ∙ ap (λ n. one_if (nat_lt n (left_over s d ws))) counts ∙ ap (λ n. one_if (nat_lt (a + b) n)) (sym el))

pub rows_le : (s d bar : ℕ) (ws : List ℕ) → count_by (λ r. leb bar r) (remainders s d ws) ≤ length ws
rows_le s d bar ws = omega (arith, count_by-le-length (λ r. leb bar r) (remainders s d ws), length-map ws (λ x. s * x % d))

-- ---- what the code's calls want, by the divisor that it takes
pub safe_floors_le : (s w : ℕ) (ws : List ℕ) → sum ws ≡ w → (w ≡ 0 → s ≡ 0) → sum (floors s (max w 1) ws) ≤ s
safe_floors_le s zero ws e d = rw (d refl) (omega (arith, no_floors (max 0 1) ws))
safe_floors_le s (suc w) ws e d =
    let m : max (suc w) 1 ≡ suc w = omega arith in rw m (floors_le s (suc w) ws e d)

pub length_portions : (s w : ℕ) (ws : List ℕ) → length (portions s w ws) ≡ length ws
length_portions s w ws = length_rows _ _ (same_length s w ws) ∙ length-map ws _

pub safe_portion_le : (s : ℕ) (ws : List ℕ) (k : ℕ) → (sum ws ≡ 0 → s ≡ 0) → k < length ws → slice_index (portions s (max (sum ws) 1) ws) k ≤ s
safe_portion_le s ws k d l =
    rw (safe_portions s (sum ws) ws d) (omega (arith, largest_parts.adds_up s ws d, get_or-le-sum_by (λ x. x) (portions s (sum ws) ws) k 0 (omega (arith, length_portions s (sum ws) ws))))

pub filled_more : (t : ℤ) (ps : List ℕ) (out : List ℤ) (i : ℕ) (y : ℤ) → i < length out → i < length ps → y ≡ signed t (slice_index ps i) → take i out ≡ take i (map (signed t) ps) → take (i + 1) (slice_set out i y) ≡ take (i + 1) (map (signed t) ps)
filled_more t ps out i y l l' e h =
    let there : slice_index_or (map (signed t) ps) i (pos 0) ≡ signed t (slice_index ps i) = get_or-map (signed t) ps i 0 (pos 0) l' in
    take_more_set out i y l ∙ ap (λ o. o ++ (y ∷ [])) h ∙ ap (λ v. take i (map (signed t) ps) ++ (v ∷ [])) (e ∙ sym there) ∙ sym (take_more (map (signed t) ps) i (pos 0) (omega (arith, length-map ps (signed t))))

pub filled_all : (t t' : ℤ) (s d : ℕ) (ws : List ℕ) (out : List ℤ) (i : ℕ) → t' ≡ t → length ws ≤ i → length out ≡ length ws → s ≡ unsigned_abs t → d ≡ max (sum ws) 1 → Divisible t ws → take i out ≡ take i (map (signed t') (portions s d ws)) → out ≡ largest t ws
filled_all t t' s d ws out i et l el es ed div h =
    let whole : map (signed t') (portions s d ws) ≡ largest t ws = simp (et, es, ed) (ap (map (signed t)) (safe_portions (unsigned_abs t) (sum ws) ws (λ e. ap unsigned_abs (div e)))) in
    sym (take_all i out (omega arith)) ∙ h ∙ take_all i _ (omega (arith, length-map (portions s d ws) (signed t'), length_portions s d ws)) ∙ whole
