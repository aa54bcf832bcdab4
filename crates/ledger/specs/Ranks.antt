-- Among rows, as many are less than l places from the top as l says.
use Rattle.std.specs.Prelude.{◌≡◌, ℕ, zero, suc, ◌+◌, ◌-◌, ◌<◌, ◌≤◌, Bool, cond, ltb, leb, ◌⊎◌, List, [], ◌∷◌, ◌++◌, length, take, drop, sum, count_by, nat_le, nat_lt, slice_index, slice_index_or, refl}
use Rattle.std.proofs.Common.{ap, ◌∙◌, inl, inr, arith}
use Rattle.std.proofs.lemmas.List.Sums.{sum_by-cons, sum_by_push, count_by-le-length}
use Rattle.std.proofs.lemmas.Bool.Decides.{nat_tests, leb_tells}
use Rattle.ledger.specs.Largest.{ahead, extras}

abbrev pub one_if : Bool → ℕ
one_if b = cond b 1 0

le_count : (p q : ℕ → Bool) (xs : List ℕ) → ((x : ℕ) → one_if (p x) ≤ one_if (q x)) → count_by p xs ≤ count_by q xs
le_count p q [] h = omega arith
le_count p q (x ∷ xs) h = omega (arith, sum_by-cons (λ x. one_if (p x)) x xs, sum_by-cons (λ x. one_if (q x)) x xs, h x, le_count p q xs h)

abbrev pub above : ℕ → List ℕ → ℕ
above r xs = count_by (λ s. ltb r s) xs

above_cons : (r s : ℕ) (xs : List ℕ) → above r (s ∷ xs) ≡ one_if (nat_lt r s) + above r xs
above_cons r s xs = sum_by-cons (λ x. one_if (nat_lt r x)) s xs

-- a row past r has fewer ahead of it than there are rows past r, and another has no fewer
ahead_past : (r s : ℕ) (bs rs : List ℕ) → r < s → ahead bs s rs + 1 ≤ above r bs + above r (s ∷ rs)
ahead_past r s bs rs h =
    let a = le_count (λ x. leb s x) (λ x. ltb r x) bs (λ x. grind (arith, nat_tests)) in
    let b = le_count (λ x. ltb s x) (λ x. ltb r x) rs (λ x. grind (arith, nat_tests)) in
    let o : one_if (nat_lt r s) ≡ 1 = grind (arith, nat_tests) in
    omega (arith, above_cons r s rs)

ahead_else : (r s : ℕ) (bs rs : List ℕ) → s ≤ r → above r bs + above r (s ∷ rs) ≤ ahead bs s rs
ahead_else r s bs rs h =
    let a = le_count (λ x. ltb r x) (λ x. leb s x) bs (λ x. grind (arith, nat_tests)) in
    let b = le_count (λ x. ltb r x) (λ x. ltb s x) rs (λ x. grind (arith, nat_tests)) in
    let o : one_if (nat_lt r s) ≡ 0 = grind (arith, nat_tests) in
    omega (arith, above_cons r s rs)

-- l places, of which one is taken by a row with p places above it, leave l' to the others
abbrev Leaves : (p l l' : ℕ) → Type 0
Leaves p l l' = ((l ≤ p) × (l' ≡ l)) ⊎ ((p < l) × (l' + 1 ≡ l))

same_test : (a b l m : ℕ) → (a < l → b < m) → (b < m → a < l) → one_if (nat_lt a l) ≡ one_if (nat_lt b m)
same_test a b l m f g = grind (arith, nat_tests)

one_row : (r l l' s : ℕ) (bs rs : List ℕ) → Leaves (above r bs + above r (s ∷ rs)) l l' → one_if (nat_lt (ahead (bs ++ (r ∷ [])) s rs) l) ≡ one_if (nat_lt (ahead bs s rs) l')
one_row r l l' s bs rs h =
    let push = sum_by_push (λ x. one_if (nat_le s x)) bs r in
    elim (leb_tells s r) [
      | inl t ↦
          let o : one_if (nat_le s r) ≡ 1 = ap one_if t.0 in
          let f = ahead_else r s bs rs t.1 in
          elim h [ inl k ↦ same_test _ _ _ _ (λ x. omega arith) (λ x. omega arith) | inr k ↦ same_test _ _ _ _ (λ x. omega arith) (λ x. omega arith) ]
      | inr t ↦
          let o : one_if (nat_le s r) ≡ 0 = ap one_if t.0 in
          let f = ahead_past r s bs rs t.1 in
          elim h [ inl k ↦ same_test _ _ _ _ (λ x. omega arith) (λ x. omega arith) | inr k ↦ same_test _ _ _ _ (λ x. omega arith) (λ x. omega arith) ]
    ]

leaves_same : (p q l l' : ℕ) → p ≡ q → Leaves p l l' → Leaves q l l'
leaves_same p q l l' e (inl k) = inl (omega arith, k.1)
leaves_same p q l l' e (inr k) = inr (omega arith, k.1)

other_rows : (r l l' : ℕ) (bs rs : List ℕ) → Leaves (above r bs + above r rs) l l' → extras l (bs ++ (r ∷ [])) rs ≡ extras l' bs rs
other_rows r l l' bs [] h = refl
other_rows r l l' bs (s ∷ rs) h =
    let e : above r bs + above r (s ∷ rs) ≡ above r (s ∷ bs) + above r rs = omega (arith, above_cons r s rs, above_cons r s bs) in
    ap (λ n. n ∷ extras l ((s ∷ bs) ++ (r ∷ [])) rs) (one_row r l l' s bs rs h) ∙ ap (λ ns. one_if (nat_lt (ahead bs s rs) l') ∷ ns) (other_rows r l l' (s ∷ bs) rs (leaves_same _ _ l l' e h))

pub sum_extras : (l : ℕ) (rs : List ℕ) → l ≤ length rs → sum (extras l [] rs) ≡ l
sum_extras l [] h = omega arith
sum_extras l (r ∷ rs) h =
    let cons = sum_by-cons (λ n. n) (one_if (nat_lt (ahead [] r rs) l)) (extras l (r ∷ []) rs) in
    let few = count_by-le-length (λ s. ltb r s) rs in
    elim (leb_tells l (above r rs)) [
      | inl t ↦
          let o : one_if (nat_lt (ahead [] r rs) l) ≡ 0 = grind (arith, nat_tests) in
          let e = ap sum (other_rows r l l [] rs (inl (omega (arith, t.1), refl))) in
          omega (arith, sum_extras l rs (omega (arith, t.1)))
      | inr t ↦
          let o : one_if (nat_lt (ahead [] r rs) l) ≡ 1 = grind (arith, nat_tests) in
          let e = ap sum (other_rows r l (l - 1) [] rs (inr (omega (arith, t.1), omega (arith, t.1)))) in
          omega (arith, t.1, sum_extras (l - 1) rs (omega arith))
    ]

pub length_extras : (l : ℕ) (bs rs : List ℕ) → length (extras l bs rs) ≡ length rs
length_extras l bs [] = refl
length_extras l bs (r ∷ rs) = ap suc (length_extras l (r ∷ bs) rs)

pub extra_le : (l : ℕ) (bs rs : List ℕ) (k : ℕ) → slice_index (extras l bs rs) k ≤ 1
extra_le l bs [] k = omega arith
extra_le l bs (r ∷ rs) zero = grind (arith, nat_tests)
extra_le l bs (r ∷ rs) (suc k) = extra_le l (r ∷ bs) rs k

-- a row without a remainder gets none, where there are rows enough with one
pub extra_none : (l : ℕ) (bs rs : List ℕ) (k : ℕ) → l ≤ above 0 bs + above 0 rs → k < length rs → slice_index rs k ≡ 0 → slice_index (extras l bs rs) k ≡ 0
extra_none l bs [] k h i e = absurd (omega arith)
extra_none l bs (r ∷ rs) zero h i e =
    let f = ahead_else 0 r bs rs (omega arith) in
    let n : l ≤ ahead bs r rs = omega arith in
    grind (arith, nat_tests)
extra_none l bs (r ∷ rs) (suc k) h i e =
    extra_none l (r ∷ bs) rs k (omega (arith, above_cons 0 r rs, above_cons 0 r bs)) (omega arith) e

-- what a row gets, by its place
pub extra_at : (l : ℕ) (bs rs : List ℕ) (i : ℕ) → i < length rs → slice_index (extras l bs rs) i ≡ one_if (nat_lt (count_by (λ s. leb (slice_index rs i) s) bs + count_by (λ s. leb (slice_index rs i) s) (take i rs) + above (slice_index rs i) (drop (suc i) rs)) l)
extra_at l bs [] i h = absurd (omega arith)
extra_at l bs (r ∷ rs) zero h = ap (λ n. one_if (nat_lt n l)) (omega arith)
extra_at l bs (r ∷ rs) (suc i) h =
    let q = slice_index_or rs i 0 in
    let a = sum_by-cons (λ s. one_if (nat_le q s)) r bs in
    let b = sum_by-cons (λ s. one_if (nat_le q s)) r (take i rs) in
    extra_at l (r ∷ bs) rs i (omega arith) ∙ ap (λ n. one_if (nat_lt n l)) (omega arith)
