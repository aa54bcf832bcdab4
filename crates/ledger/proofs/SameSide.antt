-- What every lawful rule's shares are like: all on one side of nothing, so that each, and each front of the list, lies between nothing and the total.
use Rattle.std.proofs.Common.{◌≡◌, ℕ, zero, suc, ◌+◌, ◌<◌, ◌≤◌, List, [], ◌∷◌, ◌++◌, length, get_or, take, ℤ, pos, negsuc, ◌+ℤ◌, nat_abs, ◌≤ℤ◌, ap, ◌∙◌, arith}
use Rattle.std.proofs.lemmas.List.{take_more}
use Rattle.std.proofs.lemmas.Int.{ints}
use Rattle.ledger.specs.Laws.{Lawful, Refuses, Shares, Takes, at, sumℤ}

-- one more at the end
sum_push : (xs : List ℤ) (y : ℤ) → sumℤ (xs ++ (y ∷ [])) ≡ sumℤ xs +ℤ y
sum_push [] y = omega (arith, ints)
sum_push (x ∷ xs) y = omega (arith, ints, sum_push xs y)

pub sum_more : (xs : List ℤ) (i : ℕ) → i < length xs → sumℤ (take (i + 1) xs) ≡ sumℤ (take i xs) +ℤ get_or xs i (pos 0)
sum_more xs i l = ap sumℤ (take_more xs i (pos 0) l) ∙ sum_push (take i xs) _

abbrev pub AllUp : List ℤ → Type 0
AllUp xs = (k : ℕ) → k < length xs → pos 0 ≤ℤ at xs k

abbrev pub AllDown : List ℤ → Type 0
AllDown xs = (k : ℕ) → k < length xs → at xs k ≤ℤ pos 0

sum_up : (xs : List ℤ) → AllUp xs → pos 0 ≤ℤ sumℤ xs
sum_up [] h = omega (arith, ints)
sum_up (x ∷ xs) h = omega (arith, ints, h 0 (omega arith), sum_up xs (λ k l. h (suc k) (omega arith)))

sum_down : (xs : List ℤ) → AllDown xs → sumℤ xs ≤ℤ pos 0
sum_down [] h = omega (arith, ints)
sum_down (x ∷ xs) h = omega (arith, ints, h 0 (omega arith), sum_down xs (λ k l. h (suc k) (omega arith)))

part_up : (xs : List ℤ) (k : ℕ) → AllUp xs → k < length xs → at xs k ≤ℤ sumℤ xs
part_up [] k h l = absurd (omega arith)
part_up (x ∷ xs) zero h l = omega (arith, ints, sum_up xs (λ k l. h (suc k) (omega arith)))
part_up (x ∷ xs) (suc k) h l = omega (arith, ints, h 0 (omega arith), part_up xs k (λ k l. h (suc k) (omega arith)) (omega arith))

part_down : (xs : List ℤ) (k : ℕ) → AllDown xs → k < length xs → sumℤ xs ≤ℤ at xs k
part_down [] k h l = absurd (omega arith)
part_down (x ∷ xs) zero h l = omega (arith, ints, sum_down xs (λ k l. h (suc k) (omega arith)))
part_down (x ∷ xs) (suc k) h l = omega (arith, ints, h 0 (omega arith), part_down xs k (λ k l. h (suc k) (omega arith)) (omega arith))

pub front_up : (xs : List ℤ) (n : ℕ) → AllUp xs → (pos 0 ≤ℤ sumℤ (take n xs)) × (sumℤ (take n xs) ≤ℤ sumℤ xs)
front_up xs zero h = (omega (arith, ints), sum_up xs h)
front_up [] (suc n) h = (omega (arith, ints), omega (arith, ints))
front_up (x ∷ xs) (suc n) h =
    let r = front_up xs n (λ k l. h (suc k) (omega arith)) in
    let z = h 0 (omega arith) in
    (omega (arith, ints), omega (arith, ints))

pub front_down : (xs : List ℤ) (n : ℕ) → AllDown xs → (sumℤ (take n xs) ≤ℤ pos 0) × (sumℤ xs ≤ℤ sumℤ (take n xs))
front_down xs zero h = (omega (arith, ints), sum_down xs h)
front_down [] (suc n) h = (omega (arith, ints), omega (arith, ints))
front_down (x ∷ xs) (suc n) h =
    let r = front_down xs n (λ k l. h (suc k) (omega arith)) in
    let z = h 0 (omega arith) in
    (omega (arith, ints), omega (arith, ints))

-- ---- the shares of a lawful rule
module _ {refuses : Refuses} {shares : Shares} (lawful : Lawful refuses shares) (ws : List ℕ) where
  shares_up : (m : ℕ) → Takes refuses (pos m) ws → AllUp (shares (pos m) ws)
  shares_up m h k l = (lawful.shares_keep_their_side.same_side (pos m) ws k h (omega (arith, lawful.one_share_each (pos m) ws h))).not_below (omega (arith, ints))

  shares_down : (m : ℕ) → Takes refuses (negsuc m) ws → AllDown (shares (negsuc m) ws)
  shares_down m h k l = (lawful.shares_keep_their_side.same_side (negsuc m) ws k h (omega (arith, lawful.one_share_each (negsuc m) ws h))).not_above (omega (arith, ints))

  -- no share is larger than the total
  pub part_within : (t : ℤ) (k : ℕ) → Takes refuses t ws → k < length ws → nat_abs (at (shares t ws) k) ≤ nat_abs t
  part_within (pos m) k h l =
      let l' : k < length (shares (pos m) ws) = omega (arith, lawful.one_share_each (pos m) ws h) in
      omega (arith, ints, lawful.shares_add_up (pos m) ws h, part_up (shares (pos m) ws) k (shares_up m h) l', shares_up m h k l')
  part_within (negsuc m) k h l =
      let l' : k < length (shares (negsuc m) ws) = omega (arith, lawful.one_share_each (negsuc m) ws h) in
      omega (arith, ints, lawful.shares_add_up (negsuc m) ws h, part_down (shares (negsuc m) ws) k (shares_down m h) l', shares_down m h k l')

  -- nor are the first of them together
  pub front_within : (t : ℤ) (n : ℕ) → Takes refuses t ws → nat_abs (sumℤ (take n (shares t ws))) ≤ nat_abs t
  front_within (pos m) n h = omega (arith, ints, lawful.shares_add_up (pos m) ws h, front_up (shares (pos m) ws) n (shares_up m h))
  front_within (negsuc m) n h = omega (arith, ints, lawful.shares_add_up (negsuc m) ws h, front_down (shares (negsuc m) ws) n (shares_down m h))
