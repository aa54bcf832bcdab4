-- What a share rule means, its limits, and the laws that it keeps.
-- A rule divides a total, which may be negative, among weights. It refuses, or gives one list of shares.
use Rattle.std.specs.Prelude.{◌≡◌, ℕ, ◌<◌, Bool, true, false, not, ◌&&◌, List, [], ◌∷◌, length, ℤ, pos, ◌+ℤ◌, ◌-ℤ◌, ◌*ℤ◌, ◌≤ℤ◌, sum, ◌==◌, nat_le, slice_index, slice_index_or, unsigned_abs}

abbrev pub sumℤ : List ℤ → ℤ
sumℤ [] = pos 0
sumℤ (x ∷ xs) = x +ℤ sumℤ xs

-- ---- the limits
abbrev pub most_total : ℕ
most_total = 50000000

abbrev pub most_weights : ℕ
most_weights = 400

abbrev pub most_weight_sum : ℕ
most_weight_sum = 87840000000

-- a total of at most 50,000,000 either way, among 1 to 400 weights that add up to at most 87,840,000,000
abbrev pub in_limits : ℤ → List ℕ → Bool
in_limits total weights =
    nat_le (unsigned_abs total) most_total
    && (nat_le 1 (length weights)
    && (nat_le (length weights) most_weights
    && nat_le (sum weights) most_weight_sum))

-- ---- the meaning of a rule
-- which totals and weights it refuses
abbrev pub Refuses : Type 0
Refuses = ℤ → List ℕ → Bool

-- the shares of a total among weights, where it does not refuse
abbrev pub Shares : Type 0
Shares = ℤ → List ℕ → List ℤ

-- the share at a place, counted from 0
abbrev pub at : List ℤ → ℕ → ℤ
at shares k = slice_index_or shares k (pos 0)

-- something is to be shared, and no row has a weight
abbrev pub nothing_to_share_by : Refuses
nothing_to_share_by total weights = sum weights == 0 && not (unsigned_abs total == 0)

-- a total and weights within the limits that the rule does not refuse
abbrev pub Takes : Refuses → ℤ → List ℕ → Type 0
Takes refuses total weights = (in_limits total weights ≡ true) × (refuses total weights ≡ false)

-- ---- the laws
-- one share for each weight, in the order of the weights
abbrev pub OneShareEach : Refuses → Shares → Type 0
OneShareEach refuses shares = (t : ℤ) (ws : List ℕ) → Takes refuses t ws → length (shares t ws) ≡ length ws

-- the shares add up to the total
abbrev pub SharesAddUp : Refuses → Shares → Type 0
SharesAddUp refuses shares = (t : ℤ) (ws : List ℕ) → Takes refuses t ws → sumℤ (shares t ws) ≡ t

-- each share, times the sum of the weights, differs from the total times its weight by less than that sum
abbrev pub SharesAreProportional : Refuses → Shares → Type 0
SharesAreProportional refuses shares =
    (t : ℤ) (ws : List ℕ) (k : ℕ) → Takes refuses t ws → 0 < sum ws → k < length ws →
    unsigned_abs (at (shares t ws) k *ℤ pos (sum ws) -ℤ t *ℤ pos (slice_index ws k)) < sum ws

-- a share is on the total's side of nothing
pub record SameSide (t share : ℤ) : Type 0 where
  pub not_below : pos 0 ≤ℤ t → pos 0 ≤ℤ share
  pub not_above : t ≤ℤ pos 0 → share ≤ℤ pos 0

-- a weight of 0 gets 0, and no share has the sign opposite to the total
pub record SharesKeepTheirSide (refuses : Refuses) (shares : Shares) : Type 0 where
  pub no_weight_no_share : (t : ℤ) (ws : List ℕ) (k : ℕ) → Takes refuses t ws → k < length ws → slice_index ws k ≡ 0 → at (shares t ws) k ≡ pos 0
  pub same_side : (t : ℤ) (ws : List ℕ) (k : ℕ) → Takes refuses t ws → k < length ws → SameSide t (at (shares t ws) k)

-- it refuses exactly if the weights add up to 0 and the total is not 0; if both are 0, all shares are 0
pub record RefusesOnlyWithoutWeight (refuses : Refuses) (shares : Shares) : Type 0 where
  pub exactly : (t : ℤ) (ws : List ℕ) → in_limits t ws ≡ true → refuses t ws ≡ nothing_to_share_by t ws
  pub nothing_of_nothing : (ws : List ℕ) (k : ℕ) → in_limits (pos 0) ws ≡ true → sum ws ≡ 0 → k < length ws → at (shares (pos 0) ws) k ≡ pos 0

-- a rule that keeps all laws
pub record Lawful (refuses : Refuses) (shares : Shares) : Type 0 where
  pub one_share_each : OneShareEach refuses shares
  pub shares_add_up : SharesAddUp refuses shares
  pub shares_are_proportional : SharesAreProportional refuses shares
  pub shares_keep_their_side : SharesKeepTheirSide refuses shares
  pub refuses_only_without_weight : RefusesOnlyWithoutWeight refuses shares
