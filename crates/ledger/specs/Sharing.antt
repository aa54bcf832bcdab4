-- What a call of a share rule answers, and what it leaves in the slice for the shares.
use Rattle.std.specs.Prelude.{◌≡◌, ℕ, not, ◌&&◌, List, length, ℤ, Ok, Result, ◌==◌}
use Rattle.ledger.specs.Grounds.{demand, told, on_ok}
use Rattle.ledger.specs.Laws.{Refuses, Shares, in_limits}
use Rattle.ledger.specs.declared.layer.Layer.{Layer}
use Rattle.ledger.specs.declared.layer.Layer.TheVariants as layer
use Rattle.ledger.specs.declared.rule.ShareFault.{ShareFault}
use Rattle.ledger.specs.declared.rule.ShareFault.TheVariants.{OutsideLimits, NothingToShareBy}

-- the refusals' numbers
abbrev pub number_of : ShareFault → ℕ
number_of OutsideLimits = 6
number_of NothingToShareBy = 20

-- and their layers
abbrev pub layer_of : ShareFault → Layer
layer_of OutsideLimits = layer.Book
layer_of NothingToShareBy = layer.Rule

-- the first ground met, or y: the limits, with a place for each share, come before the rule's own refusal
abbrev pub unless_refused : {Y : Type 0} → Refuses → ℤ → List ℕ → ℕ → Y → Result Y ShareFault
unless_refused refuses total weights places y =
    demand (in_limits total weights && places == length weights) OutsideLimits
    (demand (not (refuses total weights)) NothingToShareBy
    (Ok y))

-- the rule's shares, or the first ground met
abbrev pub outcome : Refuses → Shares → ℤ → List ℕ → ℕ → Result (List ℤ) ShareFault
outcome refuses shares total weights places = unless_refused refuses total weights places (shares total weights)

-- a call answers as the outcome does; then the slice holds the shares, and refused it is as it was
pub record Shared (refuses : Refuses) (shares : Shares) (total : ℤ) (weights : List ℕ) (before after : List ℤ) (answer : Result (Unit {0}) ShareFault) : Type 0 where
  pub answered : answer ≡ told (outcome refuses shares total weights (length before))
  pub left : after ≡ on_ok (outcome refuses shares total weights (length before)) (λ given. given) before

-- two calls that share the same in the same way have one answer, and leave the same
abbrev pub OneOutcome : Type 0
OneOutcome =
    (refuses : Refuses) (shares : Shares) (total : ℤ) (weights : List ℕ) (before a b : List ℤ) (r q : Result (Unit {0}) ShareFault) →
    Shared refuses shares total weights before a r → Shared refuses shares total weights before b q → (r ≡ q) × (a ≡ b)
