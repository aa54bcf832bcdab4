-- Figures worked out by hand, as equalities about the definitions.
use Rattle.std.specs.Prelude.{◌≡◌, [], ◌∷◌, pos, negsuc}
use Rattle.ledger.specs.Largest.{largest}
use Rattle.ledger.specs.Running.{running}

pub record WorkedFigures : Type 0 where
  -- 10 by 1, 1, 1: the running rule leaves the odd kWh to the row at which the parts pass it, the other rule to the first of equals
  pub ten_by_three_running : running (pos 10) (1 ∷ 1 ∷ 1 ∷ []) ≡ pos 3 ∷ pos 3 ∷ pos 4 ∷ []
  pub ten_by_three_largest : largest (pos 10) (1 ∷ 1 ∷ 1 ∷ []) ≡ pos 4 ∷ pos 3 ∷ pos 3 ∷ []
  -- -10 by 120, 990 is cut toward zero
  pub minus_ten_running : running (negsuc 9) (120 ∷ 990 ∷ []) ≡ negsuc 0 ∷ negsuc 8 ∷ []
  pub minus_ten_largest : largest (negsuc 9) (120 ∷ 990 ∷ []) ≡ negsuc 0 ∷ negsuc 8 ∷ []
