-- What a call of any lawful rule answers, from the laws alone.
use types.Logic.{Logic}
use contract.Running.{Running}
use denote.RattleType.{RattleType}
use seplogic.Ra.Ura.{Ura}
use mir.Syntax.{Dict}
use prog.Model.{Model}
use prog.Routine.{Env}
use Rattle.std.proofs.Common.{◌≡◌, ℕ, Bool, true, false, not, ◌&&◌, eqb, List, length, ℤ, Ok, refl, ap}
use Rattle.ledger.specs.Grounds.{demand}
use Rattle.ledger.specs.Laws.{Lawful, Refuses, Shares, in_limits, nothing_to_share_by}
use Rattle.ledger.specs.contracts.rule.ShareRule.TheBound.{Met}
use Rattle.ledger.specs.declared.rule.ShareRule.{Ghosts}
use Rattle.ledger.specs.Sharing.{unless_refused}
use Rattle.ledger.specs.declared.rule.ShareFault.TheVariants.{OutsideLimits, NothingToShareBy}

module _ {refuses : Refuses} {shares : Shares} (lawful : Lawful refuses shares) where
  -- all lawful rules refuse the same
  pub same_refusal : {Y : Type 0} (t : ℤ) (ws : List ℕ) (places : ℕ) (y : Y) → unless_refused refuses t ws places y ≡ unless_refused nothing_to_share_by t ws places y
  same_refusal t ws places y = go (in_limits t ws) (eqb places (length ws)) (λ h. lawful.refuses_only_without_weight.exactly t ws h)
    where
      go : (a b : Bool) → (a ≡ true → refuses t ws ≡ nothing_to_share_by t ws) → demand (a && b) OutsideLimits (demand (not (refuses t ws)) NothingToShareBy (Ok y)) ≡ demand (a && b) OutsideLimits (demand (not (nothing_to_share_by t ws)) NothingToShareBy (Ok y))
      go true true h = ap (λ r. demand (not r) NothingToShareBy (Ok y)) (h refl)
      go true false h = refl
      go false b h = refl

-- the laws of a rule, as generic code has them from its bound
pub laws_of : {M : Type 1} {𝓤 : Ura M} {𝓛 : Logic 𝓤} {𝓜 : Model 𝓤 𝓛.H} {𝓡 : Running 𝓤 𝓛.H 𝓜} {γ : Env} {R : RattleType} {rules : Ghosts R.Denot} {d : Dict} → Met 𝓛 𝓜 𝓡 γ R rules d → (rule : R.Denot) → Lawful (rules.refuses rule) (rules.shares rule)
laws_of met rule = record {
  one_share_each = met.one_share_each rule;
  shares_add_up = met.shares_add_up rule;
  shares_are_proportional = met.shares_are_proportional rule;
  shares_keep_their_side = met.shares_keep_their_side rule;
  refuses_only_without_weight = met.refuses_only_without_weight rule;
}
