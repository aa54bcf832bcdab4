use Rattle.std.proofs.Common.{◌≡◌, ℕ, ◌<◌, ◌≤◌, List, length, get_or, ℤ, nat_abs, sum, sym, refl, ap, ◌∙◌, arith, w64}
use Rattle.std.proofs.lemmas.Int.{to_z-of_z}
use Rattle.ledger.specs.Laws.{most_total}
use Rattle.ledger.specs.Largest.{Small, floors, portions}
use Rattle.ledger.specs.Signs.{signed}
use Rattle.ledger.specs.LargestLemmas.{safe_floors_le, safe_portion_le, length_portions, filled_more, filled_all}
use Rattle.ledger.specs.Limits.{Ready, ready, shared_by}
use Rattle.ledger.proofs.largest_remainder_rule.LargestRemainderRuleShareRule.share.Goals as goal
use Rattle.ledger.proofs.largest_remainder_rule.LargestRemainderRuleShareRule.share.Goals.{After-max}

-- what is known once the call is accepted
known : (c : goal.After-max) → Ready c.args.total c.args.weights.now (length c.args.out.now) c.in_ok-sum.sum c.unsigned_abs.result c.max.result
known c =
    let back = to_z-of_z w64 c.args.total c.ranges.total in
    ready _ _ _ _ _ _ (sym (simp back at c.in_ok-sum.ensures)) (simp back at c.unsigned_abs.ensures.value) c.max.ensures

module _ {t : ℤ} {ws : List ℕ} {n w s d : ℕ} (k : Ready t ws n w s d) where
  none : sum ws ≡ 0 → s ≡ 0
  none e = k.size ∙ ap nat_abs (k.accepted.divides e)

  small : Small s d ws
  small = record {
    size_small = k.size_small;
    weights_few = k.accepted.limits.weights_few;
    weights_small = k.accepted.limits.weights_small;
    divides = omega (arith, k.divisor);
  }

  floors_fit : sum (floors s d ws) ≤ s
  floors_fit = rw k.divisor (safe_floors_le s (sum ws) ws refl none)

  portion_fits : (i : ℕ) → i < length ws → get_or (portions s d ws) i 0 ≤ most_total
  portion_fits i l = rw k.divisor (omega (arith, safe_portion_le s ws i none l, k.size_small))

pub invariant_of-division : goal.invariant_of-division
invariant_of-division c = let k = known (goal.at.invariant_of-division c).After-max in record { small = small k; enough = floors_fit k }

pub with_sign-requires : goal.with_sign-requires
with_sign-requires c = let k = known (goal.at.with_sign-requires c).After-max in omega (arith, c.portion.ensures, portion_fits k c.loop-i.i (omega (arith, k.accepted.long)))

pub loop-i-preserved : goal.loop-i-preserved
loop-i-preserved c =
    let k = known (goal.at.loop-i-preserved c).After-max in
    let ws = c.args.weights.now in
    let there : c.loop-i.i < length c.loop-i.out = omega (arith, k.accepted.long) in
    let within : c.loop-i.i < length (portions c.unsigned_abs.result c.max.result ws) = omega (arith, length_portions c.unsigned_abs.result c.max.result ws) in
    filled_more _ _ c.loop-i.out c.loop-i.i _ there within (to_z-of_z w64 c.with_sign.result (record { sfits = c.with_sign.type_inv }) ∙ c.with_sign.ensures ∙ ap (signed _) c.portion.ensures) c.loop-i.invariant

pub returns : goal.returns
returns c =
    let k = known (goal.at.returns c).After-max in
    let ws = c.args.weights.now in
    let long : length c.loop-i.out ≡ length ws = omega (arith, k.accepted.long) in
    shared_by k (filled_all c.args.total _ _ _ ws c.loop-i.out c.loop-i.i (to_z-of_z w64 c.args.total c.ranges.total) (omega (arith, k.accepted.long)) long k.size k.divisor k.accepted.divides c.loop-i.invariant)
