use Rattle.std.proofs.Common.{◌≡◌, ℕ, List, drop, ℤ, pos, ◌-ℤ◌, neg_ℤ, Some, None, sym, subst, arith, w64, to_z, of_z}
use Rattle.std.proofs.lemmas.List.{take_rest}
use Rattle.std.proofs.lemmas.Int.{ints}
use Rattle.records.specs.Numbers.{Exact, Natural}
use Rattle.records.proofs.Decimals.{minus_none, minus_zero, minus_some, answered}
use Rattle.records.proofs.numeral.number.Goals as goal

pub returns-in_err-n : goal.returns-in_err-n
returns-in_err-n c =
    let h : Natural (drop 1 c.args.value.now) None = simp take_rest at c.in_err-n.ensures in
    rw c.from_residual.ensures (answered c.args.value.now None (minus_none c.args.value.now (omega arith) (omega arith) h))

pub returns-then-n-eq0 : goal.returns-then-n-eq0
returns-then-n-eq0 c =
    let g : Natural (drop 1 c.args.value.now) (Some c.in_ok-n.n) = simp take_rest at c.in_ok-n.ensures in
    let h : Natural (drop 1 c.args.value.now) (Some 0) = subst (λ n. Natural (drop 1 c.args.value.now) (Some n)) c.if-n-eq0.true g in
    answered c.args.value.now None (minus_zero c.args.value.now (omega arith) (omega arith) h)

as_int : (v : List ℕ) (z y : ℤ) → y ≡ z → Exact v (Some z) → Exact v (Some y)
as_int v z y e h = subst (λ x. Exact v (Some x)) (sym e) h

pub returns-in-45 : goal.returns-in-45
returns-in-45 c =
    let g : Natural (drop 1 c.args.value.now) (Some c.in_ok-n.n) = simp take_rest at c.in_ok-n.ensures in
    let e : to_z w64 (of_z w64 (pos 0 -ℤ to_z w64 c.in_ok-n.n)) ≡ neg_ℤ (pos c.in_ok-n.n) = omega (arith, ints, g.0) in
    answered c.args.value.now _ (as_int _ _ _ e (minus_some c.args.value.now (omega arith) (omega arith) c.in_ok-n.n (omega arith) g))

pub returns : goal.returns
returns c =
    let g : Natural c.args.value.now (Some c.in_ok-n-2.n) = c.in_ok-n-2.ensures in
    let e : to_z w64 c.in_ok-n-2.n ≡ pos c.in_ok-n-2.n = omega (arith, ints, g.0) in
    answered c.args.value.now _ (as_int _ (pos c.in_ok-n-2.n) _ e g)
