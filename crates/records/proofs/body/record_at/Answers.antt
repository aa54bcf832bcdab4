use Rattle.std.proofs.Common.{◌≡◌, ℕ, ◌+◌, length, Ok, Result, sym, ◌∙◌, arith}
use Rattle.records.specs.Format.{keys, kind_of, written}
use Rattle.records.specs.Outcome.{taken}
use Rattle.records.specs.declared.body.Taken.{Taken}
use Rattle.records.specs.declared.fault.TextFault.{TextFault}
use Rattle.records.specs.declared.kind.Record.{Record}
use Rattle.records.proofs.Answered.{next_read}
use Rattle.records.proofs.body.record_at.Goals as goal

same : (r : Record) (n m l : ℕ) → m ≡ length (written r) → l ≡ 1 + length (keys (kind_of r)) → ◌≡◌ {A = Result Taken TextFault} (Ok (record { read = r; line = n; bytes = m; lines = l })) (Ok (taken n r))
same r n m l p q = cc

pub overflow_sub-result : goal.overflow_sub-result
overflow_sub-result c =
    let w = next_read c.args.lines.text.now c.args.lines.line c.in_ok-kind.kind c.in_ok-kind.rest.text.now c.in_ok-read.left.text.now c.in_ok-kind.rest.line c.in_ok-read.left.line c.in_ok-read.read c.in_ok-kind.ensures c.in_ok-read.ensures in
    omega arith

pub returns : goal.returns
returns c =
    let w = next_read c.args.lines.text.now c.args.lines.line c.in_ok-kind.kind c.in_ok-kind.rest.text.now c.in_ok-read.left.text.now c.in_ok-kind.rest.line c.in_ok-read.left.line c.in_ok-read.read c.in_ok-kind.ensures c.in_ok-read.ensures in
    same c.in_ok-read.read c.args.lines.line _ _ (omega arith) (omega arith) ∙ sym w.2
