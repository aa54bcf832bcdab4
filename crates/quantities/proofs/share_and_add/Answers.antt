use Rattle.std.proofs.Common.{Ok, ap, ◌∙◌, w64}
use Rattle.std.proofs.lemmas.Result.{err_from_is_err_and}
use Rattle.std.proofs.lemmas.Int.{to_z-of_z}
use Rattle.ledger.proofs.Lawful.{laws_of}
use Rattle.quantities.proofs.Columns.{fronts_small, column_adds_up, answers_quantity, answers_fault}
use Rattle.quantities.proofs.share_and_add.Goals as goal

pub add_up-requires : goal.add_up-requires
add_up-requires g c =
    fronts_small (laws_of g.met.R.ShareRule c.args.rule.now) _ (simp (to_z-of_z w64 c.args.quantity c.ranges.quantity) at c.in_ok-share.ensures)

pub returns-in_err-share : goal.returns-in_err-share
returns-in_err-share g c =
    let s = simp (to_z-of_z w64 c.args.quantity c.ranges.quantity) at c.in_err-share.ensures in
    let p = err_from_is_err_and c.from_residual.result c.from_residual.ensures.1 in
    record { answer = rw (p.1, p.2) (answers_fault (laws_of g.met.R.ShareRule c.args.rule.now) _ s); left = s.left }

pub returns : goal.returns
returns g c =
    let lawful = laws_of g.met.R.ShareRule c.args.rule.now in
    let s = simp (to_z-of_z w64 c.args.quantity c.ranges.quantity) at c.in_ok-share.ensures in
    record {
      answer = ap Ok (to_z-of_z w64 c.add_up.result (record { sfits = c.add_up.type_inv }) ∙ c.add_up.ensures ∙ column_adds_up lawful _ s) ∙ answers_quantity lawful _ s;
      left = s.left;
    }
