use Rattle.std.proofs.Common.{◌≡◌, ◌+◌, ◌++◌, length, drop}
use Rattle.records.specs.Lines.{texts}
use Rattle.records.specs.Outcome.{bad_key, past, sights, values}
use Rattle.records.proofs.lines.Lines.fields.Given as goal

-- the lines of the first keys are read: at the rest, the keys that are left say what all keys say of the whole
abbrev pub invariant-loop-key : goal.invariant-loop-key
invariant-loop-key l =
    let all = texts l.keys in
    let left = texts (drop l.key-index l.keys) in
    record {
      keyed : bad_key left l.rest.text.now l.rest.line ≡ bad_key all l.fn.self.text.now l.fn.self.line;
      valued : sights l.found.items ++ values left l.rest.text.now l.rest.line ≡ values all l.fn.self.text.now l.fn.self.line;
      ended : past left l.rest.text.now ≡ past all l.fn.self.text.now;
      lined : l.rest.line + length left ≡ l.fn.self.line + length all;
      counted : length l.found.items + length left ≡ length all;
    }
