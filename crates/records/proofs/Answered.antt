-- What the reader answers, and what its parts answer, joined.
use Rattle.std.proofs.Common.{◌≡◌, ℕ, ◌+◌, Bool, true, false, List, [], ◌++◌, map, length, drop, ℤ, Some, None, Ok, Err, codes, Option, Result, sym, refl, ap, ◌∙◌, subst, arith}
use Rattle.std.specs.List.{AllByRecursion}
use Rattle.std.proofs.lemmas.List.{append-nil, append_cancel_left, length-append, drop_at}
use Rattle.ledger.specs.Grounds.{demand, ask}
use Rattle.records.specs.Text.{after}
use Rattle.records.specs.Numbers.{Short}
use Rattle.records.specs.Format.{keys, letter, kind_by, kind_of, numbers_in, made_of, line, body, written, Writable}
use Rattle.records.specs.Lines.{value_in, is_field}
use Rattle.records.specs.Outcome.{bad_key, values, past, bad_value, amount, unless, took, taken, read_as, outcome, some}
use Rattle.records.specs.Exact.{Accepted, Apart}
use Rattle.records.specs.declared.body.Taken.{Taken}
use Rattle.records.specs.declared.fault.TextFault.{TextFault}
use Rattle.records.specs.declared.fault.TextFault.TheVariants.{WrongKey, UnknownKind, MalformedValue}
use Rattle.records.specs.declared.kind.Kind.{Kind}
use Rattle.records.specs.declared.kind.Record.{Record}
use Rattle.records.proofs.Table.{keys_bare, letter_bare, letter_kind, made_kind, made_firsts, made_again, numbers_count, kind_letter}
use Rattle.records.proofs.Whole.{line_append, line_whole, line_parts, body_whole, body_parts, firsts_all}

-- what was not refused
cleared : {Y : Type 0} (o : Option ℕ) (g : ℕ → TextFault) (r : Result Y TextFault) (y : Y) → unless o g r ≡ Ok y → (o ≡ None) × (r ≡ Ok y)
cleared None g r y h = (refl, h)
cleared (Some n) g r y h = absurd cc

-- past the kind
pub went : (t : List ℕ) (n : ℕ) (k : Kind) → is_field (codes "kind") t ≡ true → kind_by (value_in t) ≡ Some k → outcome t n ≡ took n (read_as k (after 10 t) (n + 1))
went t n k f g = ap (λ x. demand x (WrongKey n) (ask (kind_by (value_in t)) (UnknownKind n) (λ k. took n (read_as k (after 10 t) (n + 1))))) f ∙ ap (λ x. ask x (UnknownKind n) (λ k. took n (read_as k (after 10 t) (n + 1)))) g

-- the record that is read has the text that is read
pub read_whole : (k : Kind) (t : List ℕ) (n : ℕ) (r : Record) → read_as k t n ≡ Ok r → (kind_of r ≡ k) × (t ≡ body (keys (kind_of r)) (numbers_in r) ++ past (keys k) t) × Writable r
read_whole k t n r h =
    let zs : List ℤ = map amount (values (keys k) t n) in
    let a = cleared (bad_key (keys k) t n) (λ m. WrongKey m) (unless (bad_value (values (keys k) t n)) (λ m. MalformedValue m) (Ok (made_of k zs))) r h in
    let b = cleared (bad_value (values (keys k) t n)) (λ m. MalformedValue m) (Ok (made_of k zs)) r a.1 in
    let e : made_of k zs ≡ r = cc b.1 in
    let w = body_whole (keys k) t n a.0 b.0 in
    let i : kind_of r ≡ k = ap kind_of (sym e) ∙ made_kind k zs in
    let m : numbers_in r ≡ zs = ap numbers_in (sym e) ∙ (made_firsts k zs ∙ firsts_all 0 (keys k) zs (omega (arith, w.2))) in
    (i, w.0 ∙ (ap (λ x. body x zs ++ past (keys k) t) (ap keys (sym i)) ∙ ap (λ x. body (keys (kind_of r)) x ++ past (keys k) t) (sym m)), subst (AllByRecursion Short) (sym m) w.1)

pub next_whole : (t : List ℕ) (n : ℕ) (k : Kind) (r : Record) → is_field (codes "kind") t ≡ true → kind_by (value_in t) ≡ Some k → read_as k (after 10 t) (n + 1) ≡ Ok r → (t ≡ written r ++ past (keys k) (after 10 t)) × (kind_of r ≡ k) × Writable r
next_whole t n k r f g h =
    let w = read_whole k (after 10 t) (n + 1) r h in
    let v : value_in t ≡ letter (kind_of r) = kind_letter (value_in t) k g ∙ ap letter (sym w.0) in
    let e = line_whole (codes "kind") t f in
    (e ∙ (ap (λ x. line (codes "kind") x (after 10 t)) v ∙ (ap (line (codes "kind") (letter (kind_of r))) w.1 ∙ sym (line_append (codes "kind") (letter (kind_of r)) (body (keys (kind_of r)) (numbers_in r)) (past (keys k) (after 10 t))))), w.0, w.2)

-- the text of a record is read as that record
pub read_parts : (r : Record) (t rest : List ℕ) (n : ℕ) → Writable r → t ≡ written r ++ rest → outcome t n ≡ Ok (taken n r)
read_parts r t rest n s e =
    let f = line_parts (codes "kind") (letter (kind_of r)) (body (keys (kind_of r)) (numbers_in r) ++ rest) t refl (letter_bare (kind_of r)) (e ∙ line_append (codes "kind") (letter (kind_of r)) (body (keys (kind_of r)) (numbers_in r)) rest) in
    let b = body_parts (keys (kind_of r)) (numbers_in r) (after 10 t) rest (n + 1) (keys_bare (kind_of r)) (numbers_count r) s f.2 in
    let k : kind_by (value_in t) ≡ Some (kind_of r) = ap kind_by f.1 ∙ letter_kind (kind_of r) in
    let m : made_of (kind_of r) (map amount (values (keys (kind_of r)) (after 10 t) (n + 1))) ≡ r = ap (made_of (kind_of r)) b.numbered ∙ made_again r in
    let q : read_as (kind_of r) (after 10 t) (n + 1) ≡ Ok r = simp (b.keyed, b.valued) (ap (λ x. Ok x) m) in
    went t n (kind_of r) f.0 k ∙ ap (took n) q

demanded : {Y : Type 0} (b : Bool) (e : TextFault) (r : Result Y TextFault) (y : Y) → demand b e r ≡ Ok y → (b ≡ true) × (r ≡ Ok y)
demanded true e r y h = (refl, h)
demanded false e r y h = absurd cc

asked : {X Y : Type 0} (o : Option X) (e : TextFault) (f : X → Result Y TextFault) (y : Y) → ask o e f ≡ Ok y → (x : X) × (o ≡ Some x) × (f x ≡ Ok y)
asked (Some x) e f y h = (x, refl, h)
asked None e f y h = absurd cc

took_parts : (n : ℕ) (o : Result Record TextFault) (x : Taken) → took n o ≡ Ok x → (r : Record) × (o ≡ Ok r) × (x ≡ taken n r)
took_parts n (Ok r) x h = (r, refl, cc)
took_parts n (Err e) x h = absurd cc

pub accepted : (t : List ℕ) (n : ℕ) (o : Result Taken TextFault) → outcome t n ≡ o → Accepted t n (some o)
accepted t n (Err e) h = tt
accepted t n (Ok x) h =
    let a = demanded (is_field (codes "kind") t) (WrongKey n) (ask (kind_by (value_in t)) (UnknownKind n) (λ k. took n (read_as k (after 10 t) (n + 1)))) x h in
    let b = asked (kind_by (value_in t)) (UnknownKind n) (λ k. took n (read_as k (after 10 t) (n + 1))) x a.1 in
    let c = took_parts n (read_as b.0 (after 10 t) (n + 1)) x b.2 in
    let w = next_whole t n b.0 c.0 a.0 b.1 c.1 in
    let d : drop (length (written c.0)) t ≡ past (keys b.0) (after 10 t) = ap (drop (length (written c.0))) w.0 ∙ drop_at (written c.0) (past (keys b.0) (after 10 t)) (length (written c.0)) refl in
    subst (λ y. Accepted t n (Ok (Some y))) (sym c.2) (refl, w.2, w.0 ∙ ap (λ y. written c.0 ++ y) (sym d))

-- no record's text begins another's
one_front : (r s : Record) (a b : List ℕ) → Writable r → Writable s → written r ++ a ≡ written s ++ b → r ≡ s
one_front r s a b p q e =
    let f = read_parts r (written r ++ a) a 0 p refl in
    let g = read_parts s (written r ++ a) b 0 q e in
    let k : taken 0 r ≡ taken 0 s = cc (f, g) in
    ap (λ x. x.read) k

no_front : (r s : Record) (more : List ℕ) → Writable r → Writable s → written r ++ more ≡ written s → (r ≡ s) × (more ≡ [])
no_front r s more p q e =
    let f : written r ++ more ≡ written s ++ [] = e ∙ sym (append-nil (written s)) in
    let g = one_front r s more [] p q f in
    (g, append_cancel_left (written r) more [] (f ∙ ap (λ x. written x ++ []) (sym g)))

pub apart : Apart
apart = record { one_front = one_front; one_text = λ r s p q e. one_front r s [] [] p q (ap (λ x. x ++ []) e); no_front = no_front }

pub next_read : (t : List ℕ) (n : ℕ) (k : Kind) (rest left : List ℕ) (m l : ℕ) (r : Record) → (is_field (codes "kind") t ≡ true) × (kind_by (value_in t) ≡ Some k) × (rest ≡ after 10 t) × (m ≡ n + 1) → (read_as k rest m ≡ Ok r) × (left ≡ past (keys k) rest) × (l ≡ m + length (keys k)) → (length t ≡ length (written r) + length left) × (l ≡ n + (1 + length (keys (kind_of r)))) × (outcome t n ≡ Ok (taken n r))
next_read t n k rest left m l r f h =
    let p : read_as k (after 10 t) (n + 1) ≡ Ok r = rw (← f.2, ← f.3) h.0 in
    let w = next_whole t n k r f.0 f.1 p in
    let e = ap length w.0 ∙ length-append (written r) (past (keys k) (after 10 t)) in
    let a = ap length (h.1 ∙ ap (past (keys k)) f.2) in
    let b = ap (λ x. length (keys x)) w.1 in
    (omega arith, omega (arith, h.2, f.3), went t n k f.0 f.1 ∙ ap (took n) p)
