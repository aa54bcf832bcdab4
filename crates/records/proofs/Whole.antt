-- A text that is read is the text of what was read, and the text of a record is read as that record.
use Rattle.std.proofs.Common.{◌≡◌, ℕ, suc, ◌+◌, Bool, true, false, cond, not, ◌&&◌, ◌||◌, eqb, List, [], ◌∷◌, ◌++◌, map, length, get_or, drop, ℤ, pos, negsuc, Some, None, Option, sym, refl, ap, ◌∙◌, add-one, arith}
use Rattle.std.specs.Str.Parse.{AllDigits}
use Rattle.std.specs.Fmt as std_written
use Rattle.std.specs.List.{AllByRecursion}
use Rattle.std.specs.Str.{bytes_eq}
use Rattle.std.proofs.lemmas.List.{append_assoc, drop_more, drop_all}
use Rattle.std.proofs.lemmas.Bool.{eqb-true, eq-eqb, ne_eqb, and_parts, and_from, or_parts}
use Rattle.std.proofs.lemmas.Slice.Eq.{bytes_eq-Decides}
use Rattle.std.proofs.lemmas.Str.Parse.{digit_from_value}
use Rattle.records.specs.Text.{has, before, after}
use Rattle.records.specs.Numbers.{decimal, Short, reading, proper}
use Rattle.records.specs.Format.{line, body}
use Rattle.records.specs.Lines.{splits, key_in, value_in, is_field}
use Rattle.records.specs.Outcome.{bad_key, values, past, bad_value, amount}
use Rattle.records.proofs.Decimals.{all_digits, reads_back, proper_decimal, proper_is}

-- a text at its first b
pub whole : (b : ℕ) (t : List ℕ) → has b t ≡ true → t ≡ before b t ++ b ∷ after b t
whole b [] h = absurd cc
whole b (c ∷ t) h = go (eqb c b) refl h (whole b t)
  where
    go : (x : Bool) → eqb c b ≡ x → (x || has b t) ≡ true → (has b t ≡ true → t ≡ before b t ++ b ∷ after b t) → c ∷ t ≡ cond x [] (c ∷ before b t) ++ b ∷ cond x t (after b t)
    go true e g ih = ap (λ y. y ∷ t) (eqb-true c b e)
    go false e g ih = ap (λ y. c ∷ y) (ih g)

pub parts : (b : ℕ) (x y : List ℕ) → has b x ≡ false → (has b (x ++ b ∷ y) ≡ true) × (before b (x ++ b ∷ y) ≡ x) × (after b (x ++ b ∷ y) ≡ y)
parts b [] y h = let e : eqb b b ≡ true = eq-eqb b b refl in (simp e, simp e, simp e)
parts b (c ∷ x) y h =
    let p = or_parts (eqb c b) (has b x) h in
    let r = parts b x y p.1 in
    (simp p.0 r.0, simp p.0 (ap (λ z. c ∷ z) r.1), simp p.0 r.2)

lacks : (b c : ℕ) (x y : List ℕ) → has b x ≡ false → eqb c b ≡ false → has b y ≡ false → has b (x ++ c ∷ y) ≡ false
lacks b c [] y h e g = simp (e, g)
lacks b c (d ∷ x) y h e g = let p = or_parts (eqb d b) (has b x) h in simp p.0 (lacks b c x y p.1 e g)

-- a key has neither an equals sign nor an end of line
abbrev pub bare : List ℕ → Bool
bare k = not (has 61 k) && not (has 10 k)

abbrev pub all_bare : List (List ℕ) → Bool
all_bare [] = true
all_bare (k ∷ ks) = bare k && all_bare ks

no : (x : Bool) → not x ≡ true → x ≡ false
no false h = refl
no true h = absurd cc

-- a line
pub line_append : (k v more rest : List ℕ) → line k v more ++ rest ≡ line k v (more ++ rest)
line_append k v more rest = append_assoc k (61 ∷ (v ++ 10 ∷ more)) rest ∙ ap (λ x. k ++ 61 ∷ x) (append_assoc v (10 ∷ more) rest)

pub line_whole : (k t : List ℕ) → is_field k t ≡ true → t ≡ line k (value_in t) (after 10 t)
line_whole k t h =
    let p = and_parts (splits t) (bytes_eq (key_in t) k) h in
    let q = and_parts (has 10 t) (has 61 (before 10 t)) p.0 in
    let e = (bytes_eq-Decides (key_in t) k).0 p.1 in
    let a = whole 10 t q.0 in
    let b : before 10 t ≡ k ++ 61 ∷ value_in t = whole 61 (before 10 t) q.1 ∙ ap (λ x. x ++ 61 ∷ value_in t) e in
    a ∙ (ap (λ x. x ++ 10 ∷ after 10 t) b ∙ append_assoc k (61 ∷ value_in t) (10 ∷ after 10 t))

pub line_parts : (k v more t : List ℕ) → bare k ≡ true → has 10 v ≡ false → t ≡ line k v more → (is_field k t ≡ true) × (value_in t ≡ v) × (after 10 t ≡ more)
line_parts k v more t h g e =
    let p = and_parts _ _ h in
    let w : t ≡ (k ++ 61 ∷ v) ++ 10 ∷ more = e ∙ sym (append_assoc k (61 ∷ v) (10 ∷ more)) in
    let o = parts 10 (k ++ 61 ∷ v) more (lacks 10 61 k v (no _ p.1) refl g) in
    let i = parts 61 k v (no _ p.0) in
    let l : before 10 t ≡ k ++ 61 ∷ v = ap (before 10) w ∙ o.1 in
    (and_from _ _ (and_from _ _ (ap (has 10) w ∙ o.0) (ap (has 61) l ∙ i.0)) ((bytes_eq-Decides (key_in t) k).1 (ap (before 61) l ∙ i.1)), ap (after 61) l ∙ i.2, ap (after 10) w ∙ o.2)

-- a number's text has no end of line
bare_digits : (ds : List ℕ) → AllDigits 10 ds → has 10 ds ≡ false
bare_digits [] d = refl
bare_digits (c ∷ cs) d =
    let i = digit_from_value c d.0 in
    let e : eqb c 10 ≡ false = ne_eqb c 10 (λ h. omega arith) in
    simp e (bare_digits cs d.1)

pub bare_decimal : (z : ℤ) → Short z → has 10 (decimal z) ≡ false
bare_decimal (pos n) s = bare_digits (std_written.decimal n) (all_digits (std_written.decimal n) n s refl)
bare_decimal (negsuc n) s = bare_digits (std_written.decimal (suc n)) (all_digits (std_written.decimal (suc n)) (suc n) s refl)

-- the lines for these keys
none_parts : (x : Bool) (o : Option ℕ) (n : ℕ) → cond x o (Some n) ≡ None → (x ≡ true) × (o ≡ None)
none_parts true o n h = (refl, h)
none_parts false o n h = absurd cc

pub body_whole : (ks : List (List ℕ)) (t : List ℕ) (n : ℕ) → bad_key ks t n ≡ None → bad_value (values ks t n) ≡ None → (t ≡ body ks (map amount (values ks t n)) ++ past ks t) × AllByRecursion Short (map amount (values ks t n)) × (length (map amount (values ks t n)) ≡ length ks)
body_whole [] t n a b = (refl, tt, refl)
body_whole (k ∷ ks) t n a b =
    let p = none_parts (is_field k t) (bad_key ks (after 10 t) (n + 1)) n a in
    let q = none_parts (proper (value_in t)) (bad_value (values ks (after 10 t) (n + 1))) n b in
    let r = body_whole ks (after 10 t) (n + 1) p.1 q.1 in
    let v = proper_is (value_in t) q.0 in
    let more : List ℤ = map amount (values ks (after 10 t) (n + 1)) in
    let e : t ≡ line k (decimal (reading (value_in t))) (body ks more ++ past ks (after 10 t)) = line_whole k t p.0 ∙ (ap (λ x. line k x (after 10 t)) v.1 ∙ ap (line k (decimal (reading (value_in t)))) r.0) in
    (e ∙ sym (line_append k (decimal (reading (value_in t))) (body ks more) (past ks (after 10 t))), (v.0, r.1), ap suc r.2)

pub record Readable (ks : List (List ℕ)) (zs : List ℤ) (t : List ℕ) (n : ℕ) : Type 0 where
  pub keyed : bad_key ks t n ≡ None
  pub valued : bad_value (values ks t n) ≡ None
  pub numbered : map amount (values ks t n) ≡ zs

pub body_parts : (ks : List (List ℕ)) (zs : List ℤ) (t rest : List ℕ) (n : ℕ) → all_bare ks ≡ true → length zs ≡ length ks → AllByRecursion Short zs → t ≡ body ks zs ++ rest → Readable ks zs t n
body_parts [] [] t rest n a l s e = record { keyed = refl; valued = refl; numbered = refl }
body_parts [] (z ∷ zs) t rest n a l s e = absurd (omega arith)
body_parts (k ∷ ks) [] t rest n a l s e = absurd (omega arith)
body_parts (k ∷ ks) (z ∷ zs) t rest n a l s e =
    let p = and_parts (bare k) (all_bare ks) a in
    let f = line_parts k (decimal z) (body ks zs ++ rest) t p.0 (bare_decimal z s.0) (e ∙ line_append k (decimal z) (body ks zs) rest) in
    let r = body_parts ks zs (after 10 t) rest (n + 1) p.1 (omega arith) s.1 f.2 in
    let g : proper (value_in t) ≡ true = ap proper f.1 ∙ proper_decimal z s.0 in
    let m : reading (value_in t) ≡ z = ap reading f.1 ∙ reads_back z s.0 in
    record { keyed = simp f.0 r.keyed; valued = simp g r.valued; numbered = ap (λ x. x ∷ map amount (values ks (after 10 t) (n + 1))) m ∙ ap (λ x. z ∷ x) r.numbered }

-- the first numbers, one for each key
abbrev pub firsts : ℕ → List (List ℕ) → List ℤ → List ℤ
firsts i [] zs = []
firsts i (k ∷ ks) zs = get_or zs i (pos 0) ∷ firsts (suc i) ks zs

pub firsts_all : (i : ℕ) (ks : List (List ℕ)) (zs : List ℤ) → length zs ≡ i + length ks → firsts i ks zs ≡ drop i zs
firsts_all i [] zs e = sym (drop_all i zs (omega arith))
firsts_all i (k ∷ ks) zs e = let d : drop i zs ≡ get_or zs i (pos 0) ∷ drop (suc i) zs = rw add-one at (drop_more zs i (pos 0) (omega arith)) in ap (λ x. get_or zs i (pos 0) ∷ x) (firsts_all (suc i) ks zs (omega arith)) ∙ sym d
