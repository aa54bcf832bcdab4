-- Each refusal is its ground, and each ground is refused.
use Rattle.std.proofs.Common.{◌≡◌, ℕ, zero, suc, ◌+◌, ◌<◌, Bool, true, false, cond, eqb, List, [], ◌∷◌, length, get_or, Some, None, Ok, Err, codes, Option, sym, refl, ap, ◌∙◌, subst, inl, inr, add-zero, arith}
use Rattle.std.proofs.lemmas.Bool.{and_parts, or_parts}
use Rattle.ledger.specs.Grounds.{demand, ask}
use Rattle.records.specs.Text.{has, before, after}
use Rattle.records.specs.Numbers.{proper, reading}
use Rattle.records.specs.Format.{keys, letter, every_kind, kind_by}
use Rattle.records.specs.Lines.{value_in, is_field}
use Rattle.records.specs.Outcome.{bad_key, values, bad_value, unless, took, read_as, outcome}
use Rattle.records.specs.Refused.{Begins, KeyedLine, from_line, FirstWrong, NumberText, Refused}
use Rattle.records.specs.declared.fault.TextFault.{TextFault}
use Rattle.records.specs.declared.fault.TextFault.TheVariants.{WrongKey, UnknownKind, MalformedValue}
use Rattle.records.specs.declared.kind.Kind.{Kind}
use Rattle.records.specs.declared.kind.Record.{Record}
use Rattle.records.proofs.Decimals.{proper_decimal, proper_is}
use Rattle.records.proofs.Whole.{line_whole, line_parts, bare, all_bare}
use Rattle.records.proofs.Table.{keys_bare, letter_kind, kind_letter, among_none}
use Rattle.records.proofs.Answered.{went}

-- a value ends with its line
before_lacks : (b : ℕ) (t : List ℕ) → has b (before b t) ≡ false
before_lacks b [] = refl
before_lacks b (c ∷ t) = go (eqb c b) refl (before_lacks b t)
  where
    go : (x : Bool) → eqb c b ≡ x → has b (before b t) ≡ false → has b (cond x [] (c ∷ before b t)) ≡ false
    go true e h = refl
    go false e h = simp e h

after_lacks : (b d : ℕ) (t : List ℕ) → has b t ≡ false → has b (after d t) ≡ false
after_lacks b d [] h = refl
after_lacks b d (c ∷ t) h = let p = or_parts (eqb c b) (has b t) h in go (eqb c d) p.1 (after_lacks b d t p.1)
  where
    go : (x : Bool) → has b t ≡ false → has b (after d t) ≡ false → has b (cond x t (after d t)) ≡ false
    go true g f = g
    go false g f = f

-- a line with a key, as a test and as a fact
begins : (key t : List ℕ) → is_field key t ≡ true → Begins key (value_in t) t
begins key t h = record { bare = after_lacks 10 61 (before 10 t) (before_lacks 10 t); rest = after 10 t; is = line_whole key t h }

keyed : (key t : List ℕ) → is_field key t ≡ true → KeyedLine key t
keyed key t h = record { value = value_in t; begins = begins key t h }

begun : (key value t : List ℕ) → bare key ≡ true → Begins key value t → (is_field key t ≡ true) × (value_in t ≡ value)
begun key value t h b = let p = line_parts key value b.rest t h b.bare b.is in (p.0, p.1)

is_keyed : (key t : List ℕ) → bare key ≡ true → KeyedLine key t → is_field key t ≡ true
is_keyed key t h l = (begun key l.value t h l.begins).0

clash : {X : Type 0} (x : Bool) → x ≡ true → x ≡ false → X
clash x p q = let z : true ≡ false = sym p ∙ q in absurd cc

not_keyed : (key t : List ℕ) (x : Bool) → is_field key t ≡ x → (KeyedLine key t → ⊥) → x ≡ false
not_keyed key t true e h = absurd (h (keyed key t e))
not_keyed key t false e h = refl

-- the first line that lacks its key
wrong_more : (k : List ℕ) (ks : List (List ℕ)) (t : List ℕ) (j : ℕ) → is_field k t ≡ true → FirstWrong ks (after 10 t) j → FirstWrong (k ∷ ks) t (suc j)
wrong_more k ks t j e f = record { inside = let l = f.inside in omega arith; wrong = f.wrong; before = earlier }
  where
    earlier : (i : ℕ) → i < suc j → KeyedLine (get_or (k ∷ ks) i []) (from_line i t)
    earlier zero l = keyed k t e
    earlier (suc i) l = f.before i (omega arith)

wrong_some : (ks : List (List ℕ)) (t : List ℕ) (n m : ℕ) → all_bare ks ≡ true → bad_key ks t n ≡ Some m → (j : ℕ) × (m ≡ n + j) × FirstWrong ks t j
wrong_some [] t n m a h = absurd cc
wrong_some (k ∷ ks) t n m a h = let p = and_parts (bare k) (all_bare ks) a in go (is_field k t) refl h p.0 (wrong_some ks (after 10 t) (n + 1) m p.1)
  where
    go : (x : Bool) → is_field k t ≡ x → cond x (bad_key ks (after 10 t) (n + 1)) (Some n) ≡ Some m → bare k ≡ true → (bad_key ks (after 10 t) (n + 1) ≡ Some m → (j : ℕ) × (m ≡ n + 1 + j) × FirstWrong ks (after 10 t) j) → (j : ℕ) × (m ≡ n + j) × FirstWrong (k ∷ ks) t j
    go true e g b f = let r = f g in let q = r.1 in (suc r.0, omega arith, wrong_more k ks t r.0 e r.2)
    go false e g b f = let q : n ≡ m = cc in (0, omega arith, record { inside = omega arith; wrong = λ l. clash (is_field k t) (is_keyed k t b l) e; before = λ i l. absurd (omega arith) })

wrong_from : (ks : List (List ℕ)) (t : List ℕ) (n j : ℕ) → all_bare ks ≡ true → FirstWrong ks t j → bad_key ks t n ≡ Some (n + j)
wrong_from [] t n j a f = let l = f.inside in absurd (omega arith)
wrong_from (k ∷ ks) t n zero a f = let e : is_field k t ≡ false = not_keyed k t (is_field k t) refl f.wrong in simp e (ap Some (sym (add-zero n)))
wrong_from (k ∷ ks) t n (suc j) a f =
    let p = and_parts (bare k) (all_bare ks) a in
    let e : is_field k t ≡ true = is_keyed k t p.0 (f.before 0 (omega arith)) in
    let l = f.inside in
    let r = wrong_from ks (after 10 t) (n + 1) j p.1 (record { inside = omega arith; wrong = f.wrong; before = λ i h. f.before (suc i) (omega arith) }) in
    let q : n + 1 + j ≡ n + suc j = omega arith in
    simp e (r ∙ ap Some q)

-- no line lacks its key
keyed_all : (ks : List (List ℕ)) (t : List ℕ) (n : ℕ) → bad_key ks t n ≡ None → (i : ℕ) → i < length ks → KeyedLine (get_or ks i []) (from_line i t)
keyed_all [] t n h i l = absurd (omega arith)
keyed_all (k ∷ ks) t n h i l = go (is_field k t) refl h i l (keyed_all ks (after 10 t) (n + 1))
  where
    go : (x : Bool) → is_field k t ≡ x → cond x (bad_key ks (after 10 t) (n + 1)) (Some n) ≡ None → (i : ℕ) → i < suc (length ks) → (bad_key ks (after 10 t) (n + 1) ≡ None → (i : ℕ) → i < length ks → KeyedLine (get_or ks i []) (from_line i (after 10 t))) → KeyedLine (get_or (k ∷ ks) i []) (from_line i t)
    go true e g zero l f = keyed k t e
    go true e g (suc i) l f = f g i (omega arith)
    go false e g i l f = absurd cc

keyed_none : (ks : List (List ℕ)) (t : List ℕ) (n : ℕ) → all_bare ks ≡ true → ((i : ℕ) → i < length ks → KeyedLine (get_or ks i []) (from_line i t)) → bad_key ks t n ≡ None
keyed_none [] t n a f = refl
keyed_none (k ∷ ks) t n a f =
    let p = and_parts (bare k) (all_bare ks) a in
    let e : is_field k t ≡ true = is_keyed k t p.0 (f 0 (omega arith)) in
    simp e (keyed_none ks (after 10 t) (n + 1) p.1 (λ i l. f (suc i) (omega arith)))

-- the first value that is no number's text
is_number : (v : List ℕ) → NumberText v → proper v ≡ true
is_number v h = ap proper h.2 ∙ proper_decimal h.0 h.1

number_text : (v : List ℕ) → proper v ≡ true → NumberText v
number_text v h = let p = proper_is v h in (reading v, p.0, p.1)

not_number : (v : List ℕ) (x : Bool) → proper v ≡ x → (NumberText v → ⊥) → x ≡ false
not_number v true e h = absurd (h (number_text v e))
not_number v false e h = refl

record FirstBad (ks : List (List ℕ)) (t : List ℕ) (j : ℕ) : Type 0 where
  pub inside : j < length ks
  pub malformed : NumberText (value_in (from_line j t)) → ⊥
  pub before : (i : ℕ) → i < j → NumberText (value_in (from_line i t))

bad_more : (k : List ℕ) (ks : List (List ℕ)) (t : List ℕ) (j : ℕ) → proper (value_in t) ≡ true → FirstBad ks (after 10 t) j → FirstBad (k ∷ ks) t (suc j)
bad_more k ks t j e f = record { inside = let l = f.inside in omega arith; malformed = f.malformed; before = earlier }
  where
    earlier : (i : ℕ) → i < suc j → NumberText (value_in (from_line i t))
    earlier zero l = number_text (value_in t) e
    earlier (suc i) l = f.before i (omega arith)

bad_some : (ks : List (List ℕ)) (t : List ℕ) (n m : ℕ) → bad_value (values ks t n) ≡ Some m → (j : ℕ) × (m ≡ n + j) × FirstBad ks t j
bad_some [] t n m h = absurd cc
bad_some (k ∷ ks) t n m h = go (proper (value_in t)) refl h (bad_some ks (after 10 t) (n + 1) m)
  where
    go : (x : Bool) → proper (value_in t) ≡ x → cond x (bad_value (values ks (after 10 t) (n + 1))) (Some n) ≡ Some m → (bad_value (values ks (after 10 t) (n + 1)) ≡ Some m → (j : ℕ) × (m ≡ n + 1 + j) × FirstBad ks (after 10 t) j) → (j : ℕ) × (m ≡ n + j) × FirstBad (k ∷ ks) t j
    go true e g f = let r = f g in let q = r.1 in (suc r.0, omega arith, bad_more k ks t r.0 e r.2)
    go false e g f = let q : n ≡ m = cc in (0, omega arith, record { inside = omega arith; malformed = λ v. clash (proper (value_in t)) (is_number (value_in t) v) e; before = λ i l. absurd (omega arith) })

bad_from : (ks : List (List ℕ)) (t : List ℕ) (n j : ℕ) → FirstBad ks t j → bad_value (values ks t n) ≡ Some (n + j)
bad_from [] t n j f = let l = f.inside in absurd (omega arith)
bad_from (k ∷ ks) t n zero f = let e : proper (value_in t) ≡ false = not_number (value_in t) (proper (value_in t)) refl f.malformed in simp e (ap Some (sym (add-zero n)))
bad_from (k ∷ ks) t n (suc j) f =
    let e : proper (value_in t) ≡ true = is_number (value_in t) (f.before 0 (omega arith)) in
    let l = f.inside in
    let r = bad_from ks (after 10 t) (n + 1) j (record { inside = omega arith; malformed = f.malformed; before = λ i h. f.before (suc i) (omega arith) }) in
    let q : n + 1 + j ≡ n + suc j = omega arith in
    simp e (r ∙ ap Some q)

-- what is refused has its ground
module _ (t : List ℕ) (n : ℕ) (e : TextFault) where
  body_refused : (k : Kind) → Begins (codes "kind") (letter k) t → (a : Option ℕ) → bad_key (keys k) (after 10 t) (n + 1) ≡ a → (b : Option ℕ) → bad_value (values (keys k) (after 10 t) (n + 1)) ≡ b → (r : Record) → took n (unless a (λ m. WrongKey m) (unless b (λ m. MalformedValue m) (Ok r))) ≡ Err e → Refused t n e
  body_refused k s (Some m) x b y r h =
      let q : WrongKey m ≡ e = cc in
      subst (Refused t n) q (inr (k, s, wrong_some (keys k) (after 10 t) (n + 1) m (keys_bare k) x))
  body_refused k s None x (Some m) y r h =
      let q : MalformedValue m ≡ e = cc in
      let v = bad_some (keys k) (after 10 t) (n + 1) m y in
      subst (Refused t n) q (k, s, (v.0, v.1, record { inside = v.2.inside; keyed = keyed_all (keys k) (after 10 t) (n + 1) x; malformed = v.2.malformed; before = v.2.before }))
  body_refused k s None x None y r h = absurd cc

  kind_refused : is_field (codes "kind") t ≡ true → (o : Option Kind) → kind_by (value_in t) ≡ o → ask o (UnknownKind n) (λ k. took n (read_as k (after 10 t) (n + 1))) ≡ Err e → Refused t n e
  kind_refused f None g h =
      let q : UnknownKind n ≡ e = cc in
      subst (Refused t n) q (refl, (value_in t, begins (codes "kind") t f, λ k i. let c : Some k ≡ None = sym (letter_kind k) ∙ (ap kind_by (sym i) ∙ g) in cc))
  kind_refused f (Some k) g h =
      let s : Begins (codes "kind") (letter k) t = subst (λ v. Begins (codes "kind") v t) (kind_letter (value_in t) k g) (begins (codes "kind") t f) in
      body_refused k s (bad_key (keys k) (after 10 t) (n + 1)) refl (bad_value (values (keys k) (after 10 t) (n + 1))) refl _ h

  first_refused : (x : Bool) → is_field (codes "kind") t ≡ x → demand x (WrongKey n) (ask (kind_by (value_in t)) (UnknownKind n) (λ k. took n (read_as k (after 10 t) (n + 1)))) ≡ Err e → Refused t n e
  first_refused true f h = kind_refused f (kind_by (value_in t)) refl h
  first_refused false f h =
      let q : WrongKey n ≡ e = cc in
      subst (Refused t n) q (inl (refl, λ l. clash (is_field (codes "kind") t) (is_keyed (codes "kind") t refl l) f))

  pub refused : outcome t n ≡ Err e → Refused t n e
  refused h = first_refused (is_field (codes "kind") t) refl h

-- what has its ground is refused
past_kind : (t : List ℕ) (n : ℕ) (k : Kind) → Begins (codes "kind") (letter k) t → outcome t n ≡ took n (read_as k (after 10 t) (n + 1))
past_kind t n k b = let p = begun (codes "kind") (letter k) t refl b in went t n k p.0 (ap kind_by p.1 ∙ letter_kind k)

pub refuses : (t : List ℕ) (n : ℕ) (e : TextFault) → Refused t n e → outcome t n ≡ Err e
refuses t n (WrongKey m) (inl h) =
    let f : is_field (codes "kind") t ≡ false = not_keyed (codes "kind") t (is_field (codes "kind") t) refl h.1 in
    ap (λ x. demand x (WrongKey n) (ask (kind_by (value_in t)) (UnknownKind n) (λ k. took n (read_as k (after 10 t) (n + 1))))) f ∙ ap (λ x. Err (WrongKey x)) (sym h.0)
refuses t n (WrongKey m) (inr h) =
    let w = wrong_from (keys h.0) (after 10 t) (n + 1) h.2.0 (keys_bare h.0) h.2.2 in
    let r : read_as h.0 (after 10 t) (n + 1) ≡ Err (WrongKey m) = simp w (ap (λ x. Err (WrongKey x)) (sym h.2.1)) in
    past_kind t n h.0 h.1 ∙ ap (took n) r
refuses t n (UnknownKind m) h =
    let p = begun (codes "kind") h.1.0 t refl h.1.1 in
    let g : None ≡ kind_by (value_in t) = among_none every_kind (value_in t) (λ k i. h.1.2 k (sym p.1 ∙ i)) in
    ap (λ x. demand x (WrongKey n) (ask (kind_by (value_in t)) (UnknownKind n) (λ k. took n (read_as k (after 10 t) (n + 1))))) p.0 ∙ (ap (λ x. ask x (UnknownKind n) (λ k. took n (read_as k (after 10 t) (n + 1)))) (sym g) ∙ ap (λ x. Err (UnknownKind x)) (sym h.0))
refuses t n (MalformedValue m) h =
    let f = h.2.2 in
    let a = keyed_none (keys h.0) (after 10 t) (n + 1) (keys_bare h.0) f.keyed in
    let w = bad_from (keys h.0) (after 10 t) (n + 1) h.2.0 (record { inside = f.inside; malformed = f.malformed; before = f.before }) in
    let r : read_as h.0 (after 10 t) (n + 1) ≡ Err (MalformedValue m) = simp (a, w) (ap (λ x. Err (MalformedValue x)) (sym h.2.1)) in
    past_kind t n h.0 h.1 ∙ ap (took n) r
