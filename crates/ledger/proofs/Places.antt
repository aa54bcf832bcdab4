-- Where the places of a table lie, and what is found in it after a write.
use Rattle.std.proofs.Common.{◌≡◌, ℕ, zero, suc, ◌+◌, ◌*◌, ◌/◌, ◌%◌, ◌<◌, ◌≤◌, Bool, true, false, cond, ◌&&◌, eqb, ◌⊎◌, List, length, get_or, take, drop, set, ℤ, pos, ◌+ℤ◌, sum_by, sym, refl, ap, ◌∙◌, subst, inl, inr, ⊎_elim, le_refl, suc-mul, add-one, arith}
use Rattle.std.proofs.lemmas.Nat.{mul-le, mul-add-lt, div-mul-add, mod-mul-add}
use Rattle.std.proofs.lemmas.List.{places, get_or-take, get_or-drop, length-take, length-drop, length-set, get_or-set_same, get_or-set_other, take_all}
use Rattle.std.proofs.lemmas.List.Sums.{sum_by_more, fold_more}
use Rattle.std.proofs.lemmas.Bool.{cases_eq, cases_lt, cases_Bool, eqb-true, eq-eqb, ne_eqb, leb-true, and_parts, and_from, cond-true, cond-false}
use Rattle.ledger.specs.Places.{at2, at3, line, with_line, with_lines, lies_inside, is_written, put_line_after}
use Rattle.ledger.specs.PlaceLaws.{Wide, PlaceLaws}
use Rattle.ledger.specs.Sums.{sum_to, sumℤ_to, sumℤ_by}
use Rattle.ledger.proofs.Sums.{sum_same, sumℤ_same}

-- a row lies inside
pub row_inside : (r rows w : ℕ) → r < rows → r * w + w ≤ rows * w
row_inside r rows w h = subst (λ x. x ≤ rows * w) (suc-mul r w) (mul-le (suc r) w rows w h (le_refl w))

-- a place lies inside
pub inside2 : (rows w r c : ℕ) → r < rows → c < w → at2 w r c < rows * w
inside2 rows w r c p q = omega (arith, mul-add-lt r w c rows p q)

pub inside3 : (blocks lines w b l c : ℕ) → b < blocks → l < lines → c < w → at3 lines w b l c < blocks * lines * w
inside3 blocks lines w b l c p q r = inside2 (blocks * lines) w (at2 lines b l) c (inside2 blocks lines b l p q) r

-- two places are one only at the same indices
pub same2 : (w row column r c : ℕ) → column < w → c < w → at2 w r c ≡ at2 w row column → (r ≡ row) × (c ≡ column)
same2 w row column r c p q h =
    (sym (div-mul-add r w c q) ∙ (ap (λ x. x / w) h ∙ div-mul-add row w column p), sym (mod-mul-add r w c q) ∙ (ap (λ x. x % w) h ∙ mod-mul-add row w column p))

pub same3 : (lines w block row column b l c : ℕ) → row < lines → l < lines → column < w → c < w → at3 lines w b l c ≡ at3 lines w block row column → (b ≡ block) × (l ≡ row) × (c ≡ column)
same3 lines w block row column b l c p q r s h =
    let x = same2 w (at2 lines block row) column (at2 lines b l) c r s h in
    let y = same2 lines block row b l p q x.0 in
    (y.0, y.1, x.1)

-- the test of a place is the test of its indices
pub eqb_at2 : (w row column r c : ℕ) → column < w → c < w → eqb (at2 w r c) (at2 w row column) ≡ (eqb r row && eqb c column)
eqb_at2 w row column r c p q = ⊎_elim yes_same other (cases_Bool (eqb r row && eqb c column))
  where
    yes_same : (eqb r row && eqb c column) ≡ true → eqb (at2 w r c) (at2 w row column) ≡ (eqb r row && eqb c column)
    yes_same e =
        let s = and_parts (eqb r row) (eqb c column) e in
        let a = eqb-true r row s.0 in
        let b = eqb-true c column s.1 in
        eq-eqb (at2 w r c) (at2 w row column) (ap (λ x. at2 w x c) a ∙ ap (at2 w row) b) ∙ sym e

    other : (eqb r row && eqb c column) ≡ false → eqb (at2 w r c) (at2 w row column) ≡ (eqb r row && eqb c column)
    other e =
        ne_eqb (at2 w r c) (at2 w row column) (λ h.
        let s = same2 w row column r c p q h in
        let y = and_from (eqb r row) (eqb c column) (eq-eqb r row s.0) (eq-eqb c column s.1) in
        let z : true ≡ false = sym y ∙ e in
        let n : ◌≡◌ {A = ℕ} 0 1 = cc in
        omega arith)
        ∙ sym e

and_regroup : (x y z : Bool) → ((x && y) && z) ≡ (x && (y && z))
and_regroup true y z = refl
and_regroup false y z = refl

pub eqb_at3 : (lines w block row column b l c : ℕ) → row < lines → l < lines → column < w → c < w → eqb (at3 lines w b l c) (at3 lines w block row column) ≡ (eqb b block && (eqb l row && eqb c column))
eqb_at3 lines w block row column b l c p q r s =
    eqb_at2 w (at2 lines block row) column (at2 lines b l) c r s
    ∙ (ap (λ x. x && eqb c column) (eqb_at2 lines block row b l p q) ∙ and_regroup (eqb b block) (eqb l row) (eqb c column))

-- what is found after a place was set
pub get_d_set : {X : Type 0} (xs : List X) (i : ℕ) (new none : X) → i < length xs → (k : ℕ) → get_or (set xs i new) k none ≡ cond (eqb k i) new (get_or xs k none)
get_d_set xs i new none l k =
    ⊎_elim
    (λ e. ap (λ x. get_or (set xs i new) x none) e ∙ (get_or-set_same xs i new none l ∙ sym (cond-true (eqb k i) _ _ (eq-eqb k i e))))
    (λ ne. get_or-set_other xs i k new none ne ∙ sym (cond-false (eqb k i) _ _ (ne_eqb k i ne)))
    (cases_eq k i)

pub frame2 : {X : Type 0} (xs : List X) (w row column : ℕ) (new none : X) → at2 w row column < length xs → column < w → (r c : ℕ) → c < w → get_or (set xs (at2 w row column) new) (at2 w r c) none ≡ cond (eqb r row && eqb c column) new (get_or xs (at2 w r c) none)
frame2 xs w row column new none l p r c q =
    get_d_set xs (at2 w row column) new none l (at2 w r c)
    ∙ ap (λ t. cond t new (get_or xs (at2 w r c) none)) (eqb_at2 w row column r c p q)

pub frame3 : {X : Type 0} (xs : List X) (lines w block row column : ℕ) (new none : X) → at3 lines w block row column < length xs → row < lines → column < w → (b l c : ℕ) → l < lines → c < w → get_or (set xs (at3 lines w block row column) new) (at3 lines w b l c) none ≡ cond (eqb b block && (eqb l row && eqb c column)) new (get_or xs (at3 lines w b l c) none)
frame3 xs lines w block row column new none i p r b l c q s =
    get_d_set xs (at3 lines w block row column) new none i (at3 lines w b l c)
    ∙ ap (λ t. cond t new (get_or xs (at3 lines w b l c) none)) (eqb_at3 lines w block row column b l c p q r s)

-- a place by its line
pub get_or_line : {X : Type 0} (w r c : ℕ) (xs : List X) (none : X) → c < w → get_or (line w r xs) c none ≡ get_or xs (at2 w r c) none
get_or_line w r c xs none h = get_or-take w (drop (r * w) xs) c none h ∙ get_or-drop (r * w) xs c none

pub length_line : {X : Type 0} (w r : ℕ) (xs : List X) → r * w + w ≤ length xs → length (line w r xs) ≡ w
length_line w r xs h = simp (length-take, length-drop) (omega arith)

-- a line that was written, and the others
module _ {X : Type 0} (w row : ℕ) (new xs : List X) (long : length new ≡ w) (fits : row * w + w ≤ length xs) where
  pub length_with_line : length (with_line w row new xs) ≡ length xs
  length_with_line = grind (arith, places)

  pub line_inside : (c : ℕ) (none : X) → c < w → get_or (with_line w row new xs) (at2 w row c) none ≡ get_or new c none
  line_inside c none h = grind (arith, places)

  pub line_outside : (r : ℕ) → (r ≡ row → ⊥) → (c : ℕ) (none : X) → c < w → get_or (with_line w row new xs) (at2 w r c) none ≡ get_or xs (at2 w r c) none
  line_outside r ne c none m = ⊎_elim before after (cases_lt r row)
    where
      before : r < row → get_or (with_line w row new xs) (at2 w r c) none ≡ get_or xs (at2 w r c) none
      before h = let o : at2 w r c < row * w = omega (arith, row_inside r row w h) in grind (arith, places)

      after : row ≤ r → get_or (with_line w row new xs) (at2 w r c) none ≡ get_or xs (at2 w r c) none
      after h = let o : row * w + w ≤ at2 w r c = omega (arith, row_inside row r w (omega arith)) in grind (arith, places)

  pub line_frame : (none : X) (r c : ℕ) → c < w → get_or (with_line w row new xs) (at2 w r c) none ≡ cond (eqb r row) (get_or new c none) (get_or xs (at2 w r c) none)
  line_frame none r c m =
      ⊎_elim
      (λ e. ap (λ x. get_or (with_line w row new xs) (at2 w x c) none) e ∙ (line_inside c none m ∙ sym (cond-true (eqb r row) _ _ (eq-eqb r row e))))
      (λ ne. line_outside r ne c none m ∙ sym (cond-false (eqb r row) _ _ (ne_eqb r row ne)))
      (cases_eq r row)

pub length_put_line : {X : Type 0} (xs : List X) (w row : ℕ) (new : List X) → length (put_line_after w row new xs) ≡ length xs
length_put_line xs w row new = ⊎_elim written refused (cases_Bool (is_written w row new xs))
  where
    written : is_written w row new xs ≡ true → length (put_line_after w row new xs) ≡ length xs
    written e =
        let s = and_parts (eqb (length new) w) (lies_inside w row (length xs)) e in
        ap length (cond-true (is_written w row new xs) (with_line w row new xs) xs e)
        ∙ length_with_line w row new xs (eqb-true (length new) w s.0) (leb-true (row * w + w) (length xs) s.1)

    refused : is_written w row new xs ≡ false → length (put_line_after w row new xs) ≡ length xs
    refused e = ap length (cond-false (is_written w row new xs) (with_line w row new xs) xs e)

-- lines that were written
module _ {X : Type 0} (w : ℕ) (new : ℕ → List X) (first : ℕ) (xs : List X) where
  -- a loop's step
  pub lines_more : (n : ℕ) (ys zs : List X) → ys ≡ with_lines w new first n xs → zs ≡ with_line w (first + n) (new n) ys → zs ≡ with_lines w new first (n + 1) xs
  lines_more n ys zs e h = rw add-one (h ∙ ap (with_line w (first + n) (new n)) e)

  pub length_lines : (n : ℕ) → Wide n w new → (first + n) * w ≤ length xs → length (with_lines w new first n xs) ≡ length xs
  length_lines zero long h = refl
  length_lines (suc n) long h =
      let room : (first + n) * w + w ≤ length xs = omega (arith, row_inside (first + n) (first + suc n) w (omega arith)) in
      let ih = length_lines n (λ k l. long k (omega arith)) (omega arith) in
      length_with_line w (first + n) (new n) (with_lines w new first n xs) (long n (omega arith)) (omega arith) ∙ ih

  last_fits : (n : ℕ) → Wide n w new → (first + suc n) * w ≤ length xs → (first + n) * w + w ≤ length (with_lines w new first n xs)
  last_fits n long h =
      let room : (first + n) * w + w ≤ length xs = omega (arith, row_inside (first + n) (first + suc n) w (omega arith)) in
      omega (arith, length_lines n long (omega arith))

  pub lines_outside : (n : ℕ) → Wide n w new → (first + n) * w ≤ length xs → (r : ℕ) → (r < first) ⊎ (first + n ≤ r) → (c : ℕ) (none : X) → c < w → get_or (with_lines w new first n xs) (at2 w r c) none ≡ get_or xs (at2 w r c) none
  lines_outside zero long h r o c none m = refl
  lines_outside (suc n) long h r o c none m =
      let narrow = row_inside (first + n) (first + suc n) w (omega arith) in
      line_outside w (first + n) (new n) (with_lines w new first n xs) (long n (omega arith)) (last_fits n (λ k l. long k (omega arith)) h) r (λ e. ⊎_elim (λ z. omega arith) (λ z. omega arith) o) c none m
      ∙ lines_outside n (λ k l. long k (omega arith)) (omega arith) r (⊎_elim (λ z. inl z) (λ z. inr (omega arith)) o) c none m

  pub lines_inside : (n : ℕ) → Wide n w new → (first + n) * w ≤ length xs → (k : ℕ) → k < n → (c : ℕ) (none : X) → c < w → get_or (with_lines w new first n xs) (at2 w (first + k) c) none ≡ get_or (new k) c none
  lines_inside zero long h k l c none m = absurd (omega arith)
  lines_inside (suc n) long h k l c none m =
      let narrow = row_inside (first + n) (first + suc n) w (omega arith) in
      ⊎_elim here (before (lines_inside n (λ j b. long j (omega arith)) (omega arith) k)) (cases_eq k n)
    where
      here : k ≡ n → get_or (with_lines w new first (suc n) xs) (at2 w (first + k) c) none ≡ get_or (new k) c none
      here e =
          subst (λ x. get_or (with_lines w new first (suc n) xs) (at2 w (first + x) c) none ≡ get_or (new x) c none) (sym e)
          (line_inside w (first + n) (new n) (with_lines w new first n xs) (long n (omega arith)) (last_fits n (λ j b. long j (omega arith)) h) c none m)

      before : (k < n → (c : ℕ) (none : X) → c < w → get_or (with_lines w new first n xs) (at2 w (first + k) c) none ≡ get_or (new k) c none) → (k ≡ n → ⊥) → get_or (with_lines w new first (suc n) xs) (at2 w (first + k) c) none ≡ get_or (new k) c none
      before ih ne =
          line_outside w (first + n) (new n) (with_lines w new first n xs) (long n (omega arith)) (last_fits n (λ j b. long j (omega arith)) h) (first + k) (λ e. ne (omega arith)) c none m
          ∙ ih (omega arith) c none m

-- a block of lines
module _ {X : Type 0} (xs : List X) (lines w block : ℕ) (new : ℕ → List X) (none : X) (long : Wide lines w new) (fits : (block * lines + lines) * w ≤ length xs) where
  pub block_inside : (l c : ℕ) → l < lines → c < w → get_or (with_lines w new (block * lines) lines xs) (at3 lines w block l c) none ≡ get_or (new l) c none
  block_inside l c p q = lines_inside w new (block * lines) xs lines long fits l p c none q

  pub block_outside : (b l c : ℕ) → (b ≡ block → ⊥) → l < lines → c < w → get_or (with_lines w new (block * lines) lines xs) (at3 lines w b l c) none ≡ get_or xs (at3 lines w b l c) none
  block_outside b l c ne p q = lines_outside w new (block * lines) xs lines long fits (at2 lines b l) (⊎_elim before after (cases_lt b block)) c none q
    where
      before : b < block → (at2 lines b l < block * lines) ⊎ (block * lines + lines ≤ at2 lines b l)
      before h = inl (omega (arith, row_inside b block lines h))

      after : block ≤ b → (at2 lines b l < block * lines) ⊎ (block * lines + lines ≤ at2 lines b l)
      after h = inr (let o : block < b = omega arith in omega (arith, row_inside block b lines o))

-- the sum of a line is the sum over its columns
module _ {X : Type 0} (f : X → ℕ) (none : X) where
  sum_front : (xs : List X) (n : ℕ) → n ≤ length xs → sum_to n (λ k. f (get_or xs k none)) ≡ sum_by f (take n xs)
  sum_front xs zero h = refl
  sum_front xs (suc n) h =
      let a = sum_front xs n (omega arith) in
      let b : sum_by f (take (suc n) xs) ≡ sum_by f (take n xs) + f (get_or xs n none) = rw add-one at (sum_by_more f xs n none (omega arith)) in
      omega arith

  pub line_sum : (w r : ℕ) (xs : List X) → r * w + w ≤ length xs → sum_by f (line w r xs) ≡ sum_to w (λ c. f (get_or xs (at2 w r c) none))
  line_sum w r xs h =
      let l = length_line w r xs h in
      sym (sum_same w _ _ (λ c m. sym (ap f (get_or_line w r c xs none m))) ∙ (sum_front (line w r xs) w (omega arith) ∙ ap (sum_by f) (take_all w (line w r xs) (omega arith))))

module _ {X : Type 0} (f : X → ℤ) (none : X) where
  sumℤ_front : (xs : List X) (n : ℕ) → n ≤ length xs → sumℤ_to n (λ k. f (get_or xs k none)) ≡ sumℤ_by f (take n xs)
  sumℤ_front xs zero h = refl
  sumℤ_front xs (suc n) h =
      let a = sumℤ_front xs n (omega arith) in
      let b : sumℤ_by f (take (suc n) xs) ≡ sumℤ_by f (take n xs) +ℤ f (get_or xs n none) = rw add-one at (fold_more (λ s x. s +ℤ f x) (pos 0) xs n none (omega arith)) in
      ap (λ s. s +ℤ f (get_or xs n none)) a ∙ sym b

  pub line_sumℤ : (w r : ℕ) (xs : List X) → r * w + w ≤ length xs → sumℤ_by f (line w r xs) ≡ sumℤ_to w (λ c. f (get_or xs (at2 w r c) none))
  line_sumℤ w r xs h =
      let l = length_line w r xs h in
      sym (sumℤ_same w _ _ (λ c m. sym (ap f (get_or_line w r c xs none m))) ∙ (sumℤ_front (line w r xs) w (omega arith) ∙ ap (sumℤ_by f) (take_all w (line w r xs) (omega arith))))

pub place_laws : (X : Type 0) → PlaceLaws X
place_laws X =
    record {
      inside2 = inside2;
      inside3 = inside3;
      same2 = same2;
      same3 = same3;
      frame2 = λ xs w row column new none l p r c q. frame2 xs w row column new none l p r c q;
      frame3 = λ xs lines w block row column new none i p r b l c q s. frame3 xs lines w block row column new none i p r b l c q s;
      in_line = λ w r c xs none h. get_or_line w r c xs none h;
      line_frame = λ xs w row new none long fits r c m. line_frame w row new xs long fits none r c m;
      block_inside = λ xs lines w block new none long fits l c p q. block_inside xs lines w block new none long fits l c p q;
      block_outside = λ xs lines w block new none long fits b l c ne p q. block_outside xs lines w block new none long fits b l c ne p q;
      set_keeps_length = λ xs i new. length-set xs i new;
      line_keeps_length = λ xs w row new long fits. length_with_line w row new xs long fits;
      put_keeps_length = λ xs w row new. length_put_line xs w row new;
      block_keeps_length = λ xs n w first new long fits. length_lines w new first xs n long fits;
      line_sum = λ f w r xs none h. line_sum f none w r xs h;
      line_sumℤ = λ f w r xs none h. line_sumℤ f none w r xs h;
    }
