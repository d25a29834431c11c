-- All inverses from that of the product, the last word's first; and the kept values by one inversion.
use mathlib.Core.Path.{◌≡◌, refl, sym, ap, subst, ◌∙◌}
use mathlib.Core.Logic.{◌≢◌}
use mathlib.Core.List.{List, [], ◌∷◌, ◌++◌}
use Prim.Native.Nat.{ℕ, zero, suc, ◌+◌, ◌*◌, ◌-◌, ◌%◌, ◌<◌, ◌≤◌}
use native.Mathlib.Nat.{mul-zero, mod-lt, zero-mod}
use native.Mathlib.Decide.{ℕ_discrete}
use native.Mathlib.Omega.{arith}
use lib.Dec.{eqb}
use lib.ListN.{length, get_or, take, set, replicate, length-set, length-map, length-append, length-replicate, get_or-eq_default}
use lib.Seq.{take_all, get_or-set_same, get_or-set_other, ext_get_or}
use borrow.Author.Tests.{eq-eqb, ne_eqb}
use Rattle.modular.specs.Arithmetic.{mul, inverse}
use Rattle.modular.specs.Congruence.{◌≈⟨◌⟩◌}
use Rattle.modular.specs.PrimeField.{PrimeField}
use Rattle.modular.proofs.Congruence.{refl≈, eq≈, sym≈, trans≈, mod≈, mul≈, rest≈}
use Rattle.modular.proofs.PrimeField.{prime_laws}
use Rattle.modular.proofs.Ring.{var, num, ◌⊗◌, same?, ring_by, by, nothing}
use Rattle.poseidon2.specs.Layers.{sum}
use Rattle.poseidon2.specs.Inverse.{inverses, zeros, total_inverse}
use Rattle.poseidon2.specs.Statements.{Words}
use Rattle.kept.specs.Kept.{padded, kept_of}
use Rattle.kept.specs.Products.{or_one, product_of, ProductsOf}
use Rattle.kept.specs.declared.Products.{Products}
use Rattle.kept.proofs.Multiplying.{as_itself, product_more, above_zero, product_nonzero, words_nonzero, unit}

zeros_at : (n i : ℕ) → get_or {A = ℕ} (replicate n 0) i 0 ≡ 0
zeros_at zero i = refl
zeros_at (suc n) zero = refl
zeros_at (suc n) (suc i) = zeros_at n i

-- zeros behind a list are what its places beyond the last give
zeros_behind : (m : ℕ) (xs : List ℕ) (i : ℕ) → get_or (xs ++ replicate m 0) i 0 ≡ get_or xs i 0
zeros_behind m [] i = zeros_at m i
zeros_behind m (x ∷ xs) zero = refl
zeros_behind m (x ∷ xs) (suc i) = zeros_behind m xs i

padded_at : (n : ℕ) (xs : List ℕ) (i : ℕ) → get_or (padded n xs) i 0 ≡ get_or xs i 0
unfolding padded
padded_at n xs i = zeros_behind (n - length xs) xs i

padded_length : (n : ℕ) (xs : List ℕ) → length xs ≤ n → length (padded n xs) ≡ n
unfolding padded
padded_length n xs h = length-append xs (replicate (n - length xs) 0) ∙ ap (λ (k : ℕ). length xs + k) (length-replicate (n - length xs) 0) ∙ omega arith

module _ (p : ℕ) (F : PrimeField p) where
  -- a number whose product with a word is 1
  pub is_inverse : (d r : ℕ) → d ≢ 0 → d < p → r < p → r * d ≈⟨ p ⟩ 1 → r ≡ inverse p d
  unfolding mul
  is_inverse d r o w v e =
      (prime_laws p F).inverses.only d r (omega arith) w v (ap (λ (n : ℕ). n % p) (native.Mathlib.Nat.mul_comm d r) ∙ rest≈ (omega (arith, F.fermat.above)) e)

  module _ (D : List ℕ) where
    inverses_at : (i : ℕ) → get_or (inverses p D) i 0 ≡ inverse p (get_or D i 0)
    unfolding inverses
    inverses_at i = of D i
      where
        of : (xs : List ℕ) (i : ℕ) → get_or (inverses p xs) i 0 ≡ inverse p (get_or xs i 0)
        of [] i = sym (prime_laws p F).inverses.none
        of (x ∷ xs) zero = refl
        of (x ∷ xs) (suc i) = of xs i

    -- those from i on are made, and the number that is left is the inverse of the product of those before
    pub record Made (i : ℕ) (made : List ℕ) (left : ℕ) : Type 0 where
      pub long : length made ≡ 12
      pub at : (j : ℕ) → i ≤ j → get_or made j 0 ≡ inverse p (get_or D j 0)
      pub rest : left * product_of (take i D) ≈⟨ p ⟩ 1

    pub none_made : (rest : ℕ) → rest * product_of D ≈⟨ p ⟩ 1 → Made (length D) (replicate 12 0) rest
    none_made rest e = record {
      long = refl;
      at = λ j h. zeros_at 12 j ∙ sym (ap (inverse p) (get_or-eq_default D 0 {n = j} h) ∙ (prime_laws p F).inverses.none);
      rest = trans≈ (eq≈ (ap (λ (l : List ℕ). rest * product_of l) (take_all (length D) D (omega arith)))) e;
    }

    module _ (i : ℕ) (made : List ℕ) (left b : ℕ) (h : i < length D) (M : Made (i + 1) made left) where
      abbrev d : ℕ
      d = get_or D i 0

      abbrev P : ℕ
      P = product_of (take i D)

      -- what is left, times the product of the words before, times the word
      pub to_one : b ≈⟨ p ⟩ P → d ≢ 0 → left * b * d ≈⟨ p ⟩ 1
      unfolding same?
      to_one e o =
          let rest : left * (P * d) ≈⟨ p ⟩ 1 = trans≈ (eq≈ (ap (λ (n : ℕ). left * n) (sym (product_more D i h ∙ ap (λ (n : ℕ). P * n) (as_itself d o))))) M.rest in
          ring_by p (left ∷ b ∷ d ∷ P ∷ []) (var 0 ⊗ var 1 ⊗ var 2) (num 1)
          (by (var 0 ⊗ var 2) (var 1) (var 3) e (by (num 1) (var 0 ⊗ (var 3 ⊗ var 2)) (num 1) rest nothing)) (above_zero p F) tt

      pub one_more_lem : (e left' : ℕ) → i < 12 → e ≡ inverse p d → left' ≈⟨ p ⟩ left * or_one d → Made i (set made i e) left'
      unfolding same?
      one_more_lem e left' few f g =
          let rest : left * (P * or_one d) ≈⟨ p ⟩ 1 = trans≈ (eq≈ (ap (λ (n : ℕ). left * n) (sym (product_more D i h)))) M.rest in
          record {
            long = length-set made i e ∙ M.long;
            at = at_more;
            rest = ring_by p (left ∷ left' ∷ or_one d ∷ P ∷ []) (var 1 ⊗ var 3) (num 1)
                (by (var 3) (var 1) (var 0 ⊗ var 2) g (by (num 1) (var 0 ⊗ (var 3 ⊗ var 2)) (num 1) rest nothing)) (above_zero p F) tt;
          }
        where
          at_more : (j : ℕ) → i ≤ j → get_or (set made i e) j 0 ≡ inverse p (get_or D j 0)
          at_more j b = of (ℕ_discrete j i)
            where
              of : Dec (j ≡ i) → get_or (set made i e) j 0 ≡ inverse p (get_or D j 0)
              of (yes s) = ap (λ (k : ℕ). get_or (set made i e) k 0) s ∙ get_or-set_same made i e 0 (omega (arith, M.long)) ∙ f ∙ ap (λ (k : ℕ). inverse p (get_or D k 0)) (sym s)
              of (no o) = get_or-set_other made i j e 0 o ∙ M.at j (omega arith)

    pub all_made : (made : List ℕ) (left : ℕ) → length D ≤ 12 → Made 0 made left → made ≡ padded 12 (inverses p D)
    unfolding inverses
    all_made made left few M =
        let n : length (inverses p D) ≤ 12 = omega (arith, length-map D (inverse p)) in
        ext_get_or 0 made (padded 12 (inverses p D)) (M.long ∙ sym (padded_length 12 (inverses p D) n))
        (λ i h. M.at i (omega arith) ∙ sym (padded_at 12 (inverses p D) i ∙ inverses_at i))

    -- ---- the kept values

    module _ (w : Words p D) (r : Products) (R : ProductsOf p D (length D) r) where
      abbrev whole : ℕ
      whole = product_of D

      all_is : r.all ≈⟨ p ⟩ whole
      all_is = trans≈ R.all (eq≈ (ap product_of (take_all (length D) D (omega arith))))

      pub all_nonzero : r.all % p ≢ 0
      all_nonzero e = words_nonzero p F D w (sym all_is.same ∙ e)

      -- where a word is 0: by the inverse of the product
      pub rest_alone : (x : ℕ) → x ≡ inverse p (r.all % p) → x * whole ≈⟨ p ⟩ 1
      unfolding same?
      rest_alone x e =
          let u : r.all % p * x ≈⟨ p ⟩ 1 = trans≈ (eq≈ (ap (λ (n : ℕ). r.all % p * n) e)) (unit p F (r.all % p) all_nonzero (mod-lt r.all (above_zero p F))) in
          ring_by p (x ∷ whole ∷ r.all % p ∷ []) (var 0 ⊗ var 1) (num 1)
          (by (var 0) (var 1) (var 2) (sym≈ (trans≈ (mod≈ r.all) all_is)) (by (num 1) (var 2 ⊗ var 0) (num 1) u nothing)) (above_zero p F) tt

      -- where none is: by the inverse of two products' product
      module _ (none : zeros D ≡ 0) where
        abbrev S : ℕ
        S = 1 + sum (inverses p D)

        scaled_is : r.scaled ≈⟨ p ⟩ whole * S
        scaled_is =
            let e = take_all (length D) D (omega arith) in
            trans≈ (R.scaled (ap zeros e ∙ none)) (eq≈ (ap (λ (l : List ℕ). product_of l * (1 + sum (inverses p l))) e))

        scaled_nonzero : S % p ≢ 0 → r.scaled % p ≢ 0
        scaled_nonzero o e = product_nonzero p F whole S (words_nonzero p F D w) o (sym scaled_is.same ∙ e)

        -- so the sum is 0 where that product is
        pub scaled_decides : eqb (r.scaled % p) 0 ≡ eqb (S % p) 0
        scaled_decides = of (ℕ_discrete (S % p) 0)
          where
            of : Dec (S % p ≡ 0) → eqb (r.scaled % p) 0 ≡ eqb (S % p) 0
            of (yes e) =
                let gone : r.scaled % p ≡ 0 = scaled_is.same ∙ (mul≈ (refl≈ {a = whole}) (record { same = e ∙ sym (zero-mod p) })).same ∙ ap (λ (n : ℕ). n % p) (mul-zero whole) ∙ zero-mod p in
                eq-eqb (r.scaled % p) 0 gone ∙ sym (eq-eqb (S % p) 0 e)
            of (no o) = ne_eqb (r.scaled % p) 0 (scaled_nonzero o) ∙ sym (ne_eqb (S % p) 0 o)

        module _ (sum_nonzero : 0 < S % p) where
          pub both_nonzero : mul p r.all r.scaled ≢ 0
          unfolding mul
          both_nonzero = product_nonzero p F r.all r.scaled all_nonzero (scaled_nonzero (λ z. absurd (omega arith)))

          module _ (x : ℕ) (e : x ≡ inverse p (mul p r.all r.scaled)) where
            unit_x : r.all * r.scaled * x ≈⟨ p ⟩ 1
            unfolding mul
            unit_x =
                trans≈ (mul≈ (sym≈ (mod≈ (r.all * r.scaled))) (eq≈ e))
                (unit p F (mul p r.all r.scaled) both_nonzero (mod-lt (r.all * r.scaled) (above_zero p F)))

            pub rest_of : (rest : ℕ) → rest ≡ mul p x r.scaled → rest * whole ≈⟨ p ⟩ 1
            unfolding mul same?
            rest_of rest f =
                ring_by p (rest ∷ whole ∷ x ∷ r.all ∷ r.scaled ∷ []) (var 0 ⊗ var 1) (num 1)
                (by (var 1) (var 0) (var 2 ⊗ var 4) (trans≈ (eq≈ f) (mod≈ (x * r.scaled)))
                (by (var 2 ⊗ var 4) (var 1) (var 3) (sym≈ all_is) (by (num 1) (var 3 ⊗ var 4 ⊗ var 2) (num 1) unit_x nothing))) (above_zero p F) tt

            pub total_of : (k : ℕ) → k ≡ mul p (mul p x r.all) r.all → k ≡ total_inverse p D
            unfolding mul same? total_inverse
            total_of k f =
                let v : k < p = subst (λ (n : ℕ). n < p) (sym f) (mod-lt (mul p x r.all * r.all) (above_zero p F)) in
                let made : k ≈⟨ p ⟩ x * r.all * r.all = trans≈ (eq≈ f) (trans≈ (mod≈ (mul p x r.all * r.all)) (mul≈ (mod≈ (x * r.all)) (refl≈ {a = r.all}))) in
                let one : k * (S % p) ≈⟨ p ⟩ 1 =
                ring_by p (k ∷ S % p ∷ S ∷ x ∷ r.all ∷ r.scaled ∷ whole ∷ []) (var 0 ⊗ var 1) (num 1)
                (by (var 0) (var 1) (var 2) (mod≈ S) (by (var 2) (var 0) (var 3 ⊗ var 4 ⊗ var 4) made
                (by (var 2 ⊗ var 3 ⊗ var 4) (var 4) (var 6) all_is (by (var 3 ⊗ var 4) (var 6 ⊗ var 2) (var 5) (sym≈ scaled_is) (by (num 1) (var 4 ⊗ var 5 ⊗ var 3) (num 1) unit_x nothing))))) (above_zero p F) tt in
                is_inverse (S % p) k (λ z. absurd (omega arith)) (mod-lt S (above_zero p F)) v one
                ∙ sym (rw (eq-eqb (zeros D) 0 none) refl)

    pub total_none : zeros D ≢ 0 → 0 ≡ total_inverse p D
    unfolding total_inverse
    total_none o = rw (ne_eqb (zeros D) 0 o) refl

    pub of_parts : {es : List ℕ} {k : ℕ} → es ≡ padded 12 (inverses p D) → k ≡ total_inverse p D → record { inverses = es; total_inverse = k } ≡ kept_of p D
    unfolding kept_of
    of_parts e f = λ i. record { inverses = e i; total_inverse = f i }
