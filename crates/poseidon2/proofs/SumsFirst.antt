-- M_E by its halves, for any p: M4 of a sum is the sum of the images, so that the blocks may be summed first.
use mathlib.Core.Path.{◌≡◌, refl, sym, ap, ap₂, ◌∙◌}
use mathlib.Core.List.{List, [], ◌∷◌, map}
use Prim.Native.Nat.{ℕ, ◌+◌, ◌*◌, ◌%◌, ◌≤◌}
use native.Mathlib.Nat.{mul-add, zero-mod}
use native.Mathlib.Omega.{arith}
use lib.ListN.{length, get_or, drop}
use Rattle.modular.specs.Arithmetic.{add}
use Rattle.modular.specs.Congruence.{◌≈⟨◌⟩◌}
use Rattle.modular.proofs.Congruence.{refl≈, eq≈, trans≈, mod≈, add≈, mul≈}
use Rattle.poseidon2.specs.Layers.{add_lists, dot, rows_times, m4_rows, m4, blocks, join_blocks, sum_blocks, add_to_each, mixed, external, sums, m4_blocks}
use Rattle.poseidon2.specs.Statements.{SumsFirst}
use Rattle.poseidon2.proofs.External.{Four, four, Fours, no_four, and_four, four_eq, blocks_join}

blocks_fours : (xs : List ℕ) → Fours (blocks xs)
unfolding blocks
blocks_fours [] = no_four
blocks_fours (a ∷ []) = no_four
blocks_fours (a ∷ b ∷ []) = no_four
blocks_fours (a ∷ b ∷ c ∷ []) = no_four
blocks_fours (a ∷ b ∷ c ∷ d ∷ xs) = and_four (four a b c d) (blocks_fours xs)

module _ (p : ℕ) where
  -- ---- what the halves make of blocks are blocks

  m4_fours : (bs : List (List ℕ)) → Fours (map (m4 p) bs)
  unfolding m4 rows_times m4_rows
  m4_fours [] = no_four
  m4_fours (b ∷ bs) = and_four (four _ _ _ _) (m4_fours bs)

  add_to_each-fours : (s : List ℕ) {bs : List (List ℕ)} → Fours bs → Fours (add_to_each p s bs)
  unfolding add_to_each add_lists
  add_to_each-fours s no_four = no_four
  add_to_each-fours s (and_four (four a b c d) u) = and_four (four _ _ _ _) (add_to_each-fours s u)

  mixed_fours : {bs : List (List ℕ)} → Fours bs → Fours (mixed p bs)
  unfolding mixed
  mixed_fours no_four = no_four
  mixed_fours (and_four f no_four) = and_four f no_four
  mixed_fours (and_four {b} f (and_four {b = c} {bs} g u)) = add_to_each-fours (sum_blocks p (b ∷ c ∷ bs)) (and_four f (and_four g u))

  -- ---- M4 of a sum

  dot_sum : (row b s : List ℕ) → length row ≤ length b → dot row (add_lists p b s) ≈⟨ p ⟩ dot row b + dot row s
  unfolding dot add_lists add
  dot_sum [] b s h = refl≈
  dot_sum (a ∷ row) [] s h = absurd (omega arith)
  dot_sum (a ∷ row) (x ∷ b) s h =
      trans≈ (add≈ (mul≈ (refl≈ {a = a}) (mod≈ (x + get_or s 0 0))) (dot_sum row b (drop 1 s) (omega arith)))
      (eq≈ (go x (get_or s 0 0) (dot row b) (dot row (drop 1 s))))
    where
      go : (x y u v : ℕ) → a * (x + y) + (u + v) ≡ a * x + u + (a * y + v)
      go x y u v = omega (arith, mul-add a x y)

  row_sum : (row b s : List ℕ) → length row ≤ length b → dot row (add_lists p b s) % p ≡ add p (dot row b % p) (dot row s % p)
  unfolding add
  row_sum row b s h = (dot_sum row b s h).same ∙ sym (add≈ (mod≈ (dot row b)) (mod≈ (dot row s))).same

  m4_sum : {b : List ℕ} → Four b → (s : List ℕ) → m4 p (add_lists p b s) ≡ add_lists p (m4 p b) (m4 p s)
  unfolding m4 rows_times m4_rows add_lists
  m4_sum (four a b c d) s =
      let x = a ∷ b ∷ c ∷ d ∷ [] in
      four_eq (row_sum (5 ∷ 7 ∷ 1 ∷ 3 ∷ []) x s (omega arith)) (row_sum (4 ∷ 6 ∷ 1 ∷ 1 ∷ []) x s (omega arith))
      (row_sum (1 ∷ 3 ∷ 5 ∷ 7 ∷ []) x s (omega arith)) (row_sum (1 ∷ 1 ∷ 4 ∷ 6 ∷ []) x s (omega arith))

  m4_none : m4 p (0 ∷ 0 ∷ 0 ∷ 0 ∷ []) ≡ 0 ∷ 0 ∷ 0 ∷ 0 ∷ []
  unfolding m4 rows_times m4_rows dot
  m4_none = four_eq (zero-mod p) (zero-mod p) (zero-mod p) (zero-mod p)

  -- of the sum of all blocks,
  m4_total : {bs : List (List ℕ)} → Fours bs → m4 p (sum_blocks p bs) ≡ sum_blocks p (map (m4 p) bs)
  unfolding sum_blocks
  m4_total no_four = m4_none
  m4_total (and_four {b} {bs} f u) = m4_sum f (sum_blocks p bs) ∙ ap (add_lists p (m4 p b)) (m4_total u)

  -- of a sum in each block
  m4_each : (s : List ℕ) {bs : List (List ℕ)} → Fours bs → map (m4 p) (add_to_each p s bs) ≡ add_to_each p (m4 p s) (map (m4 p) bs)
  unfolding add_to_each
  m4_each s no_four = refl
  m4_each s (and_four f u) = ap₂ (λ (x : List ℕ) (y : List (List ℕ)). x ∷ y) (m4_sum f s) (m4_each s u)

  m4_mixed : {bs : List (List ℕ)} → Fours bs → map (m4 p) (mixed p bs) ≡ mixed p (map (m4 p) bs)
  unfolding mixed
  m4_mixed no_four = refl
  m4_mixed (and_four f no_four) = refl
  m4_mixed (and_four {b} f (and_four {b = c} {bs} g u)) =
      let v : Fours (b ∷ c ∷ bs) = and_four f (and_four g u) in
      m4_each (sum_blocks p (b ∷ c ∷ bs)) v ∙ ap (λ (s : List ℕ). add_to_each p s (map (m4 p) (b ∷ c ∷ bs))) (m4_total v)

  -- ---- the halves one after the other

  pub sums_then_m4_lem : (xs : List ℕ) → m4_blocks p (sums p xs) ≡ external p xs
  unfolding m4_blocks sums external
  sums_then_m4_lem xs =
      ap (λ (bs : List (List ℕ)). join_blocks (map (m4 p) bs)) (blocks_join (mixed_fours (blocks_fours xs)))
      ∙ ap join_blocks (m4_mixed (blocks_fours xs))

  m4_then_sums_lem : (xs : List ℕ) → sums p (m4_blocks p xs) ≡ external p xs
  unfolding m4_blocks sums external
  m4_then_sums_lem xs = ap (λ (bs : List (List ℕ)). join_blocks (mixed p bs)) (blocks_join (m4_fours (blocks xs)))

  pub block_alone : (xs : List ℕ) → length xs ≡ 4 → sums p xs ≡ xs
  unfolding sums blocks mixed join_blocks
  block_alone [] l = absurd (omega arith)
  block_alone (a ∷ []) l = absurd (omega arith)
  block_alone (a ∷ b ∷ []) l = absurd (omega arith)
  block_alone (a ∷ b ∷ c ∷ []) l = absurd (omega arith)
  block_alone (a ∷ b ∷ c ∷ d ∷ []) l = refl
  block_alone (a ∷ b ∷ c ∷ d ∷ e ∷ xs) l = absurd (omega arith)

  pub sums_first : SumsFirst p
  sums_first = record { sums_then_m4 = sums_then_m4_lem; m4_then_sums = m4_then_sums_lem; alone = block_alone }
