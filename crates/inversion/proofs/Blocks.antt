-- M_E undone by its blocks of four.
use mathlib.Core.Path.{◌≡◌, refl, sym, ap, ◌∙◌}
use mathlib.Core.List.{List, [], ◌∷◌, map}
use Prim.Native.Nat.{ℕ, ◌+◌, ◌*◌, ◌%◌, ◌<◌}
use native.Mathlib.Nat.{add-zero, mod-eq_of_lt}
use native.Mathlib.Omega.{arith}
use lib.ListN.{length, get_or}
use Rattle.modular.specs.Arithmetic.{add, inverse}
use Rattle.poseidon2.specs.Layers.{add_lists, blocks, join_blocks, sum_blocks, add_to_each}
use Rattle.poseidon2.specs.Inverse.{negative, scaled, unm4, unmixed, unexternal}
use Rattle.poseidon2.specs.Statements.{Width, Words}
use Rattle.poseidon2.proofs.Words.{cons_eq}
use Rattle.poseidon2.proofs.External.{blocks_length, by_width}

-- four numbers by their places
pub four : (xs : List ℕ) → length xs ≡ 4 → xs ≡ get_or xs 0 0 ∷ get_or xs 1 0 ∷ get_or xs 2 0 ∷ get_or xs 3 0 ∷ []
four [] l = absurd (omega arith)
four (a ∷ []) l = absurd (omega arith)
four (a ∷ b ∷ []) l = absurd (omega arith)
four (a ∷ b ∷ c ∷ []) l = absurd (omega arith)
four (a ∷ b ∷ c ∷ d ∷ []) l = refl
four (a ∷ b ∷ c ∷ d ∷ e ∷ xs) l = absurd (omega arith)

-- ---- M4 undone block by block, with s added before

module _ (p : ℕ) (s : List ℕ) where
  abbrev pub each : List ℕ → List ℕ
  each xs = join_blocks (map (unm4 p) (add_to_each p s (blocks xs)))

-- ---- M_E undone

pub whole_width : {t : ℕ} → Width t → t % 4 ≡ 0
whole_width w = by_width (λ t. t % 4 ≡ 0) w refl refl refl

pub add-zeros : {p : ℕ} (x : ℕ) → x < p → add p x 0 ≡ x
unfolding add
add-zeros {p} x h = ap (λ (n : ℕ). n % p) (add-zero x) ∙ mod-eq_of_lt h

-- a block alone got nothing from others
pub unexternal_alone : {p : ℕ} (xs : List ℕ) → length xs ≡ 4 → Words p xs → each p (0 ∷ 0 ∷ 0 ∷ 0 ∷ []) xs ≡ unexternal p xs
unfolding unexternal unmixed blocks add_to_each add_lists
unexternal_alone {p} [] l w = absurd (omega arith)
unexternal_alone {p} (a ∷ []) l w = absurd (omega arith)
unexternal_alone {p} (a ∷ b ∷ []) l w = absurd (omega arith)
unexternal_alone {p} (a ∷ b ∷ c ∷ []) l w = absurd (omega arith)
unexternal_alone {p} (a ∷ b ∷ c ∷ d ∷ []) l w =
    ap (λ (x : List ℕ). join_blocks (unm4 p x ∷ []))
    (cons_eq (add-zeros a (w.at 0)) (cons_eq (add-zeros b (w.at 1)) (cons_eq (add-zeros c (w.at 2)) (cons_eq (add-zeros d (w.at 3)) refl))))
unexternal_alone {p} (a ∷ b ∷ c ∷ d ∷ e ∷ xs) l w = absurd (omega arith)

-- minus the (1 + n)-th part of the sum of n blocks
abbrev pub part : ℕ → ℕ → List ℕ → List ℕ
part p n xs = scaled p (negative p (inverse p ((1 + n) % p))) (sum_blocks p (blocks xs))

unmixed_several : (p : ℕ) (bs : List (List ℕ)) → 1 < length bs
    → unmixed p bs ≡ add_to_each p (scaled p (negative p (inverse p ((1 + length bs) % p))) (sum_blocks p bs)) bs
unfolding unmixed
unmixed_several p [] h = absurd (omega arith)
unmixed_several p (b ∷ []) h = absurd (omega arith)
unmixed_several p (b ∷ c ∷ bs) h = refl

pub unexternal_several : (p n : ℕ) (xs : List ℕ) → length xs ≡ 4 * n → 1 < n → each p (part p n xs) xs ≡ unexternal p xs
unfolding unexternal
unexternal_several p n xs l h =
    let e : length (blocks xs) ≡ n = blocks_length n xs l in
    ap (λ (bs : List (List ℕ)). join_blocks (map (unm4 p) bs))
    (ap (λ (m : ℕ). add_to_each p (part p m xs) (blocks xs)) (sym e) ∙ sym (unmixed_several p (blocks xs) (omega arith)))
