-- What a message can be read from: its padding ends at the last byte that is not 0, and its contents begin after the first zero byte.
use mathlib.Core.Path.{◌≡◌, refl, sym, ap, ap₂, ◌∙◌}
use mathlib.Core.List.{List, [], ◌∷◌, ◌++◌, append_assoc}
use Prim.Native.Nat.{ℕ, zero, suc, ◌<◌}
use native.Mathlib.Omega.{arith}
use lib.ListN.{length, get_or, drop, replicate}
use Rattle.octets.specs.Numbers.{decimal}
use Rattle.octets.proofs.Decimal.{decimal_digits}
use Rattle.blobs.specs.Blob.{blob_head, message, shortfall, padded_to}

-- two lists that are equal have the same first number, and the same others
heads : {x y : ℕ} {xs ys : List ℕ} → x ∷ xs ≡ y ∷ ys → x ≡ y
heads e = ap (λ (zs : List ℕ). get_or zs 0 0) e

tails : {x y : ℕ} {xs ys : List ℕ} → x ∷ xs ≡ y ∷ ys → xs ≡ ys
tails e = ap (drop 1) e

cons-both : {x y : ℕ} {xs ys : List ℕ} → x ≡ y → xs ≡ ys → x ∷ xs ≡ y ∷ ys
cons-both e f = ap₂ (λ (z : ℕ) (zs : List ℕ). z ∷ zs) e f

-- zeros have no 1 among them
no_mark : (i : ℕ) (xs ys : List ℕ) → replicate i 0 ≡ xs ++ (1 ∷ ys) → ⊥
no_mark zero [] ys e = absurd (omega (arith, ap length e))
no_mark zero (x ∷ xs) ys e = absurd (omega (arith, ap length e))
no_mark (suc i) [] ys e = absurd (omega (arith, heads e))
no_mark (suc i) (x ∷ xs) ys e = no_mark i xs ys (tails e)

-- The list before the last 1 that zeros alone follow.
before_mark : (xs ys : List ℕ) (i j : ℕ) → xs ++ (1 ∷ replicate i 0) ≡ ys ++ (1 ∷ replicate j 0) → xs ≡ ys
before_mark [] [] i j e = refl
before_mark [] (y ∷ ys) i j e = absurd (no_mark i ys (replicate j 0) (tails e))
before_mark (x ∷ xs) [] i j e = absurd (no_mark j xs (replicate i 0) (sym (tails e)))
before_mark (x ∷ xs) (y ∷ ys) i j e = cons-both (heads e) (before_mark xs ys i j (tails e))

-- the zero bytes behind a list that is marked
abbrev zeros : ℕ → List ℕ → ℕ
zeros m xs = shortfall m (length (xs ++ (1 ∷ [])))

pub padding_apart : (m : ℕ) (xs ys : List ℕ) → padded_to m xs ≡ padded_to m ys → xs ≡ ys
unfolding padded_to
padding_apart m xs ys e =
    before_mark xs ys (zeros m xs) (zeros m ys)
    (sym (append_assoc xs (1 ∷ []) (replicate (zeros m xs) 0)) ∙ e ∙ append_assoc ys (1 ∷ []) (replicate (zeros m ys) 0))

-- The list after the first 0, where what stands before it has none.
after_zero : (ds es xs ys : List ℕ) → ((i : ℕ) → i < length ds → 0 < get_or ds i 0) → ((i : ℕ) → i < length es → 0 < get_or es i 0)
    → ds ++ (0 ∷ xs) ≡ es ++ (0 ∷ ys) → xs ≡ ys
after_zero [] [] xs ys h g e = tails e
after_zero [] (b ∷ es) xs ys h g e = absurd (omega (arith, heads e, g 0 (omega arith)))
after_zero (a ∷ ds) [] xs ys h g e = absurd (omega (arith, heads e, h 0 (omega arith)))
after_zero (a ∷ ds) (b ∷ es) xs ys h g e = after_zero ds es xs ys (λ i k. h (suc i) (omega arith)) (λ i k. g (suc i) (omega arith)) (tails e)

-- a length in decimal has no zero byte
no_zero : (n i : ℕ) → i < length (decimal n) → 0 < get_or (decimal n) i 0
no_zero n i h = omega (arith, (decimal_digits n i h).0)

pub message_apart : (xs ys : List ℕ) → message xs ≡ message ys → xs ≡ ys
unfolding message blob_head
message_apart xs ys e =
    after_zero (decimal (length xs)) (decimal (length ys)) xs ys (no_zero (length xs)) (no_zero (length ys))
    (sym (append_assoc (decimal (length xs)) (0 ∷ []) xs) ∙ ap (drop 5) e ∙ append_assoc (decimal (length ys)) (0 ∷ []) ys)
