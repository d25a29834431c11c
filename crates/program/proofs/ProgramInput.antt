-- The numbers of the program's input: 8 bytes as one sum, one number more, and parts that end with the list.
use mathlib.Core.Path.{◌≡◌, sym, ap, ap₂, ◌∙◌}
use mathlib.Core.List.{List, [], ◌∷◌, ◌++◌}
use Prim.Native.Nat.{ℕ, ◌+◌, ◌*◌, ◌-◌, ◌/◌, ◌≤◌, ◌<◌, min}
use native.Mathlib.Nat.{div-lt_iff_lt-mul, le-div_iff_mul-le, min-eq_left, min-eq_right, pos_of_ne-zero, mul-zero}
use native.Mathlib.Numerals.{add-one}
use native.Mathlib.Decide.{dec_lt}
use native.Mathlib.Omega.{arith}
use lib.ListN.{length, take, drop, set, length-drop, drop_of_length-le}
use lib.Seq.{take_all, take-suc-set}
use Rattle.parameters.specs.Refusals.{constant_count}
use Rattle.parameters.specs.ParameterSet.{validation}
use Rattle.octets.specs.Numbers.{little_endian, numbers_of}
use Rattle.octets.proofs.LittleEndian.{numbers_more}

-- What is cut off at a list's length is the same part.
pub first_of : (n : ℕ) (xs : List ℕ) → take (min n (length xs)) xs ≡ take n xs
first_of n xs = by (dec_lt n (length xs))
  where
    by : Dec (n < length xs) → take (min n (length xs)) xs ≡ take n xs
    by (yes h) = ap (λ (k : ℕ). take k xs) (min-eq_left {n = n} {m = length xs} (omega arith))
    by (no h) = ap (λ (k : ℕ). take k xs) (min-eq_right {n = length xs} {m = n} (omega arith)) ∙ take_all (length xs) xs (omega arith) ∙ sym (take_all n xs (omega arith))

pub decoded_more : (out bytes : List ℕ) (i v : ℕ) → i < length out → v ≡ little_endian (take 8 (drop (8 * i) bytes)) → take i out ≡ numbers_of 8 i bytes
    → take (i + 1) (set out i v) ≡ numbers_of 8 (i + 1) bytes
decoded_more out bytes i v h e d =
    rw (add-one, take-suc-set) (ap (λ (xs : List ℕ). xs ++ (v ∷ [])) d ∙ ap (λ (w : ℕ). numbers_of 8 i bytes ++ (w ∷ [])) e ∙ sym (numbers_more 8 i bytes))

-- The part of a list from n on, to its end.
pub to_end : (n : ℕ) (xs : List ℕ) → take (length xs - n) (drop n xs) ≡ drop n xs
to_end n xs = take_all (length xs - n) (drop n xs) (omega (arith, length-drop n xs))

-- The same part of the same list, and the same numbers and lists to validate.
pub same_take : {m n : ℕ} {xs ys : List ℕ} → m ≡ n → xs ≡ ys → take m xs ≡ take n ys
same_take e f = ap₂ (λ (k : ℕ) (zs : List ℕ). take k zs) e f

pub same_validation : (p : ℕ) {t t' l l' h h' rf rf' rp rp' : ℕ} {D D' C C' : List ℕ} → t ≡ t' → l ≡ l' → h ≡ h' → rf ≡ rf' → rp ≡ rp' → D ≡ D' → C ≡ C'
    → validation p t l h rf rp D C ≡ validation p t' l' h' rf' rp' D' C'
same_validation p a b c d e f g = rw (a, b, c, d, e, f, g)
