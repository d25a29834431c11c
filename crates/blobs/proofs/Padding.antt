-- Padding: how many zero bytes it has, that they are the fewest, and how long a padded list is.
use mathlib.Core.Path.{◌≡◌, ap, ◌∙◌}
use mathlib.Core.List.{List, [], ◌∷◌, ◌++◌}
use Prim.Native.Nat.{ℕ, ◌+◌, ◌*◌, ◌-◌, ◌/◌, ◌%◌, ◌≤◌, ◌<◌}
use native.Mathlib.Nat.{add-mul-mod_self_left, mod-eq_of_lt, mod-lt, div-add-mod, mod_self, mul-mod_right, mul-add, mul-one}
use native.Mathlib.Decide.{dec_lt}
use native.Mathlib.Omega.{arith}
use lib.ListN.{length, replicate, length-append, length-replicate}
use Rattle.blobs.specs.Blob.{shortfall, padded_to}
use Rattle.blobs.specs.Statements.{Fewest}

-- n is s and a multiple of m
remainder : (n m k s : ℕ) → s < m → n ≡ s + m * k → n % m ≡ s
remainder n m k s h e = ap (λ (a : ℕ). a % m) e ∙ add-mul-mod_self_left s m k ∙ mod-eq_of_lt h

-- what is wanting after s numbers beyond a multiple, and after none
wanting : (n m k s : ℕ) → 0 < s → s < m → n ≡ s + m * k → shortfall m n ≡ m - s
unfolding shortfall
wanting n m k s pos h e = ap (λ (a : ℕ). (m - a) % m) (remainder n m k s h e) ∙ mod-eq_of_lt (omega arith)

complete : (n m k : ℕ) → 0 < m → n ≡ m * k → shortfall m n ≡ 0
unfolding shortfall
complete n m k pos e =
    let none : m - 0 ≡ m = omega arith in
    ap (λ (a : ℕ). (m - a) % m) (remainder n m k 0 pos (omega arith)) ∙ ap (λ (a : ℕ). a % m) none ∙ mod_self m

-- The zero bytes are the fewest.
pub fewest : (m n : ℕ) → 0 < m → Fewest m n
fewest m n pos = by (dec_lt 0 (n % m))
  where
    whole : m * (n / m) + n % m ≡ n
    whole = div-add-mod n m

    by : Dec (0 < n % m) → Fewest m n
    by (yes some) =
        let wants : shortfall m n ≡ m - n % m = wanting n m (n / m) (n % m) some (mod-lt n pos) (omega (arith, whole)) in
        let next : m * (n / m + 1) ≡ m * (n / m) + m = mul-add m (n / m) 1 ∙ ap (λ (a : ℕ). m * (n / m) + a) (mul-one m) in
        let full : n + shortfall m n ≡ m * (n / m + 1) = omega (arith, whole, wants, next, mod-lt n pos) in
        record {
          reach = ap (λ (a : ℕ). a % m) full ∙ mul-mod_right m (n / m + 1);
          least = λ z e. fewer z e wants (dec_lt z (m - n % m));
        }
      where
        fewer : (z : ℕ) → (n + z) % m ≡ 0 → shortfall m n ≡ m - n % m → Dec (z < m - n % m) → shortfall m n ≤ z
        fewer z e wants (yes h) =
            absurd (omega (arith, some, e, remainder (n + z) m (n / m) (n % m + z) (omega arith) (omega (arith, whole))))
        fewer z e wants (no h) = omega (arith, wants)
    by (no none) =
        let wants : shortfall m n ≡ 0 = complete n m (n / m) pos (omega (arith, whole)) in
        record {
          reach = ap (λ (a : ℕ). (n + a) % m) wants ∙ ap (λ (a : ℕ). a % m) {x = n + 0} {y = m * (n / m)} (omega (arith, whole)) ∙ mul-mod_right m (n / m);
          least = λ z e. omega (arith, wants);
        }

-- 01 and the zero bytes bring n bytes to the next multiple.
next_multiple : (m n : ℕ) → 0 < m → n + 1 + shortfall m (n + 1) ≡ m * (n / m + 1)
next_multiple m n pos = by (dec_lt (n % m + 1) m)
  where
    whole : m * (n / m) + n % m ≡ n
    whole = div-add-mod n m

    next : m * (n / m + 1) ≡ m * (n / m) + m
    next = mul-add m (n / m) 1 ∙ ap (λ (a : ℕ). m * (n / m) + a) (mul-one m)

    by : Dec (n % m + 1 < m) → n + 1 + shortfall m (n + 1) ≡ m * (n / m + 1)
    by (yes h) = omega (arith, whole, next, wanting (n + 1) m (n / m) (n % m + 1) (omega arith) h (omega (arith, whole)))
    by (no h) = omega (arith, whole, next, mod-lt n pos, complete (n + 1) m (n / m + 1) pos (omega (arith, whole, next, mod-lt n pos)))

pub padded_length : (m : ℕ) (bytes : List ℕ) → 0 < m → length (padded_to m bytes) ≡ m * (length bytes / m + 1)
unfolding padded_to
padded_length m bytes pos =
    let marked : length (bytes ++ (1 ∷ [])) ≡ length bytes + 1 = length-append bytes (1 ∷ []) in
    length-append (bytes ++ (1 ∷ [])) (replicate (shortfall m (length (bytes ++ (1 ∷ [])))) 0)
    ∙ ap (λ (a : ℕ). length (bytes ++ (1 ∷ [])) + a) (length-replicate {A = ℕ} (shortfall m (length (bytes ++ (1 ∷ [])))) 0)
    ∙ ap (λ (a : ℕ). a + shortfall m a) marked
    ∙ next_multiple m (length bytes) pos
