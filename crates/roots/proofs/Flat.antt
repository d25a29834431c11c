-- A state block by block: what holds of the numbers of each block holds of all.
use mathlib.Core.Path.{◌≡◌, refl}
use mathlib.Core.List.{List, []}
use Prim.Native.Nat.{ℕ, zero, suc, ◌+◌, ◌<◌}
use native.Mathlib.Omega.{arith}
use lib.ListN.{get_or}
use Rattle.modular.specs.Goldilocks.{p}
use Rattle.poseidon2.specs.Residues.{residues}
use Rattle.blocks.specs.Blocks.{four, flat_from, flat}
use Rattle.blocks.proofs.Lists.{append_eq}
use Rattle.roots.specs.Powers.{products}

-- block k of r has the products of the blocks of a and b
abbrev pub ProductsAt : List (List ℕ) → List (List ℕ) → List (List ℕ) → ℕ → Type 0
ProductsAt a b r k = residues p (four (get_or r k [])) ≡ products p (four (get_or a k [])) (four (get_or b k []))

products_from : (i n : ℕ) (a b r : List (List ℕ)) → ((k : ℕ) → k < i + n → ProductsAt a b r k)
    → residues p (flat_from i n r) ≡ products p (flat_from i n a) (flat_from i n b)
unfolding products residues
products_from i zero a b r h = refl
products_from i (suc n) a b r h = append_eq (h i (omega arith)) (products_from (suc i) n a b r (λ k l. h k (omega arith)))

pub products_flat : (n : ℕ) (a b r : List (List ℕ)) → ((k : ℕ) → k < n → ProductsAt a b r k) → residues p (flat n r) ≡ products p (flat n a) (flat n b)
products_flat n a b r h = products_from 0 n a b r (λ k l. h k (omega arith))

-- block k of r has the residues of that of x
abbrev pub ResiduesAt : List (List ℕ) → List (List ℕ) → ℕ → Type 0
ResiduesAt x r k = four (get_or r k []) ≡ residues p (four (get_or x k []))

residues_from : (i n : ℕ) (x r : List (List ℕ)) → ((k : ℕ) → k < i + n → ResiduesAt x r k) → flat_from i n r ≡ residues p (flat_from i n x)
unfolding residues
residues_from i zero x r h = refl
residues_from i (suc n) x r h = append_eq (h i (omega arith)) (residues_from (suc i) n x r (λ k l. h k (omega arith)))

pub residues_flat : (n : ℕ) (x r : List (List ℕ)) → ((k : ℕ) → k < n → ResiduesAt x r k) → flat n r ≡ residues p (flat n x)
residues_flat n x r h = residues_from 0 n x r (λ k l. h k (omega arith))
