-- What is claimed of the permutation and its inverse, for every prime of modular's record PrimeField.
use Rattle.std.specs.Prelude.{◌≡◌, ◌≢◌, ◌⊎◌, List, ℕ, ◌+◌, ◌%◌, ◌<◌, ◌≤◌, length, get_or, take}
use Rattle.modular.specs.PrimeField.{PrimeField}
use Rattle.poseidon2.specs.Layers.{sum, external, sums, m4_blocks, internal}
use Rattle.poseidon2.specs.Rounds.{permute}
use Rattle.poseidon2.specs.Compression.{compress}
use Rattle.poseidon2.specs.Residues.{residues}
use Rattle.poseidon2.specs.Inverse.{inverses, zeros, unexternal, uninternal, unpermute}

-- The widths that a set may have (Rules 2.1).
abbrev pub Width : ℕ → Type 0
Width t = (t ≡ 4) ⊎ ((t ≡ 8) ⊎ (t ≡ 12))

-- Each number of the list is a word. (Beyond its end `get_or` gives 0, which is one.)
pub record Words (p : ℕ) (xs : List ℕ) : Type 0 where
  pub at : (i : ℕ) → get_or xs i 0 < p

-- A state (Rules 3.1).
pub record State (p t : ℕ) (xs : List ℕ) : Type 0 where
  pub width : length xs ≡ t
  pub words : Words p xs

-- What refusals 7 to 9 leave (Rules 2.3): D is t words, at most one of them 0, and where none is, 1 and their inverses do not add up to 0.
pub record AcceptedDiagonal (p t : ℕ) (D : List ℕ) : Type 0 where
  pub width : length D ≡ t
  pub words : Words p D
  pub few_zeros : zeros D ≤ 1
  pub sum_nonzero : zeros D ≡ 0 → 0 < (1 + sum (inverses p D)) % p

-- f and g take states of t words to states of t words, and each undoes the other.
pub record Undo (p t : ℕ) (f g : List ℕ → List ℕ) : Type 0 where
  pub to : (xs : List ℕ) → State p t xs → State p t (f xs)
  pub from : (ys : List ℕ) → State p t ys → State p t (g ys)
  pub back : (xs : List ℕ) → State p t xs → g (f xs) ≡ xs
  pub forth : (ys : List ℕ) → State p t ys → f (g ys) ≡ ys

-- The layers and the permutation have their inverses: for every width, every accepted D (of which the first t places count), every
-- C and any numbers of rounds.
pub record Invertible (p : ℕ) : Type 0 where
  pub external_layer : (t : ℕ) → Width t → Undo p t (external p) (unexternal p)
  pub internal_layer : (t : ℕ) (D : List ℕ) → AcceptedDiagonal p t D → Undo p t (internal p D) (uninternal p D)
  pub permutation : (t half rp : ℕ) (D C : List ℕ) → Width t → AcceptedDiagonal p t (take t D)
      → Undo p t (permute p half rp D C) (unpermute p half rp D C)

-- Two different states of t words that f takes to one: so nothing undoes f.
pub record Merges (p t : ℕ) (f : List ℕ → List ℕ) : Type 0 where
  pub one : List ℕ
  pub other : List ℕ
  pub one_state : State p t one
  pub other_state : State p t other
  pub different : one ≢ other
  pub same_image : f one ≡ f other

-- M_I where a D of t words is not accepted, for any t: two or more of the words are 0; or none is, and 1 and their inverses add up to 0.
pub record Singular (p : ℕ) : Type 0 where
  pub several_zeros : (t : ℕ) (D : List ℕ) → State p t D → 1 < zeros D → Merges p t (internal p D)
  pub sum_zero : (t : ℕ) (D : List ℕ) → State p t D → zeros D ≡ 0 → (1 + sum (inverses p D)) % p ≡ 0 → Merges p t (internal p D)

-- The permutation of t numbers is t words, and their compression l words, whatever D and C are.
pub record Sizes (p : ℕ) : Type 0 where
  pub permutation : (t half rp : ℕ) (D C xs : List ℕ) → Width t → length xs ≡ t → State p t (permute p half rp D C xs)
  pub compression : (t l half rp : ℕ) (D C xs : List ℕ) → Width t → length xs ≡ t → l ≤ t → State p l (compress p l half rp D C xs)

-- Layers, permutation and compression depend on nothing but the residues of the numbers that they are handed.
pub record OnResidues (p : ℕ) : Type 0 where
  pub external_layer : (xs : List ℕ) → external p (residues p xs) ≡ external p xs
  pub internal_layer : (D xs : List ℕ) → internal p D (residues p xs) ≡ internal p D xs
  pub permutation : (half rp : ℕ) (D C xs : List ℕ) → permute p half rp D C (residues p xs) ≡ permute p half rp D C xs
  pub compression : (l half rp : ℕ) (D C xs : List ℕ) → compress p l half rp D C (residues p xs) ≡ compress p l half rp D C xs

-- M_E by its halves (Rules 3.10), for any p, prime or not, and every list of numbers, a state of any width among them: the sums and then
-- M4 in each block are M_E, and so are M4 in each block and then the sums; four numbers are a block alone, and the sums leave them.
pub record SumsFirst (p : ℕ) : Type 0 where
  pub sums_then_m4 : (xs : List ℕ) → m4_blocks p (sums p xs) ≡ external p xs
  pub m4_then_sums : (xs : List ℕ) → sums p (m4_blocks p xs) ≡ external p xs
  pub alone : (xs : List ℕ) → length xs ≡ 4 → sums p xs ≡ xs

-- All of it, for every prime of the record.
pub record Claims (p : ℕ) (F : PrimeField p) : Type 0 where
  pub invertible : Invertible p
  pub singular : Singular p
  pub sizes : Sizes p
  pub on_residues : OnResidues p
