-- What is used of a prime, as a record (Rules 1.7), and what is claimed of every prime of the record. A second prime is a second instance.
use Rattle.std.specs.Prelude.{◌≡◌, ◌⊎◌, List, ℕ, suc, ◌*◌, ◌-◌, ◌^◌, ◌<◌, ◌≤◌, T}
use Rattle.modular.specs.Arithmetic.{mul, pow, inverse, seventh_root}
use Rattle.modular.specs.Certificate.{certifies}

-- Fermat's theorem for p. That p is above 3 makes 2 and 3 invertible, as the layers of the permutation need.
pub record Fermat (p : ℕ) : Type 0 where
  pub above : 3 < p
  pub power : (x : ℕ) → 0 < x → x < p → pow p x (p - 1) ≡ 1

-- The facts of a prime: Fermat's theorem, and an exponent that undoes 7, their product being 1 above a multiple of p - 1.
pub record PrimeField (p : ℕ) : Type 0 where
  pub fermat : Fermat p
  pub root_exponent : ℕ
  pub turns : ℕ
  pub undoes : 7 * root_exponent ≡ suc ((p - 1) * turns)

-- What a passed certificate shows.
abbrev pub Certified : Type 0
Certified = (p g : ℕ) (factors : List ℕ) → T (certifies p g factors) → Fermat p

-- Each word but 0 has an inverse, one alone, and it is a power of the word.
pub record Inverses (p : ℕ) : Type 0 where
  pub word : (x : ℕ) → inverse p x < p
  pub product : (x : ℕ) → 0 < x → x < p → mul p x (inverse p x) ≡ 1
  pub only : (x y : ℕ) → 0 < x → x < p → y < p → mul p x y ≡ 1 → y ≡ inverse p x
  pub power : (x : ℕ) → 0 < x → x < p → inverse p x ≡ pow p x (p - 2)
  pub none : inverse p 0 ≡ 0

-- A product of words is 0 only where one of them is.
abbrev pub NoZeroDivisors : ℕ → Type 0
NoZeroDivisors p = (x y : ℕ) → x < p → y < p → mul p x y ≡ 0 → (x ≡ 0) ⊎ (y ≡ 0)

-- The seventh power and the seventh root undo one another on the words, and the root is a power.
pub record SeventhRoots (p : ℕ) (F : PrimeField p) : Type 0 where
  pub word : (y : ℕ) → seventh_root p y < p
  pub root_of_power : (x : ℕ) → x < p → seventh_root p (pow p x 7) ≡ x
  pub power_of_root : (y : ℕ) → y < p → pow p (seventh_root p y) 7 ≡ y
  pub power : (y : ℕ) → y < p → seventh_root p y ≡ pow p y F.root_exponent

-- The laws of a prime, which the proofs give for every one of the record.
pub record PrimeLaws (p : ℕ) (F : PrimeField p) : Type 0 where
  pub inverses : Inverses p
  pub no_zero_divisors : NoZeroDivisors p
  pub seventh_roots : SeventhRoots p F

-- How many bytes a word of p takes (Rules 7.8): all numbers of so many bytes are words, and not all of one byte more.
pub record WordBytes (p size : ℕ) : Type 0 where
  pub some : 0 < size
  pub fit : 256 ^ size ≤ p
  pub most : p < 256 ^ suc size

-- How many bits p has, its size (Rules 7.12): it fits so many, and not one fewer.
pub record PrimeBits (p size : ℕ) : Type 0 where
  pub some : 0 < size
  pub fit : p < 2 ^ size
  pub least : 2 ^ (size - 1) ≤ p
