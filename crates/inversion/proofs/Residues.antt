-- Numbers and the words that they stand for.
use mathlib.Core.Path.{◌≡◌, refl, sym, ap, ◌∙◌}
use mathlib.Core.List.{List, [], ◌∷◌, map}
use Prim.Native.Nat.{ℕ, zero, suc, ◌+◌, ◌*◌, ◌-◌, ◌%◌, ◌<◌}
use native.Mathlib.Nat.{zero-mod, mod-eq_of_lt}
use lib.ListN.{get_or, set, get_or-map}
use Rattle.modular.specs.Arithmetic.{sub}
use Rattle.modular.specs.Congruence.{◌≈⟨◌⟩◌}
use Rattle.modular.proofs.Congruence.{refl≈, eq≈, sym≈, trans≈, add≈, mul≈, mod≈}
use Rattle.fields.specs.Prime.{prime}
use Rattle.poseidon2.specs.Residues.{residues}
use Rattle.poseidon2.proofs.Words.{cons_eq}

pub set-residues : (p : ℕ) (xs : List ℕ) (i v : ℕ) → residues p (set xs i v) ≡ set (residues p xs) i (v % p)
unfolding residues
set-residues p [] i v = refl
set-residues p (x ∷ xs) zero v = refl
set-residues p (x ∷ xs) (suc i) v = cons_eq refl (set-residues p xs i v)

pub get_d_residues : (p : ℕ) (xs : List ℕ) (i : ℕ) → get_or (residues p xs) i 0 ≡ get_or xs i 0 % p
unfolding residues
get_d_residues p xs i = ap (get_or (map (λ x. x % p) xs) i) (sym (zero-mod p)) ∙ get_or-map (λ x. x % p) xs i 0

-- a factor by the word that it stands for
pub times_residue : {p : ℕ} (e : ℕ) (ys : List ℕ) (i : ℕ) → e * get_or ys i 0 ≈⟨ p ⟩ e * get_or (residues p ys) i 0
times_residue {p} e ys i = mul≈ (refl≈ {a = e}) (trans≈ (sym≈ (mod≈ (get_or ys i 0))) (eq≈ (sym (get_d_residues p ys i))))

-- a number less a word: a stands for x, and r for what is left of it
pub less_word : {a x s r : ℕ} → s < prime → a ≈⟨ prime ⟩ x → r ≈⟨ prime ⟩ a + (prime - s) → r % prime ≡ sub prime x s
unfolding sub
less_word {a} {x} {s} h e f = (trans≈ f (add≈ e (refl≈ {a = prime - s}))).same ∙ ap (λ (n : ℕ). (x + (prime - n)) % prime) (sym (mod-eq_of_lt h))
