-- Products and powers of any numbers: the remainder is the word, and congruent numbers have the same.
use mathlib.Core.Path.{◌≡◌, refl, sym, ap, ◌∙◌}
use mathlib.Core.List.{List, [], ◌∷◌}
use Prim.Native.Nat.{ℕ, ◌*◌, ◌^◌, ◌%◌, ◌<◌}
use native.Mathlib.Nat.{mod-lt}
use Rattle.modular.specs.Arithmetic.{mul, pow}
use Rattle.modular.specs.Congruence.{◌≈⟨◌⟩◌}
use Rattle.modular.proofs.Congruence.{mod≈, mul≈, pow≈, rest≈, sym≈}
use Rattle.refusals.specs.Table.{done, reply, not_words}
use Rattle.refusals.proofs.Table.{all_passed, words_applied, words_passed}
use Rattle.field_entries.specs.Arithmetic.{product_reply, power_reply}
use Rattle.field_entries.specs.Statements.{IsWordOf, AsBefore, OfAnyNumbers, AnyNumbers}

module _ (p : ℕ) (positive : 0 < p) where
  -- a number's residue is the word that stands for it
  residue_of : (n : ℕ) → IsWordOf p n (done (n % p ∷ []))
  residue_of n = record {
    word = n % p;
    answered = refl;
    below = mod-lt n positive;
    congruent = mod≈ n;
    only = λ other h e. sym (rest≈ h (sym≈ e));
  }

  alike : (m n : ℕ) → m ≈⟨ p ⟩ n → done (m % p ∷ []) ≡ done (n % p ∷ [])
  alike m n e = ap (λ (x : ℕ). done (x ∷ [])) e.same

  as_before : (operands result : List ℕ) → AsBefore p operands (reply (not_words p operands ∷ []) result) (done result)
  as_before operands result = record {
    words = λ e. sym (words_passed p operands [] result e ∙ all_passed result);
    others = words_applied p operands [] result;
  }

  of_any_numbers : OfAnyNumbers p
  unfolding product_reply power_reply mul pow
  of_any_numbers = record {
    product = λ a b. residue_of (a * b);
    power = λ a e. residue_of (a ^ e);
    product_by_residues = λ a b c d e f. alike (a * b) (c * d) (mul≈ e f);
    power_by_residue = λ a c e f. alike (a ^ e) (c ^ e) (pow≈ f e);
    product_as_before = λ a b. as_before (a ∷ b ∷ []) (a * b % p ∷ []);
    power_as_before = λ a e. as_before (a ∷ []) (a ^ e % p ∷ []);
  }

pub any_numbers : AnyNumbers
any_numbers = of_any_numbers
