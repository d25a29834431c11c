use mathlib.Core.Path.{◌∙◌, ap}
use Prim.Native.Nat.{ℕ, ◌*◌, ◌%◌}
use Rattle.modular.specs.Arithmetic.{mul}
use Rattle.modular.proofs.Congruence.{refl≈, sym≈, trans≈, mul≈, mod≈}
use Rattle.fields.specs.Prime.{prime}
use Rattle.inversion.proofs.Residues.{less_word}
use Rattle.inversion.proofs.internal.multiple_less.Goals as goal

pub returns : goal.returns
unfolding mul
returns c =
    let a = c.args in
    (trans≈ c.lazy_product.ensures (mul≈ (refl≈ {a = a.inverse}) (sym≈ (mod≈ c.lazy_difference.result)))).same
    ∙ ap (λ (n : ℕ). a.inverse * n % prime) (less_word c.requires (sym≈ (mod≈ a.x)) c.lazy_difference.ensures)
